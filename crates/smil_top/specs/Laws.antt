-- Laws over transcripts, each the contract of a function of its own.
use Rattle.std.specs.Prelude.{◌≡◌, ◌⊎◌, ℕ, Bool, true, false, not, ◌&&◌, ◌||◌, List, [], ◌∷◌, ◌++◌, map, filter, fold, flat_map, bytes_eq, codes, decimal, Option, Some, None, option_map, Result, Ok, Err, if◌then◌else◌}
use Rattle.std.specs.List.{list_any, AllZip}
use Rattle.std.specs.Str.Lines.{lines}
use Rattle.smil_model.specs.declared.order.Refusal.{Refusal}
use Rattle.smil_model.specs.declared.order.Refusal.TheVariants.{Memory, TooManyPresentations}
use Rattle.smil_model.specs.document.Limits.{Limits}
use Rattle.smil_model.specs.shown.Lines.{refusal_line, line_of as text_line}
use Rattle.smil_outside.specs.Lines.{whole_lines}
use Rattle.smil_grammar.specs.declared.read.Read.{Read}
use Rattle.smil_grammar.specs.declared.read.Read.TheVariants.{Load, LoadAt, Close}
use Rattle.smil_grammar.specs.Positions.{Piece}
use Rattle.smil_grammar.specs.Scripts.{first_of, is_preference, is_presentation_name, line_of}
use Rattle.smil_laws.specs.Migration.{AreBelow, is_for_limit}
use Rattle.smil_top.specs.declared.fault.Fault.{Fault}
use Rattle.smil_top.specs.Cut.{NumberedLine, OrderLines, single, load, first_line, whole_orders, orders}
use Rattle.smil_top.specs.Session.{Session, empty_session, is_named, presentation_of}
use Rattle.smil_top.specs.Answers.{Answer, at_line, answer_within, check_within}
use Rattle.smil_top.specs.Transcript.{Answering, TranscriptState, untold, takes_memory, with_answer, is_memory, IsTranscriptBy, transcript_by}

-- ---- transcripts, answer by answer

-- an order, and whether memory runs out at it, where any is taken for it
pub record OrderAttempt : Type 0 where
  pub order : OrderLines
  pub lacks : Bool

-- the orders alone
abbrev pub orders_of : List OrderAttempt → List OrderLines
orders_of tried = map (λ (one : OrderAttempt). one.order) tried

-- memory suffices
abbrev pub with_ease : OrderLines → OrderAttempt
with_ease order = record { order = order; lacks = false }

-- what it is answered in a session
abbrev pub answer_to : Answering → Session → OrderAttempt → Answer
answer_to answering session tried =
    if tried.lacks && takes_memory tried.order
    then at_line (first_line tried.order) (Err Memory)
    else answering session tried.order

-- what orders are told in turn
abbrev pub told_by : Answering → List OrderAttempt → TranscriptState
told_by answering tried =
    fold (λ told one. with_answer told (answer_to answering told.session one)) untold tried

-- what is heard of an answer: its text, or the refusal and its line
abbrev pub Heard : Type 0
Heard = Result (List ℕ) Fault

-- an answer without the session that it leaves
abbrev pub heard : Answer → Heard
heard (Ok accepted) = Ok accepted.text
heard (Err fault) = Err fault

-- the session that an answer leaves
abbrev pub session_after : Session → Answer → Session
session_after session (Ok accepted) = accepted.session
session_after session (Err fault) = session

-- an order and what it was answered
pub record AnsweredOrder : Type 0 where
  pub order : OrderLines
  pub answer : Heard

-- orders that are answered in turn, from a session on
abbrev pub answered_from : Answering → Session → List OrderAttempt → List AnsweredOrder
answered_from answering session [] = []
answered_from answering session (one ∷ others) =
    let answer : Answer = answer_to answering session one in
    record { order = one.order; answer = heard answer }
    ∷ answered_from answering (session_after session answer) others

-- from the empty session on
abbrev pub answered_by : Answering → List OrderAttempt → List AnsweredOrder
answered_by answering tried = answered_from answering empty_session tried

-- the lines of an answer
abbrev pub answer_lines : Heard → List ℕ
answer_lines (Ok text) = text
answer_lines (Err fault) = refusal_line fault.line fault.refusal

-- whether an answer is a refusal of this kind
abbrev pub refuses_as : (Refusal → Bool) → Heard → Bool
refuses_as kind (Ok text) = false
refuses_as kind (Err fault) = kind fault.refusal

-- whether one of the answers is such a refusal
abbrev pub any_refused_as : (Refusal → Bool) → List AnsweredOrder → Bool
any_refused_as kind answered =
    list_any (λ (one : AnsweredOrder). refuses_as kind one.answer) answered

-- every transcript is what its orders are told, memory running out at some of them
abbrev pub TranscriptsAreTold : Type 0
TranscriptsAreTold =
    (answering : Answering) (orders : List OrderLines) (told : TranscriptState)
    → IsTranscriptBy answering orders told
    → (tried : List OrderAttempt) × (orders_of tried ≡ orders) × (told_by answering tried ≡ told)

-- and memory may run out at any of them
abbrev pub WhatIsToldIsTranscript : Type 0
WhatIsToldIsTranscript =
    (answering : Answering) (tried : List OrderAttempt)
    → IsTranscriptBy answering (orders_of tried) (told_by answering tried)

-- the one in which memory suffices is what they are told where it runs out at none
abbrev pub ItRunsOutAtNone : Type 0
ItRunsOutAtNone =
    (answering : Answering) (orders : List OrderLines)
    → told_by answering (map with_ease orders) ≡ transcript_by answering orders

-- its text is that of its answers, one behind another
abbrev pub TextIsOfAnswers : Type 0
TextIsOfAnswers =
    (answering : Answering) (tried : List OrderAttempt)
    → (told_by answering tried).text
    ≡ flat_map (λ (one : AnsweredOrder). answer_lines one.answer) (answered_by answering tried)

-- ---- completeness

-- no order is refused since memory ran out but where it did
abbrev pub NeverLacks : Answering → Type 0
NeverLacks answering =
    (session : Session) (order : OrderLines)
    → refuses_as is_memory (heard (answering session order)) ≡ false

-- within any limits, where it is run, and where it is checked
abbrev pub MemorySuffices : Type 0
MemorySuffices =
    (allowed : Limits) → NeverLacks (answer_within allowed) × NeverLacks (check_within allowed)

-- so orders have a transcript in which no order is refused since memory ran out
abbrev pub HasEase : Answering → Type 0
HasEase answering =
    (orders : List OrderLines)
    → IsTranscriptBy answering orders (transcript_by answering orders)
    × ((transcript_by answering orders).memory ≡ false)

-- again within any limits, where they are run, and where they are checked
abbrev pub HasTranscript : Type 0
HasTranscript =
    (allowed : Limits) → HasEase (answer_within allowed) × HasEase (check_within allowed)

-- and no other such transcript
abbrev pub HasOneTranscript : Type 0
HasOneTranscript =
    (answering : Answering) (orders : List OrderLines) (told : TranscriptState)
    → IsTranscriptBy answering orders told
    → told.memory ≡ false
    → told ≡ transcript_by answering orders

-- ---- line numbers aside

-- a line that is given another number
abbrev pub numbered_by : (ℕ → ℕ) → NumberedLine → NumberedLine
numbered_by given line = record { number = given line.number; text = line.text }

-- an order whose lines are given other numbers
abbrev pub renumbered : (ℕ → ℕ) → OrderLines → OrderLines
renumbered given (single line) = single (numbered_by given line)
renumbered given (load lines ended) =
    load
    (record { head = numbered_by given lines.head; nodes = map (numbered_by given) lines.nodes })
    (option_map given ended)

-- the line that ends a load
abbrev pub end_lines : Option ℕ → List (List ℕ)
end_lines None = []
end_lines (Some end_line) = codes "%%" ∷ []

-- the lines of an order
abbrev pub lines_of : OrderLines → List (List ℕ)
lines_of (single line) = line.text ∷ []
lines_of (load lines ended) =
    lines.head.text ∷ map (λ (line : NumberedLine). line.text) lines.nodes ++ end_lines ended

-- some of the orders of an input are the orders of their own lines, with other numbers
abbrev pub OrdersAreCutAgain : Type 0
OrdersAreCutAgain =
    (lines : List (List ℕ)) (kept : OrderLines → Bool)
    → (given : ℕ → ℕ)
    × (orders (flat_map lines_of (filter kept (orders lines)))
    ≡ map (renumbered given) (filter kept (orders lines)))

-- an order that is renumbered, with whether memory runs out at it
abbrev pub renumbered_try : (ℕ → ℕ) → OrderAttempt → OrderAttempt
renumbered_try given one = record { order = renumbered given one.order; lacks = one.lacks }

-- the last line of an accepted answer, by its number and the words behind it
abbrev pub last_line : ℕ → List (List ℕ) → List ℕ
last_line number words = text_line (codes "ok" ∷ decimal number ∷ words)

-- a refusal, with the number of the line at fault
abbrev pub refused_in : ℕ → Refusal → Fault
refused_in number refusal = record { line = number; refusal = refusal }

-- two answers are the same but for the line's number, and the number of the line at fault
pub data AreSameBut (given : ℕ → ℕ) (number : ℕ) : Heard → Heard → Type 0 where
  without_text : AreSameBut given number (Ok []) (Ok [])
  with_text : (front : List ℕ) (words : List (List ℕ)) →
      AreSameBut given number
      (Ok (front ++ last_line number words))
      (Ok (front ++ last_line (given number) words))
  refused_at : (place : ℕ) (refusal : Refusal) →
      AreSameBut given number (Err (refused_in place refusal))
      (Err (refused_in (given place) refusal))

-- answers that are the same but for these numbers, one by one
abbrev pub AllSameBut : (ℕ → ℕ) → List AnsweredOrder → List AnsweredOrder → Type 0
AllSameBut given answered others =
    AllZip (λ (one other : AnsweredOrder). AreSameBut given
    (first_line one.order) one.answer other.answer) answered others

-- orders with other line numbers have the same answers but for these, and leave the same session
pub record AreAside
    (answering : Answering) (given : ℕ → ℕ) (tried : List OrderAttempt) : Type 0 where
  pub answers : AllSameBut given (answered_by answering tried)
      (answered_by answering (map (renumbered_try given) tried))
  pub session : (told_by answering (map (renumbered_try given) tried)).session
      ≡ (told_by answering tried).session

-- for any numbers, within any limits
abbrev pub NumbersAreAside : Type 0
NumbersAreAside = (allowed : Limits) (given : ℕ → ℕ) (tried : List OrderAttempt)
    → AreAside (answer_within allowed) given tried

-- ---- isolation

-- the first word of a line
abbrev pub first_word : List ℕ → List ℕ
first_word line = (first_of (record { text = line; place = 0 })).0.text

-- whether what a line says closes this name
abbrev pub closes : List ℕ → Result Read Refusal → Bool
closes name (Ok (Close closed)) = bytes_eq closed name
closes name _ = false

-- whether what a line says loads this name
abbrev pub loads : List ℕ → Result Read Refusal → Bool
loads name (Ok (Load loaded)) = bytes_eq loaded name
loads name (Ok (LoadAt loaded start)) = bytes_eq loaded name
loads name _ = false

-- whether a line's first two words say that it prefers a value
abbrev pub prefers : List ℕ → Bool
prefers line =
    let cut : Piece × Piece = first_of (record { text = line; place = 0 }) in
    is_preference cut.0.text (first_of cut.1).0.text

-- the orders that prefer a value, or would if it had a reading
abbrev pub is_preferring : OrderLines → Bool
is_preferring (single line) = prefers line.text
is_preferring (load lines ended) = false

-- the orders of a name: the lines whose first word it is but those that prefer a value,
-- and its `close` and `load` orders
abbrev pub is_of : List ℕ → OrderLines → Bool
is_of name (single line) =
    (bytes_eq (first_word line.text) name && not (prefers line.text))
    || closes name (line_of line.text)
is_of name (load lines ended) = loads name (line_of lines.head.text)

-- the orders by which what is told of a name goes: its own, and those that prefer a value
abbrev pub concerns : List ℕ → OrderLines → Bool
concerns name order = is_of name order || is_preferring order

-- what a session has of a name, and what it prefers
abbrev pub part_of : List ℕ → Session → Session
part_of name session = record session { held = filter (is_named name) session.held }

-- the refusal of a load where as many are held as may be
abbrev pub is_too_many : Refusal → Bool
is_too_many TooManyPresentations = true
is_too_many _ = false

-- an order is of one presentation's name at most
abbrev pub IsOfOneName : Type 0
IsOfOneName =
    (name other : List ℕ) (order : OrderLines)
    → is_presentation_name name ≡ true → is_presentation_name other ≡ true
    → is_of name order ≡ true → is_of other order ≡ true
    → name ≡ other

-- an order leaves what the session has of every other name
abbrev pub OthersStay : Type 0
OthersStay =
    (allowed : Limits) (name : List ℕ) (session : Session) (order : OrderLines)
    → is_of name order ≡ false
    → (part_of name (session_after session (answer_within allowed session order))).held
    ≡ (part_of name session).held

-- so the presentation that has the name, if one has, is as it was
abbrev pub PresentationsStay : Type 0
PresentationsStay =
    (allowed : Limits) (name : List ℕ) (session : Session) (order : OrderLines)
    → is_of name order ≡ false
    → presentation_of name (session_after session (answer_within allowed session order))
    ≡ presentation_of name session

-- an order that prefers a value is of no name
abbrev pub PreferringIsOfNone : Type 0
PreferringIsOfNone =
    (name : List ℕ) (order : OrderLines)
    → is_preferring order ≡ true
    → is_of name order ≡ false

-- it leaves all presentations that are held
abbrev pub HeldStay : Type 0
HeldStay =
    (allowed : Limits) (session : Session) (order : OrderLines)
    → is_preferring order ≡ true
    → (session_after session (answer_within allowed session order)).held ≡ session.held

-- and every other order leaves what is preferred
abbrev pub PreferencesStay : Type 0
PreferencesStay =
    (allowed : Limits) (session : Session) (order : OrderLines)
    → is_preferring order ≡ false
    → (session_after session (answer_within allowed session order)).wanted ≡ session.wanted

-- an order's answer follows from what the session has of its name,
-- unless the order is refused since too many are held
pub record IsOwn
    (allowed : Limits) (name : List ℕ) (session : Session) (order : OrderLines) : Type 0 where
  pub answer : heard (answer_within allowed (part_of name session) order)
      ≡ heard (answer_within allowed session order)
  pub after :
      session_after (part_of name session) (answer_within allowed (part_of name session) order)
      ≡ part_of name (session_after session (answer_within allowed session order))

-- for each order of a presentation's name
abbrev pub AnswersAreOwn : Type 0
AnswersAreOwn =
    (allowed : Limits) (name : List ℕ) (session : Session) (order : OrderLines)
    → is_presentation_name name ≡ true
    → is_of name order ≡ true
    → refuses_as is_too_many (heard (answer_within allowed session order)) ≡ false
    → IsOwn allowed name session order

-- the orders of a name, and those that prefer a value
abbrev pub own_tried : List ℕ → List OrderAttempt → List OrderAttempt
own_tried name tried = filter (λ (one : OrderAttempt). concerns name one.order) tried

-- the answers to the orders of a name
abbrev pub own_answered : List ℕ → List AnsweredOrder → List AnsweredOrder
own_answered name answered = filter (λ (one : AnsweredOrder). is_of name one.order) answered

-- so the answers to the orders of a name, and what is left of it,
-- are those of a session that has these orders and those that prefer a value alone,
-- where none is refused since too many are held; line numbers are aside,
-- and memory may run out at any order
pub record IsAlone
    (answering : Answering) (name : List ℕ) (tried : List OrderAttempt) : Type 0 where
  pub answers :
      own_answered name (answered_by answering tried)
      ≡ own_answered name (answered_by answering (own_tried name tried))
  pub session : part_of name (told_by answering tried).session
      ≡ (told_by answering (own_tried name tried)).session
  pub aside : (given : ℕ → ℕ) →
      AllSameBut given (own_answered name (answered_by answering tried))
      (own_answered name
      (answered_by answering (map (renumbered_try given) (own_tried name tried))))

-- for each presentation's name, within any limits
abbrev pub NamesAreIsolated : Type 0
NamesAreIsolated =
    (allowed : Limits) (name : List ℕ) (tried : List OrderAttempt)
    → is_presentation_name name ≡ true
    → any_refused_as is_too_many (answered_by (answer_within allowed) tried) ≡ false
    → IsAlone (answer_within allowed) name tried

-- so over inputs: the answers to the orders of a name are, line numbers aside,
-- those of the input that has the lines of these orders and of those that prefer a value alone
pub record IsAloneInInput
    (answering : Answering) (name : List ℕ) (lines : List (List ℕ)) : Type 0 where
  pub own : List (List ℕ)
  pub own_is : own ≡ flat_map lines_of (filter (concerns name) (orders lines))
  pub given : ℕ → ℕ
  pub answers :
      AllSameBut given (own_answered name (answered_by answering (map with_ease (orders lines))))
      (own_answered name (answered_by answering (map with_ease (orders own))))
  pub session : part_of name (transcript_by answering (orders lines)).session
      ≡ (transcript_by answering (orders own)).session

-- where memory suffices, and no order of the whole input is refused since too many are held
abbrev pub InputsAreIsolated : Type 0
InputsAreIsolated =
    (allowed : Limits) (name : List ℕ) (lines : List (List ℕ)) → is_presentation_name name ≡ true
    → any_refused_as is_too_many
    (answered_by (answer_within allowed) (map with_ease (orders lines))) ≡ false
    → IsAloneInInput (answer_within allowed) name lines

-- ---- cuts

-- none, or one
abbrev pub AtMostOne : {A : Type 0} → List A → Type 0
AtMostOne [] = Unit {0}
AtMostOne (one ∷ []) = Unit {0}
AtMostOne _ = ⊥

-- of two inputs the orders that are whole in the whole lines of the shorter one are the first of
-- both, and it has at most one order more
pub record SharesFirstOrders (came more : List ℕ) : Type 0 where
  pub later : List OrderLines
  pub last : List OrderLines
  pub whole : orders (lines (came ++ more)) ≡ whole_orders (whole_lines came) ++ later
  pub cut : orders (lines came) ≡ whole_orders (whole_lines came) ++ last
  pub few : AtMostOne last

-- wherever the input is cut, in a line too
abbrev pub InputsAreCut : Type 0
InputsAreCut = (came more : List ℕ) → SharesFirstOrders came more

-- the transcript of the first orders is the front of the transcript of more
pub record HasFront
    (answering : Answering) (first : List OrderLines) (told : TranscriptState) : Type 0 where
  pub front : TranscriptState
  pub rest : List ℕ
  pub transcript : IsTranscriptBy answering first front
  pub text : told.text ≡ front.text ++ rest

-- for all transcripts
abbrev pub TranscriptsHaveFronts : Type 0
TranscriptsHaveFronts =
    (answering : Answering) (first later : List OrderLines) (told : TranscriptState)
    → IsTranscriptBy answering (first ++ later) told
    → HasFront answering first told

-- so the transcript of a part of an input from its front is a front of the whole one,
-- which ends where an order ends, and the answer of at most one order more
pub record IsFrontAndOne
    (answering : Answering) (came : List ℕ) (part whole : TranscriptState) : Type 0 where
  pub front : TranscriptState
  pub rest : List ℕ
  pub transcript : IsTranscriptBy answering (whole_orders (whole_lines came)) front
  pub text : whole.text ≡ front.text ++ rest
  pub one : (part ≡ front)
      ⊎ ((order : OrderLines) × (part ≡ with_answer front (answering front.session order)))

-- where memory suffices
abbrev pub TranscriptsAreCut : Type 0
TranscriptsAreCut =
    (answering : Answering) (came more : List ℕ)
    → IsFrontAndOne answering came
    (transcript_by answering (orders (lines came)))
    (transcript_by answering (orders (lines (came ++ more))))

-- and where memory ran out at some orders, the part has a transcript in which it ran out at the
-- same ones
abbrev pub AllTranscriptsAreCut : Type 0
AllTranscriptsAreCut =
    (answering : Answering) (came more : List ℕ) (whole : TranscriptState)
    → IsTranscriptBy answering (orders (lines (came ++ more))) whole
    → (part : TranscriptState) × IsTranscriptBy answering (orders (lines came)) part
    × IsFrontAndOne answering came part whole

-- ---- migration

-- a transcript without a refusal for a limit is one within larger limits
abbrev pub Migrates : (Limits → Answering) → Type 0
Migrates within =
    (small large : Limits) (tried : List OrderAttempt) → AreBelow small large
    → any_refused_as is_for_limit (answered_by (within small) tried) ≡ false
    → told_by (within large) tried ≡ told_by (within small) tried

-- where orders are run, and where they are checked
abbrev pub TranscriptsMigrate : Type 0
TranscriptsMigrate = Migrates answer_within × Migrates check_within
