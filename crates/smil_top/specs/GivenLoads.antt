-- A load that a host gives to a session by a call.
use Rattle.std.specs.Prelude.{◌≡◌, ℕ, suc, ◌+◌, ◌<◌, ◌≤◌, ◌==◌, true, false, codes, length, List, [], ◌∷◌, ◌++◌, Some, None, Result, Ok, Err, IsSome, if◌then◌else◌}
use Rattle.std.specs.List.{slice_split}
use Rattle.smil_model.specs.declared.limits.TheConstants.{LINE_BYTES}
use Rattle.smil_model.specs.declared.order.Refusal.{Refusal}
use Rattle.smil_model.specs.document.Words.{line_feed}
use Rattle.smil_model.specs.shown.Answers.{IsRefusedBy}
use Rattle.smil_model.specs.shown.Orders.{Presentation}
use Rattle.smil_grammar.specs.Scripts.{opens_load}
use Rattle.smil_report.specs.declared.records.Change.{Change}
use Rattle.smil_report.specs.Records.{as_records}
use Rattle.smil_report.specs.Tellings.{load_told}
use Rattle.smil_top.specs.declared.fault.Fault.{Fault}
use Rattle.smil_top.specs.declared.held.CallRefusal.{CallRefusal}
use Rattle.smil_top.specs.declared.held.CallRefusal.TheVariants.{OpenLoad, Refused, TooManyCalls}
use Rattle.smil_top.specs.declared.held.Held.{Held}
use Rattle.smil_top.specs.declared.session.Session.{Session as SessionSoFar}
use Rattle.smil_top.specs.Answers.{AcceptedOrder, Answer, answer_of as order_answer}
use Rattle.smil_top.specs.Cut.{CutLines, NumberedLine, OrderLines, cut_further, ends, is_silent, load}
use Rattle.smil_top.specs.Held.{IsHeld, last_number}
use Rattle.smil_top.specs.Houses.{Keeps}
use Rattle.smil_top.specs.Session.{Session}
use Rattle.smil_top.specs.Transcript.{MayAnswer, TranscriptState, with_answer}

-- ---- the lines of a load

-- the lines of an outline: what stands between its line feeds
abbrev pub outline_lines : List ℕ → List (List ℕ)
outline_lines text = slice_split (λ b. b == line_feed) text

-- those that aren't silent, numbered from a number on
abbrev pub nodes_from : ℕ → List (List ℕ) → List NumberedLine
nodes_from number [] = []
nodes_from number (line ∷ lines) =
    if is_silent line then nodes_from (suc number) lines
    else record { number = number; text = line } ∷ nodes_from (suc number) lines

-- the number of the line that ends the load, where so many lines stand before it
abbrev pub end_behind : ℕ → List ℕ → ℕ
end_behind count outline = suc (suc count + length (outline_lines outline))

-- the load of the line that opens it and of an outline
abbrev pub load_behind : ℕ → List ℕ → List ℕ → OrderLines
load_behind count head outline =
    load
    (record {
      head = record { number = suc count; text = head };
      nodes = nodes_from (suc (suc count)) (outline_lines outline);
    })
    (Some (end_behind count outline))

-- the lines with such a load, which no line of the outline ends
abbrev pub with_load : CutLines → List ℕ → List ℕ → CutLines
with_load cut head outline = record {
  count = end_behind cut.count outline;
  whole = cut.whole ++ load_behind cut.count head outline ∷ [];
  «open» = None;
}

-- ---- by the presentations

-- one more presentation is held; these are the records of what is told of it
pub record IsLoadRecorded (changes : List Change) (before after : Session) : Type 0 where
  pub name : List ℕ
  pub loaded : Presentation
  pub held_is :
      after.held ≡ before.held ++ record { name = name; presentation = loaded } ∷ []
  pub changes_are : changes ≡ load_told as_records loaded

-- what is wanted was carried out, and recorded; or it was refused, unless memory ran out:
-- nothing is recorded, and all is kept as it was
abbrev pub RecordsGiven : Result (Unit {0}) Refusal → List Change → SessionSoFar → Session
    → Result AcceptedOrder Refusal → Type 0
RecordsGiven (Ok done) changes so_far session wanted =
    (accepted : AcceptedOrder) × (wanted ≡ Ok accepted) × Keeps so_far accepted.session
    × IsLoadRecorded changes session accepted.session
RecordsGiven (Err refusal) changes so_far session wanted =
    (changes ≡ []) × Keeps so_far session × IsRefusedBy wanted refusal

-- the same of a whole order
abbrev pub RecordsLoad : Result (Unit {0}) Fault → List Change → SessionSoFar → Session
    → OrderLines → Type 0
RecordsLoad (Ok done) changes so_far session order =
    (accepted : AcceptedOrder) × (order_answer session order ≡ Ok accepted)
    × Keeps so_far accepted.session × IsLoadRecorded changes session accepted.session
RecordsLoad (Err fault) changes so_far session order =
    (changes ≡ []) × Keeps so_far session × MayAnswer order_answer session order (Err fault)

-- what a load that was given by a call made of the presentations; where it is refused, its fault
-- stands there
abbrev pub LoadsInto : Result (Unit {0}) CallRefusal → Held → Held → Session → OrderLines → Type 0
LoadsInto (Ok done) before after session order =
    RecordsLoad (Ok tt) after.changes after.run.session session order
LoadsInto (Err (Refused refusal)) before after session order =
    (fault : Fault) × (after.fault ≡ Some fault) × (fault.refusal ≡ refusal)
    × RecordsLoad (Err fault) after.changes after.run.session session order
LoadsInto (Err OpenLoad) before after session order = after ≡ before
LoadsInto (Err TooManyCalls) before after session order = after ≡ before

-- ---- by the lines

-- what is due, or this fault
abbrev pub answered_as : Result (Unit {0}) Fault → Session → OrderLines → Answer
answered_as (Ok done) session order = order_answer session order
answered_as (Err fault) session order = Err fault

-- the session goes on as if it had been given this load
abbrev pub GoesOnLoaded : Result (Unit {0}) Fault → Held → CutLines → TranscriptState → List ℕ
    → List ℕ → Type 0
GoesOnLoaded answered after cut told head outline =
    IsHeld after (with_load cut head outline)
    (with_answer told
    (answered_as answered told.session (load_behind cut.count head outline)))

-- a load that was given by a call is one that was given by such lines: it was carried out, or
-- refused; or nothing was taken in, since a load is open, or since it may be lines too many
abbrev pub IsLikeLoad : Result (Unit {0}) CallRefusal → Held → Held → CutLines → TranscriptState
    → List ℕ → List ℕ → Type 0
IsLikeLoad (Ok done) before after cut told head outline =
    (cut.«open» ≡ None) × GoesOnLoaded (Ok tt) after cut told head outline
IsLikeLoad (Err (Refused refusal)) before after cut told head outline =
    (cut.«open» ≡ None) × (fault : Fault) × (after.fault ≡ Some fault)
    × (fault.refusal ≡ refusal) × GoesOnLoaded (Err fault) after cut told head outline
IsLikeLoad (Err OpenLoad) before after cut told head outline =
    (after ≡ before) × IsSome cut.«open»
IsLikeLoad (Err TooManyCalls) before after cut told head outline =
    (after ≡ before) × (last_number < cut.count + length outline + 3)

-- none of these lines ends a load
abbrev pub AreNodeLines : List (List ℕ) → Type 0
AreNodeLines [] = Unit {0}
AreNodeLines (line ∷ lines) = (ends line ≡ false) × AreNodeLines lines

-- outside loads such a load is what its lines are cut into, one by one and `%%` at the end, where
-- the first of them opens it and no line of the outline ends it
abbrev pub GivenLoadsAreLines : Type 0
GivenLoadsAreLines =
    (cut : CutLines) (head outline : List ℕ)
    → cut.«open» ≡ None
    → length head ≤ LINE_BYTES
    → opens_load head ≡ true
    → AreNodeLines (outline_lines outline)
    → with_load cut head outline
    ≡ cut_further cut (head ∷ outline_lines outline ++ codes "%%" ∷ [])
