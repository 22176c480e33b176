-- An order that a host gives to a session by a call, and what it changes as records.
use Rattle.std.specs.Prelude.{◌≡◌, ℕ, suc, ℤ, pos, ◌≤◌, length, List, [], Option, None, Some, Result, Ok, Err, IsSome, is_some, true, false, slice_get}
use Rattle.smil_model.specs.declared.limits.TheConstants.{LINE_BYTES}
use Rattle.smil_model.specs.declared.order.Order.{Order}
use Rattle.smil_model.specs.declared.order.Refusal.{Refusal}
use Rattle.smil_model.specs.shown.Answers.{IsRefusedBy}
use Rattle.smil_model.specs.shown.Orders.{Presentation, outcome}
use Rattle.smil_grammar.specs.declared.read.Read.TheVariants.{Close, To}
use Rattle.smil_grammar.specs.Formats.{formats}
use Rattle.smil_grammar.specs.Results.{◌>>=◌}
use Rattle.smil_grammar.specs.Scripts.{line_of}
use Rattle.smil_house.specs.declared.screen.OnScreen.{OnScreen}
use Rattle.smil_house.specs.Screen.{screen_of}
use Rattle.smil_report.specs.declared.records.Change.{Change}
use Rattle.smil_report.specs.Records.{as_records}
use Rattle.smil_report.specs.Tellings.{Tells}
use Rattle.smil_top.specs.declared.held.CallRefusal.{CallRefusal}
use Rattle.smil_top.specs.declared.held.CallRefusal.TheVariants.{OpenLoad, Refused, TooManyCalls}
use Rattle.smil_top.specs.declared.held.Held.{Held}
use Rattle.smil_top.specs.declared.session.Session.{Session as SessionSoFar}
use Rattle.smil_top.specs.Answers.{AcceptedOrder, Answer, answer_of as order_answer, found_presentation}
use Rattle.smil_top.specs.Cut.{CutLines, OrderLines, first_line, single, with_line}
use Rattle.smil_top.specs.Held.{IsHeld, last_number}
use Rattle.smil_top.specs.Houses.{Keeps}
use Rattle.smil_top.specs.Session.{Session, presentation_of, with_state}
use Rattle.smil_top.specs.Transcript.{TranscriptState, with_answer}

-- a line that says this order to the presentation of this name
pub record Says (line name : List ℕ) (order : Order) : Type 0 where
  pub short : length line ≤ LINE_BYTES
  pub reading : line_of line ≡ Ok (To name order)

-- a line that closes the presentation of this name
pub record SaysClose (line name : List ℕ) : Type 0 where
  pub short : length line ≤ LINE_BYTES
  pub reading : line_of line ≡ Ok (Close name)

-- whether it was carried out, whatever it gave
abbrev pub done : {A E : Type 0} → Result A E → Result (Unit {0}) E
done (Ok given) = Ok tt
done (Err e) = Err e

-- ---- by the presentations

-- what the order makes of the presentation of this name
abbrev pub outcome_in : Session → List ℕ → Order → Result Presentation Refusal
outcome_in session name order =
    found_presentation (presentation_of name session)
    >>= λ (before : Presentation). outcome formats before order

-- the presentation of this name was carried on to the outcome, and is at this moment;
-- these are the records of what it told
pub record IsRecorded (now : ℤ) (changes : List Change) (so_far : SessionSoFar) (session : Session)
    (name : List ℕ) (order : Order) : Type 0 where
  pub before : Presentation
  pub after : Presentation
  pub found : presentation_of name session ≡ Some before
  pub tells : Tells as_records formats before after order changes
  pub now_is : now ≡ pos after.now
  pub keeps : Keeps so_far (with_state name after session)

-- the order was refused, unless memory ran out; nothing is recorded, and all is kept as it was
pub record IsRefusedIn (refusal : Refusal) (changes : List Change) (so_far : SessionSoFar)
    (session : Session) (name : List ℕ) (order : Order) : Type 0 where
  pub changes_are : changes ≡ []
  pub keeps : Keeps so_far session
  pub refused : IsRefusedBy (outcome_in session name order) refusal

abbrev pub Records : Result ℤ Refusal → List Change → SessionSoFar → Session → List ℕ → Order
    → Type 0
Records (Ok now) changes so_far session name order =
    IsRecorded now changes so_far session name order
Records (Err refusal) changes so_far session name order =
    IsRefusedIn refusal changes so_far session name order

-- what is wanted was carried out; or it was refused, and all is kept as it was
abbrev pub Closes : Result (Unit {0}) Refusal → SessionSoFar → Session
    → Result AcceptedOrder Refusal → Type 0
Closes (Ok done) so_far session wanted =
    (accepted : AcceptedOrder) × (wanted ≡ Ok accepted) × Keeps so_far accepted.session
Closes (Err refusal) so_far session wanted = Keeps so_far session × (wanted ≡ Err refusal)

-- what is held, however it came about: these presentations, and these preferences
abbrev pub HasPresentations : Held → Session → Type 0
HasPresentations held session = Keeps held.run.session session

-- what is on the screen of the element at a place
abbrev pub element_at : ℕ → Presentation → Option OnScreen
element_at index p = slice_get (screen_of p) index

-- what an order that was given by a call made of the presentations
abbrev pub CarriesOut : Result ℤ CallRefusal → Held → Held → Session → List ℕ → Order → Type 0
CarriesOut (Ok now) before after session name order =
    IsRecorded now after.changes after.run.session session name order
CarriesOut (Err (Refused refusal)) before after session name order =
    IsRefusedIn refusal after.changes after.run.session session name order
CarriesOut (Err OpenLoad) before after session name order = after ≡ before
CarriesOut (Err TooManyCalls) before after session name order = after ≡ before

-- what a close that was given by a call made of the presentations; nothing is recorded
abbrev pub ClosesIn : Result (Unit {0}) CallRefusal → Held → Held → Session
    → Result AcceptedOrder Refusal → Type 0
ClosesIn (Ok done) before after session wanted =
    (after.changes ≡ []) × Closes (Ok tt) after.run.session session wanted
ClosesIn (Err (Refused refusal)) before after session wanted =
    (after.changes ≡ []) × Closes (Err refusal) after.run.session session wanted
ClosesIn (Err OpenLoad) before after session wanted = after ≡ before
ClosesIn (Err TooManyCalls) before after session wanted = after ≡ before

-- ---- by the lines

-- a line that says such an order, behind these lines
abbrev pub next_single : CutLines → List ℕ → OrderLines
next_single cut line = single (record { number = suc cut.count; text = line })

-- the answer to the order: that which is due, or this refusal at its first line
abbrev pub answered_by : {A : Type 0} → Result A Refusal → Session → OrderLines → Answer
answered_by (Ok given) session order = order_answer session order
answered_by (Err refusal) session order =
    Err (record { line = first_line order; refusal = refusal })

-- the session goes on as if it had been given this line
abbrev pub GoesOn :
    {A : Type 0} → Result A Refusal → Held → CutLines → TranscriptState → List ℕ → Type 0
GoesOn answered after cut told line =
    IsHeld after (with_line cut line)
    (with_answer told (answered_by answered told.session (next_single cut line)))

-- an order that was given by a call is one that was given by such a line: it was carried out, or
-- refused; or nothing was taken in, since a load is open, or since it was one too many
abbrev pub IsLikeLine :
    {A : Type 0} → Result A CallRefusal → Held → Held → CutLines → TranscriptState → List ℕ
    → Type 0
IsLikeLine {A} (Ok given) before after cut told line = GoesOn {A = A} (Ok given) after cut told line
IsLikeLine {A} (Err (Refused refusal)) before after cut told line =
    GoesOn {A = A} (Err refusal) after cut told line
IsLikeLine (Err OpenLoad) before after cut told line = (after ≡ before) × IsSome cut.«open»
IsLikeLine (Err TooManyCalls) before after cut told line =
    (after ≡ before) × (last_number ≤ cut.count)

-- an order was taken in: there was room for one more, no load is open, and it is counted
abbrev pub IsTakenIn : Held → Held → Type 0
IsTakenIn before after =
    (suc before.number ≤ last_number) × (is_some before.run.load ≡ false)
    × (after.number ≡ suc before.number) × (after.run.load ≡ before.run.load)

-- it was taken in unless it was one too many, or a load is open, and the result says which
abbrev pub SaysWhetherTaken : {A : Type 0} → Result A CallRefusal → Held → Held → Type 0
SaysWhetherTaken (Ok given) before after = IsTakenIn before after
SaysWhetherTaken (Err (Refused refusal)) before after = IsTakenIn before after
SaysWhetherTaken (Err OpenLoad) before after =
    (suc before.number ≤ last_number) × (is_some before.run.load ≡ true)
SaysWhetherTaken (Err TooManyCalls) before after = before.number ≡ last_number

-- where an order was carried out or refused
abbrev pub WhereTaken : {A : Type 0} → Result A CallRefusal → Type 0 → Type 0
WhereTaken (Ok given) fact = fact
WhereTaken (Err (Refused refusal)) fact = fact
WhereTaken (Err OpenLoad) fact = Unit {0}
WhereTaken (Err TooManyCalls) fact = Unit {0}

-- where its fault stands: at its line where it was refused, nowhere where it was carried out;
-- it stays where nothing was taken in
abbrev pub StandsAt : {A : Type 0} → Result A CallRefusal → Held → Held → Type 0
StandsAt (Ok given) before after = after.fault ≡ None
StandsAt (Err (Refused refusal)) before after =
    after.fault ≡ Some (record { line = suc before.number; refusal = refusal })
StandsAt (Err OpenLoad) before after = after.fault ≡ before.fault
StandsAt (Err TooManyCalls) before after = after.fault ≡ before.fault
