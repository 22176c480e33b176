-- The presentations that are held, each under its name, and what is preferred in loads.
use Rattle.std.specs.Prelude.{ℕ, List, [], map, filter, find, length, Bool, not, nat_lt, bytes_eq, Option, option_map, is_some, Result, Ok, Err, if◌then◌else◌}
use Rattle.smil_model.specs.declared.limits.TheConstants.{PRESENTATIONS}
use Rattle.smil_model.specs.declared.order.Refusal.{Refusal}
use Rattle.smil_model.specs.declared.order.Refusal.TheVariants.{NameTaken, TooManyPresentations}
use Rattle.smil_model.specs.shown.Orders.{Presentation}
use Rattle.smil_switch.specs.Preferences.{Wanted, at_first}

-- a presentation and its name
pub record NamedPresentation : Type 0 where
  pub name : List ℕ
  pub presentation : Presentation

-- those that are held, in the order in which they were loaded, and what is preferred
pub record Session : Type 0 where
  pub held : List NamedPresentation
  pub wanted : Wanted

-- before the first order
abbrev pub empty_session : Session
empty_session = record { held = []; wanted = at_first }

-- whether it is the one of this name
abbrev pub is_named : List ℕ → NamedPresentation → Bool
is_named name held = bytes_eq held.name name

-- ---- a list of presentations

-- the one of this name
abbrev pub found_in : List ℕ → List NamedPresentation → Option Presentation
found_in name held =
    option_map (λ (one : NamedPresentation). one.presentation) (find (is_named name) held)

-- with another state of the one of this name
abbrev pub all_with : List ℕ → Presentation → List NamedPresentation → List NamedPresentation
all_with name after held =
    map (λ (one : NamedPresentation). if is_named name one then record
    { name = one.name; presentation = after } else one) held

-- without the one of this name
abbrev pub all_without : List ℕ → List NamedPresentation → List NamedPresentation
all_without name held = filter (λ (one : NamedPresentation). not (is_named name one)) held

-- whether one more may stand there under this name
abbrev pub may_join : List ℕ → List NamedPresentation → Result (Unit {0}) Refusal
may_join name held =
    if is_some (found_in name held) then Err NameTaken
    else (if nat_lt (length held) PRESENTATIONS then Ok tt else Err TooManyPresentations)

-- ---- a session

-- the presentation of this name
abbrev pub presentation_of : List ℕ → Session → Option Presentation
presentation_of name session = found_in name session.held

-- with another state of the presentation of this name
abbrev pub with_state : List ℕ → Presentation → Session → Session
with_state name after session =
    record session { held = all_with name after session.held }

-- without the presentation of this name
abbrev pub without : List ℕ → Session → Session
without name session = record session { held = all_without name session.held }

-- whether a presentation may be loaded under this name
abbrev pub may_load : List ℕ → Session → Result (Unit {0}) Refusal
may_load name session = may_join name session.held
