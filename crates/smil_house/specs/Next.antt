-- When something comes next.
use Rattle.std.specs.Prelude.{◌≡◌, ℕ, ◌+◌, ℤ, pos, ◌<ℤ◌, List, [], Option, IfSome, option_map, option_and_then}
use Rattle.smil_model.specs.happening.Keys.{DueChange, coming, first_coming}
use Rattle.smil_model.specs.shown.Orders.{Presentation, changes_through, resolved_history}
use Rattle.smil_house.specs.declared.house.NamedPlayer.{NamedPlayer}
use Rattle.smil_house.specs.House.{named}

-- the moment of what comes first, if no order comes before; none where nothing does
abbrev pub next_of : Presentation → Option ℤ
next_of p =
    option_map (λ (c : DueChange). c.key.value)
    (first_coming (coming (resolved_history p) (pos p.now)))

-- an advance to a moment before this one changes nothing; none: no advance changes anything
abbrev pub NothingChangesBefore : Option ℤ → Presentation → Type 0
NothingChangesBefore next p =
    (by : ℕ) → IfSome next (λ moment. pos (p.now + by) <ℤ moment) → changes_through p by ≡ []

-- the moment of what comes first in the presentation of this name; none too where there is none
abbrev pub next_in : {P : Type 0} → (P → Presentation) → List ℕ → List (NamedPlayer P) → Option ℤ
next_in presentation name held =
    option_and_then (λ h. next_of (presentation h.player)) (named name held)
