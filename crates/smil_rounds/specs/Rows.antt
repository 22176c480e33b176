-- Rows of elements.
use Rattle.std.specs.Prelude.{◌≡◌, ◌≢◌, ◌⊎◌, ℕ, List, Option, Some, None, IfSome}
use Rattle.std.specs.List.{AllByRecursion}
use Rattle.smil_model.specs.declared.happening.Key.{Key}
use Rattle.smil_model.specs.declared.document.Node.{Node}
use Rattle.smil_model.specs.FirstPlaces.{AreFirstPlaces}
use Rattle.smil_laws.specs.Near.{IsIntervalNear}
use Rattle.smil_element.specs.declared.happening.change.DueChange.{DueChange}
use Rattle.smil_element.specs.Changes.{nothing_due}
use Rattle.smil_rounds.specs.declared.current_rows.CurrentRow.{CurrentRow}

-- the row of an element without an interval, of which nothing comes
abbrev pub row_without : ℕ → CurrentRow
row_without serial =
    record { serial = serial; interval = None; comings = nothing_due 0 serial }

abbrev pub empty_row : Node → CurrentRow
empty_row e = row_without e.serial

-- the numbers of each interval are near
abbrev pub AreNear : List CurrentRow → Type 0
AreNear rows = AllByRecursion (λ (r : CurrentRow). IfSome r.interval IsIntervalNear) rows

-- a table from serials to places
abbrev pub ArePlaces : (ℕ → Option ℕ) → List CurrentRow → Type 0
ArePlaces found rows = AreFirstPlaces (λ (r : CurrentRow). r.serial) found rows

-- of the two that come of an element the first where this is told of its key, else the second
abbrev pub IsChosenBy : {A : Type 0} → (Key → A) → A → Option DueChange → Option DueChange
    → Option DueChange → Type 0
IsChosenBy told code None repeat chosen = chosen ≡ repeat
IsChosenBy told code (Some moved) repeat chosen =
    ((told moved.key ≡ code) × (chosen ≡ Some moved))
    ⊎ ((told moved.key ≢ code) × (chosen ≡ repeat))

-- the first where it has this key, else the second
abbrev pub IsChosen : Key → Option DueChange → Option DueChange → Option DueChange → Type 0
IsChosen key = IsChosenBy (λ (k : Key). k) key
