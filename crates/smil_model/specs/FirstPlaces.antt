-- Where serials stand in a list.
use Rattle.std.specs.Prelude.{◌≡◌, ◌==◌, ℕ, List, Option}
use Rattle.std.specs.List.{position}

-- a table has the first place of each serial in a list
abbrev pub AreFirstPlaces : {A : Type 0} → (A → ℕ) → (ℕ → Option ℕ) → List A → Type 0
AreFirstPlaces {A} serial places rows =
    (s : ℕ) → places s ≡ position (λ (x : A). serial x == s) rows
