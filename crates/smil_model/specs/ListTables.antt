-- Tables of lists by serial.
use Rattle.std.specs.Prelude.{ℕ, nat_eq, List, [], map, option_map, unwrap_or}
use Rattle.std.specs.Map.{lookup}
use Rattle.std.specs.declared.vec.Vec.{Vec}

-- the list of a serial; it is empty where there is none
abbrev pub list_in : {A : Type 0} → List (ℕ × List A) → ℕ → List A
list_in table serial = unwrap_or (lookup (nat_eq serial) table) []

module _ {A Z : Type 0} where
  -- the table with each list as its items
  abbrev pub rows : List (ℕ × Vec A Z) → List (ℕ × List A)
  rows table = map (λ (e : ℕ × Vec A Z). (e.0, e.1.items)) table

  -- the items of a serial; they are none where there is no list
  abbrev pub list_of : List (ℕ × Vec A Z) → ℕ → List A
  list_of table serial =
      unwrap_or (option_map (λ (v : Vec A Z). v.items) (lookup (nat_eq serial) table)) []
