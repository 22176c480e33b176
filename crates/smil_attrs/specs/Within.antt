-- Attributes that stand in a line.
use Rattle.std.specs.Prelude.{ℕ, ◌+◌, ◌≤◌, List, [], ◌∷◌, length}
use Rattle.smil_grammar.specs.Nodes.{WrittenAttr}

-- an attribute that stands within so many bytes
pub record StandsWithin (bytes : ℕ) (written : WrittenAttr) : Type 0 where
  pub name : written.name_place ≤ bytes
  pub value : written.value_place + length written.value ≤ bytes

-- attributes that all stand within so many bytes
abbrev pub AllWithin : ℕ → List WrittenAttr → Type 0
AllWithin bytes [] = Unit {0}
AllWithin bytes (written ∷ others) = StandsWithin bytes written × AllWithin bytes others
