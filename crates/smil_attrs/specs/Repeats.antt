-- Names that stand twice, looked for while the attributes of a line are passed.
use Rattle.std.specs.Prelude.{◌≡◌, ℕ, Bool, false, ◌||◌, List, [], ◌∷◌, IsSome, bytes_eq}
use Rattle.std.specs.List.{list_any}
use Rattle.smil_grammar.specs.Positions.{Piece}
use Rattle.smil_grammar.specs.Nodes.{WrittenAttr, repeats}
use Rattle.smil_attrs.specs.Remainder.{attributes_in, written_in}

-- whether an attribute has one of these names
abbrev pub stand_among : List (List ℕ) → List WrittenAttr → Bool
stand_among names [] = false
stand_among names (written ∷ others) =
    list_any (bytes_eq written.name) names || stand_among names others

-- whether a name stands twice behind these names, or stood twice before
abbrev pub twice_from : Bool → List (List ℕ) → List WrittenAttr → Bool
twice_from before names left = before || (stand_among names left || repeats left)

-- all of a text is of the shape of attributes, and a name stands twice or none does
pub record IsShaped (text : Piece) (twice : Bool) : Type 0 where
  pub some : IsSome (attributes_in text)
  pub names : twice ≡ repeats (written_in text)
