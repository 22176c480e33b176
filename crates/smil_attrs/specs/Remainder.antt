-- Node lines attribute by attribute.
use Rattle.std.specs.Prelude.{◌≡◌, ◌<◌, List, [], length, Option, Some, None, unwrap_or, if◌then◌else◌}
use Rattle.std.specs.List.{list_all}
use Rattle.smil_grammar.specs.Positions.{Piece}
use Rattle.smil_grammar.specs.Nodes.{WrittenAttr, is_space, quote_pieces, attributes_at, with_written}

-- the attributes that are left
abbrev pub attributes_in : Piece → Option (List WrittenAttr)
attributes_in left = attributes_at left.place (quote_pieces left.text)

-- the same, where all of what is left has the shape of attributes
abbrev pub written_in : Piece → List WrittenAttr
written_in left = unwrap_or (attributes_in left) []

-- the first attribute was passed; where there is none, only spaces are of the shape of attributes
abbrev pub Passes : Piece → Option WrittenAttr → Piece → Type 0
Passes old None new =
    (new ≡ old) × (attributes_in old ≡ (if list_all is_space old.text then Some [] else None))
Passes old (Some written) new =
    (attributes_in old ≡ with_written (Some written) (attributes_in new))
    × (length new.text < length old.text)
