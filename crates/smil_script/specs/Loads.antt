-- Where a load ends.
use Rattle.std.specs.Prelude.{ℕ, Bool, ◌&&◌, List, codes, bytes_eq}
use Rattle.smil_grammar.specs.Positions.{Piece}
use Rattle.smil_grammar.specs.Scripts.{first_of, is_ended}

-- the word `%%` alone
abbrev pub ends_load : List ℕ → Bool
ends_load line =
    let cut : Piece × Piece = first_of (record { text = line; place = 0 }) in
    bytes_eq cut.0.text (codes "%%") && is_ended cut.1
