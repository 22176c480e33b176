-- Which lines are orders to a presentation.
use Rattle.std.specs.Prelude.{ℕ, List, Bool, not, ◌&&◌}
use Rattle.smil_grammar.specs.Positions.{Piece}
use Rattle.smil_grammar.specs.Scripts.{first_of, is_blank, is_preference, is_presentation_name}

-- whether a line says what a presentation is to do: its first word is a presentation's name, and
-- it prefers no value
abbrev pub is_order : List ℕ → Bool
is_order line =
    let cut : Piece × Piece = first_of (record { text = line; place = 0 }) in
    not (is_blank line) && is_presentation_name cut.0.text
    && not (is_preference cut.0.text (first_of cut.1).0.text)
