-- Places in texts: a text that is passed word by word, and the parts into which a text is cut.
use Rattle.std.specs.Prelude.{ℕ, ◌+◌, Bool, false, List, [], ◌∷◌, drop, Result, Ok, Err, ◌==◌, if◌then◌else◌}
use Rattle.smil_grammar.specs.declared.fault.BadAt.{BadAt}

-- a text and the place up to which it was passed
pub record Position : Type 0 where
  pub text : List ℕ
  pub place : ℕ

-- the bytes that weren't passed
abbrev pub ahead : Position → List ℕ
ahead at = drop at.place at.text

-- so many bytes further on
abbrev pub passed : ℕ → Position → Position
passed n at = record { text = at.text; place = at.place + n }

-- the places where a word of so many bytes begins and ends, refused where it is empty
abbrev pub word_at : Position → ℕ → Result (ℕ × ℕ) BadAt
word_at at n = if n == 0 then Err (record { 0 = at.place }) else Ok (at.place, at.place + n)

-- a part of a text, and the place in the text at which it begins
pub record Piece : Type 0 where
  pub text : List ℕ
  pub place : ℕ

-- whether this byte stands next
abbrev pub is_next : ℕ → List ℕ → Bool
is_next wanted [] = false
is_next wanted (b ∷ bytes) = b == wanted
