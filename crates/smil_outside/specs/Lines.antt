-- The lines of a text that a line feed ends, each without one carriage return before it.
-- All lines, one behind the last line feed too, are std's `lines`.
use Rattle.std.specs.Prelude.{◌≡◌, ◌≢◌, ℕ, ◌<◌, ◌==◌, List, [], ◌∷◌, ◌++◌, length, slice_index, EachIndex}
use Rattle.std.specs.List.{slice_split}
use Rattle.std.specs.Str.Lines.{strip_carriage_return}
use Rattle.smil_model.specs.document.Words.{line_feed}

-- the parts of a text between its line feeds, one more than line feeds
abbrev pub parts : List ℕ → List (List ℕ)
parts text = slice_split (λ byte. byte == line_feed) text

-- the lines that a line feed ends: each part but the last, less one carriage return at its end
abbrev pub whole_lines_of_parts : List (List ℕ) → List (List ℕ)
whole_lines_of_parts [] = []
whole_lines_of_parts (last ∷ []) = []
whole_lines_of_parts (part ∷ next ∷ more) =
    strip_carriage_return part ∷ whole_lines_of_parts (next ∷ more)

abbrev pub whole_lines : List ℕ → List (List ℕ)
whole_lines text = whole_lines_of_parts (parts text)

-- no byte of the text is a line feed
abbrev pub HasNoLineFeed : List ℕ → Type 0
HasNoLineFeed text = EachIndex text (λ k. slice_index text k ≢ line_feed)

-- the text begins with a line that a line feed ends, and `rest` follows it
pub record StartsWithLine (text line rest : List ℕ) : Type 0 where
  pub part : List ℕ
  pub cut : text ≡ part ++ line_feed ∷ rest
  pub uncut : HasNoLineFeed part
  pub stripped : line ≡ strip_carriage_return part

-- the text is one line, which no line feed ends
pub record IsUnendedLine (text line : List ℕ) : Type 0 where
  pub same : line ≡ text
  pub uncut : HasNoLineFeed text
  pub some : 0 < length text
