-- The lines of a text that begins with a line, or is one.
use Rattle.std.proofs.Common.{◌≡◌, ◌==◌, if◌then◌else◌, ℕ, ◌<◌, false, List, [], ◌∷◌, ◌++◌, length, All, refl, ap, sym, ◌∙◌, arith, append_assoc}
use Rattle.std.specs.Str.Lines.{strip_carriage_return, lines, lines_of_parts}
use Rattle.std.proofs.lemmas.Bool.{ne_eqb}
use Rattle.std.proofs.lemmas.List.{get_or_default}
use Rattle.std.proofs.lemmas.List.Splits.{slice_split_at, slice_split_none, length-slice_split}
use Rattle.smil_outside.specs.Lines.{parts, whole_lines, whole_lines_of_parts, HasNoLineFeed, StartsWithLine, IsUnendedLine}
use Rattle.smil_model.specs.document.Words.{line_feed}

-- the test of each byte of a text without a line feed
passes_none : (text : List ℕ) → HasNoLineFeed text → All (λ byte. (byte == line_feed) ≡ false) text
passes_none text none = λ k d inside. ne_eqb _ line_feed (λ here. none k inside (get_or_default text k 0 d inside ∙ here))

parts_at : (part rest : List ℕ) → HasNoLineFeed part → parts (part ++ line_feed ∷ rest) ≡ part ∷ parts rest
parts_at part rest none = slice_split_at (λ byte. byte == line_feed) part line_feed rest (passes_none part none) refl

-- a part before another is a line
pub lines_of_parts-cons : (part : List ℕ) (more : List (List ℕ)) → 0 < length more → lines_of_parts (part ∷ more) ≡ strip_carriage_return part ∷ lines_of_parts more
lines_of_parts-cons part [] some = absurd (omega arith)
lines_of_parts-cons part (next ∷ more) some = refl

whole_lines_of_parts-cons : (part : List ℕ) (more : List (List ℕ)) → 0 < length more → whole_lines_of_parts (part ∷ more) ≡ strip_carriage_return part ∷ whole_lines_of_parts more
whole_lines_of_parts-cons part [] some = absurd (omega arith)
whole_lines_of_parts-cons part (next ∷ more) some = refl

pub some_part : (text : List ℕ) → 0 < length (parts text)
some_part text = omega (arith, length-slice_split (λ byte. byte == line_feed) text)

module _ (text line rest : List ℕ) (starts : StartsWithLine text line rest) (more : List ℕ) where
  -- the parts of the text, whatever follows it
  parts_behind : parts (text ++ more) ≡ starts.part ∷ parts (rest ++ more)
  parts_behind = ap (λ zs. parts (zs ++ more)) starts.cut ∙ ap parts (append_assoc starts.part (line_feed ∷ rest) more) ∙ parts_at starts.part (rest ++ more) starts.uncut

  -- the first line of a text, whatever follows it
  pub lines-starts : lines (text ++ more) ≡ line ∷ lines (rest ++ more)
  lines-starts = ap lines_of_parts parts_behind ∙ lines_of_parts-cons starts.part (parts (rest ++ more)) (some_part (rest ++ more)) ∙ ap (λ l. l ∷ lines (rest ++ more)) (sym starts.stripped)

  pub whole_lines-starts : whole_lines (text ++ more) ≡ line ∷ whole_lines (rest ++ more)
  whole_lines-starts = ap whole_lines_of_parts parts_behind ∙ whole_lines_of_parts-cons starts.part (parts (rest ++ more)) (some_part (rest ++ more)) ∙ ap (λ l. l ∷ whole_lines (rest ++ more)) (sym starts.stripped)

one_part : (text : List ℕ) → HasNoLineFeed text → parts text ≡ text ∷ []
one_part text none = slice_split_none (λ byte. byte == line_feed) text (passes_none text none)

-- a text without a line feed has no whole line
pub whole_lines-uncut : (text : List ℕ) → HasNoLineFeed text → whole_lines text ≡ []
whole_lines-uncut text none = ap whole_lines_of_parts (one_part text none)

-- and is a line itself, if it isn't empty
pub lines-unended : (text line : List ℕ) → IsUnendedLine text line → lines text ≡ line ∷ []
lines-unended text line unended =
    let some : (length text == 0) ≡ false = ne_eqb (length text) 0 (λ zero. absurd (omega (arith, zero, unended.some))) in
    ap lines_of_parts (one_part text unended.uncut) ∙ ap (λ b. if b then [] else text ∷ []) some ∙ ap (λ zs. zs ∷ []) (sym unended.same)
