-- A text of lines, each with its line feed, is cut into these lines.
use Rattle.std.proofs.Common.{◌≡◌, refl, sym, ◌∙◌, ap, ℕ, zero, suc, ◌+◌, ◌-◌, Bool, true, false, cond, eqb, List, [], ◌∷◌, ◌++◌, length, take, flat_map, arith, append_assoc}
use Rattle.std.specs.Prelude.{slice_index}
use Rattle.std.specs.List.{AllByRecursion, slice_split}
use Rattle.std.specs.Str.Lines.{lines, lines_of_parts, strip_carriage_return}
use Rattle.std.proofs.lemmas.Bool.Decides.{nat_tests}
use Rattle.std.proofs.lemmas.List.Elements.{All-from_recursion}
use Rattle.std.proofs.lemmas.List.Splits.{slice_split_at, length-slice_split}
use Rattle.smil_model.specs.document.Words.{line_feed, space}
use Rattle.smil_model.specs.shown.Lines.{line_of}
use Rattle.smil_lexis.proofs.TestedFronts.{passes_on}
use Rattle.smil_outline.proofs.PrintedBytes.{is_shown, IsShown}
use Rattle.smil_outside.proofs.LineLemmas.{lines_of_parts-cons}

-- ---- one line

no_feed : (b : ℕ) → is_shown b ≡ true → eqb b 10 ≡ false
no_feed b h = grind (arith, nat_tests)

no_return : (b : ℕ) → is_shown b ≡ true → eqb b 13 ≡ false
no_return b h = grind (arith, nat_tests)

none : (line : List ℕ) → IsShown line → AllByRecursion (λ b. eqb b 10 ≡ false) line
none [] h = tt
none (b ∷ line) h = (no_feed b h.0, none line h.1)

shown_at : (line : List ℕ) (k : ℕ) → IsShown line → eqb (slice_index line k) 13 ≡ false
shown_at [] k h = refl
shown_at (b ∷ line) zero h = no_return b h.0
shown_at (b ∷ line) (suc k) h = shown_at line k h.1

kept : (line : List ℕ) → IsShown line → strip_carriage_return line ≡ line
kept line h = ap (λ (t : Bool). cond t (take (length line - 1) line) line) (shown_at line (length line - 1) h)

pub first_line : (line rest : List ℕ) → IsShown line → lines (line ++ 10 ∷ rest) ≡ line ∷ lines rest
first_line line rest h =
    ap lines_of_parts (slice_split_at (λ b. eqb b 10) line 10 rest (All-from_recursion (λ b. eqb b 10 ≡ false) line (none line h)) refl)
    ∙ lines_of_parts-cons line (slice_split (λ b. eqb b 10) rest) (omega (arith, length-slice_split (λ b. eqb b 10) rest))
    ∙ ap (λ (l : List ℕ). l ∷ lines rest) (kept line h)

-- ---- all lines

pub cut_again : (ls : List (List ℕ)) → AllByRecursion IsShown ls → lines (flat_map (λ line. line ++ line_feed ∷ []) ls) ≡ ls
cut_again [] h = refl
cut_again (line ∷ ls) h =
    ap lines (append_assoc line (10 ∷ []) (flat_map (λ line. line ++ 10 ∷ []) ls))
    ∙ first_line line (flat_map (λ line. line ++ 10 ∷ []) ls) h.0
    ∙ ap (λ (rest : List (List ℕ)). line ∷ rest) (cut_again ls h.1)

-- ---- words in a line

-- words, separated by single spaces
abbrev pub spaced : List (List ℕ) → List ℕ
spaced [] = []
spaced (word ∷ []) = word
spaced (word ∷ next ∷ words) = word ++ space ∷ spaced (next ∷ words)

pub line_is : (words : List (List ℕ)) → line_of words ≡ spaced words ++ line_feed ∷ []
line_is [] = refl
line_is (word ∷ []) = refl
line_is (word ∷ next ∷ words) =
    ap (λ (rest : List ℕ). word ++ 32 ∷ rest) (line_is (next ∷ words)) ∙ sym (append_assoc word (32 ∷ spaced (next ∷ words)) (10 ∷ []))

pub spaced_shown : (words : List (List ℕ)) → AllByRecursion IsShown words → IsShown (spaced words)
spaced_shown [] h = tt
spaced_shown (word ∷ []) h = h.0
spaced_shown (word ∷ next ∷ words) h = passes_on is_shown word (32 ∷ spaced (next ∷ words)) h.0 (refl, spaced_shown (next ∷ words) h.1)
