-- Texts without white space.
use Rattle.std.proofs.Common.{◌≡◌, ℕ, ◌-◌, Bool, true, not, List, [], ◌∷◌, length, get_or, refl, ◌∙◌, arith}
use Rattle.std.specs.List.{prefix_len, suffix_len}
use Rattle.std.proofs.lemmas.Bool.{not-true}
use Rattle.std.proofs.lemmas.List.{take_all}
use Rattle.std.proofs.lemmas.List.Elements.{All-from_recursion, All-get_or}
use Rattle.std.proofs.lemmas.List.Sums.{suffix_len_is}
use Rattle.smil_grammar.specs.Texts.{is_white, trim_front, trim}
use Rattle.smil_lexis.proofs.TestedFronts.{Passes}

-- a byte that is no white space
abbrev pub is_inked : ℕ → Bool
is_inked b = not (is_white b)

no_front : (text : List ℕ) → Passes is_inked text → prefix_len is_white text ≡ 0
no_front [] h = refl
no_front (b ∷ text) h = rw (not-true (is_white b) h.0) refl

no_back : (text : List ℕ) → Passes is_inked text → suffix_len is_white text ≡ 0
no_back text h = suffix_len_is is_white text (length text) 0 (omega arith) (λ k le lt. absurd (omega arith)) (λ some. not-true (is_white (get_or text (length text - 1) 0)) (All-get_or (λ b. is_inked b ≡ true) text (length text - 1) 0 (omega arith) (All-from_recursion (λ b. is_inked b ≡ true) text h))) ∙ omega arith

-- there is nothing to trim
pub untrimmed : (text : List ℕ) → Passes is_inked text → trim text ≡ text
untrimmed text h =
    let front : trim_front text ≡ text = rw (no_front text h) refl in
    let len : length text - 0 ≡ length text = omega arith in
    rw (front, no_back text h, len) (take_all (length text) text (omega arith))
