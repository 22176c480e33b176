-- A text between white space is what is left of it once that is trimmed.
use Rattle.std.proofs.Common.{◌≡◌, refl, sym, ◌∙◌, ap, subst, ℕ, suc, ◌+◌, ◌-◌, ◌<◌, List, [], ◌∷◌, ◌++◌, length, take, drop, Bool, true, false, cond, arith, length-append, length-drop, length-take, append_assoc}
use Rattle.std.proofs.lemmas.List.{append-nil}
use Rattle.std.specs.Prelude.{reverse}
use Rattle.std.specs.List.{prefix_len, suffix_len}
use Rattle.std.proofs.lemmas.Bool.{not-true}
use Rattle.std.proofs.lemmas.List.{take-append-drop, take_at, drop_at, length-reverse, reverse-append, reverse-reverse}
use Rattle.std.proofs.lemmas.List.Sums.{suffix_len-le-length}
use Rattle.smil_grammar.specs.Texts.{is_white, trim_front, trim_back, trim}
use Rattle.smil_lexis.proofs.TestedFronts.{Passes, passes_front, passes_on}
use Rattle.smil_lexis.proofs.TrimmedTexts.{is_inked}
use Rattle.smil_wall.specs.Rewriting.{in_place}

passes_back : (p : ℕ → Bool) (text : List ℕ) → Passes p text → Passes p (reverse text)
passes_back p [] h = tt
passes_back p (b ∷ text) h = subst (Passes p) (sym (reverse-append (b ∷ []) text)) (passes_on p (reverse text) (b ∷ []) (passes_back p text h.1) (h.0, tt))

-- what stands at the front and passes
front_passes : (p : ℕ → Bool) (text : List ℕ) → Passes p (take (prefix_len p text) text)
front_passes p [] = tt
front_passes p (b ∷ text) = step (p b) refl (front_passes p text)
  where
    step : (t : Bool) → p b ≡ t → Passes p (take (prefix_len p text) text) → Passes p (take (cond t (1 + prefix_len p text) 0) (b ∷ text))
    step true e r = let one : 1 + prefix_len p text ≡ suc (prefix_len p text) = omega arith in subst (λ n. Passes p (take n (b ∷ text))) (sym one) (e, r)
    step false e r = tt

-- what is left behind the trimmed text is white space
back_passes : (text : List ℕ) → Passes is_white (drop (length (trim_back text)) text)
back_passes text =
    subst (λ ts. Passes is_white (drop (length (trim_back text)) ts)) split
    (subst (Passes is_white) (sym (drop_at (reverse (drop s back)) (reverse (take s back)) (length (trim_back text)) long))
    (passes_back is_white (take s back) (front_passes is_white back)))
  where
    back : List ℕ
    back = reverse text

    s : ℕ
    s = suffix_len is_white text

    split : reverse (drop s back) ++ reverse (take s back) ≡ text
    split = sym (reverse-append (take s back) (drop s back)) ∙ ap reverse (take-append-drop s back) ∙ reverse-reverse text

    long : length (reverse (drop s back)) ≡ length (trim_back text)
    long = omega (arith, length-reverse (drop s back), length-drop s back, length-reverse text, length-take (length text - s) text, suffix_len-le-length is_white text)

none_white : (text rest : List ℕ) → Passes is_inked text → 0 < length text → prefix_len is_white (text ++ rest) ≡ 0
none_white [] rest h some = absurd (omega arith)
none_white (b ∷ text) rest h some = ap (λ t. cond t (1 + prefix_len is_white (text ++ rest)) 0) (not-true (is_white b) h.0)

pub trims_to : (front text back : List ℕ) → Passes is_white front → Passes is_inked text → 0 < length text → Passes is_white back → trim (front ++ (text ++ back)) ≡ text
trims_to front text back f h some b = ap trim_back at_front ∙ at_back
  where
    at_front : trim_front (front ++ (text ++ back)) ≡ text ++ back
    at_front =
        let len : prefix_len is_white (front ++ (text ++ back)) ≡ length front = omega (arith, passes_front is_white front (text ++ back) f, none_white text back h some) in
        ap (λ n. drop n (front ++ (text ++ back))) len ∙ drop_at front (text ++ back) (length front) refl

    suffix : suffix_len is_white (text ++ back) ≡ length back
    suffix =
        let some_back : 0 < length (reverse text) = omega (arith, length-reverse text) in
        let none : prefix_len is_white (reverse text) ≡ 0 = ap (prefix_len is_white) (sym (append-nil (reverse text))) ∙ none_white (reverse text) [] (passes_back is_inked text h) some_back in
        let whole : prefix_len is_white (reverse back ++ reverse text) ≡ length (reverse back) + prefix_len is_white (reverse text) = passes_front is_white (reverse back) (reverse text) (passes_back is_white back b) in
        ap (prefix_len is_white) (reverse-append text back) ∙ whole ∙ omega (arith, none, length-reverse back)

    at_back : trim_back (text ++ back) ≡ text
    at_back =
        let n : length (text ++ back) - suffix_len is_white (text ++ back) ≡ length text = omega (arith, suffix, length-append text back) in
        ap (λ k. take k (text ++ back)) n ∙ take_at text back (length text) refl

-- what is put in a piece's place is what is left of it once it is trimmed
pub put_in_place : (piece text : List ℕ) → Passes is_inked text → 0 < length text → trim (in_place piece text) ≡ text
put_in_place piece text h some =
    ap trim (append_assoc (take (prefix_len is_white piece) piece) text (drop (length (trim piece)) (trim_front piece)))
    ∙ trims_to (take (prefix_len is_white piece) piece) text (drop (length (trim piece)) (trim_front piece)) (front_passes is_white piece) h some (back_passes (trim_front piece))
