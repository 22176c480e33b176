-- The printed spelling of a clock value is read as that value.
use Rattle.std.proofs.Common.{◌≡◌, ℕ, ◌≤◌, true, not, eqb, List, ◌++◌, length, Some, None, refl, ap, ◌∙◌, arith, decimal}
use Rattle.std.specs.Prelude.{codes}
use Rattle.std.specs.List.{prefix_len}
use Rattle.std.specs.Char.{is_ascii_digit}
use Rattle.std.proofs.lemmas.Bool.Decides.{nat_tests}
use Rattle.std.proofs.lemmas.List.{take_at, drop_at}
use Rattle.smil_grammar.specs.Texts.{cut_at, colon, point}
use Rattle.smil_grammar.specs.Numbers.{number_of}
use Rattle.smil_grammar.specs.Clock.{clock_of, clock_text, is_of_number}
use Rattle.smil_lexis.proofs.TestedFronts.{Passes, passes_weaker, passes_on, passes_front, uncut}
use Rattle.smil_lexis.proofs.DecimalRoundTrip.{decimal_passes, number_of_decimal}

no_colon : (b : ℕ) → is_ascii_digit b ≡ true → not (eqb b colon) ≡ true
no_colon b h = grind (arith, nat_tests)

pub no_point : (b : ℕ) → is_ascii_digit b ≡ true → not (eqb b point) ≡ true
no_point b h = grind (arith, nat_tests)

of_number : (b : ℕ) → is_ascii_digit b ≡ true → is_of_number b ≡ true
of_number b h = rw h refl

again : (ds : List ℕ) (n : ℕ) → Passes is_ascii_digit ds → number_of ds ≡ Some n → clock_of (ds ++ codes "ms") ≡ Some n
again ds n digits value =
    let no-colon : cut_at colon (ds ++ codes "ms") ≡ None = uncut colon (ds ++ codes "ms") (passes_on (λ b. not (eqb b colon)) ds (codes "ms") (passes_weaker is_ascii_digit (λ b. not (eqb b colon)) no_colon ds digits) (refl, (refl, tt))) in
    let len : prefix_len is_of_number (ds ++ codes "ms") ≡ length ds = passes_front is_of_number ds (codes "ms") (passes_weaker is_ascii_digit is_of_number of_number ds digits) ∙ omega arith in
    let no-point : cut_at point ds ≡ None = uncut point ds (passes_weaker is_ascii_digit (λ b. not (eqb b point)) no_point ds digits) in
    rw (no-colon, len, drop_at ds (codes "ms") (length ds) refl, take_at ds (codes "ms") (length ds) refl, no-point, value) (ap (λ k. Some k) (omega arith))

pub written : (n : ℕ) → n ≤ 1_000_000_000_000 → clock_of (clock_text n) ≡ Some n
written n le = again (decimal n) n (decimal_passes n (omega arith)) (number_of_decimal n (omega arith))
