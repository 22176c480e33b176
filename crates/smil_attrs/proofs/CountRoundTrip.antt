-- Printed numbers of repetitions are read again.
use Rattle.std.proofs.Common.{◌≡◌, ℕ, ◌+◌, ◌-◌, ◌*◌, ◌/◌, ◌%◌, ◌<◌, ◌≤◌, true, false, not, eqb, ltb, List, [], ◌∷◌, ◌++◌, length, Option, Some, None, option_map, refl, sym, ap, arith, decimal}
use Rattle.std.specs.Prelude.{codes, bytes_eq, IfSome}
use Rattle.std.specs.Char.{is_ascii_digit}
use Rattle.std.proofs.lemmas.Bool.{cond_both, le-ltb, ltb-false, eqb-true}
use Rattle.std.proofs.lemmas.Bool.Decides.{nat_tests}
use Rattle.std.proofs.lemmas.Fmt.{decimal_nonempty, length-decimal-le}
use Rattle.std.proofs.lemmas.List.{append-nil}
use Rattle.smil_model.specs.declared.document.Count.TheVariants as count
use Rattle.smil_grammar.specs.Texts.{◌>>=◌, cut_at, point, trim}
use Rattle.smil_grammar.specs.Numbers.{number_after, number_of, weight, fraction_of, parts_of, with_fraction}
use Rattle.smil_grammar.specs.Values.{above_zero, short_number_of, thousandths, repeat_count_of}
use Rattle.smil_grammar.specs.Spellings.{decimals, count_text}
use Rattle.smil_lexis.proofs.TestedFronts.{Passes, passes_weaker, passes_on, uncut, cut_front}
use Rattle.smil_lexis.proofs.DecimalRoundTrip.{decimal_passes, number_of_decimal}
use Rattle.smil_lexis.proofs.DigitSteps.{digit_below, nine_below}
use Rattle.smil_lexis.proofs.TrimmedTexts.{is_inked, untrimmed}
use Rattle.smil_clock_value.proofs.ClockRoundTrip.{no_point}
use Rattle.smil_attrs.proofs.ClockRoundTrip.{no_word, digit_inked}

-- a number of thousandths that can be read: above 0, with at most 9 digits before the point
pub record IsCount (n : ℕ) : Type 0 where
  pub some : above_zero n ≡ Some n
  pub few : n < 1_000_000_000_000

-- what is read

digits_of : (n : ℕ) (digits : List ℕ) → IfSome (number_after n digits) (λ m. Passes is_ascii_digit digits)
digits_of n [] = tt
digits_of n (b ∷ digits) = cond_both (is_ascii_digit b) (number_after (n * 10 + (b - 48)) digits) None (λ o. IfSome o (λ m. Passes is_ascii_digit (b ∷ digits)))
    (λ e. more b digits e (number_after (n * 10 + (b - 48)) digits) (digits_of (n * 10 + (b - 48)) digits)) (λ e. tt)
  where
    more : (b : ℕ) (digits : List ℕ) → is_ascii_digit b ≡ true → (o : Option ℕ) → IfSome o (λ m. Passes is_ascii_digit digits) → IfSome o (λ m. Passes is_ascii_digit (b ∷ digits))
    more b digits e None h = tt
    more b digits e (Some m) h = (e, h)

weightless : (digits : List ℕ) → weight 0 digits ≡ 0
weightless [] = refl
weightless (b ∷ digits) = rw (weightless digits) (omega arith)

weight_below : (digits : List ℕ) → Passes is_ascii_digit digits → weight 100 digits < 1000
weight_below [] h = omega arith
weight_below (a ∷ []) h = omega (arith, digit_below a h.0)
weight_below (a ∷ b ∷ []) h = omega (arith, digit_below a h.0, digit_below b h.1.0)
weight_below (a ∷ b ∷ c ∷ digits) h = omega (arith, digit_below a h.0, digit_below b h.1.0, digit_below c h.1.1.0, weightless digits)

fraction_below : (digits : List ℕ) → IfSome (fraction_of 100 digits) (λ f. f < 1000)
fraction_below [] = tt
fraction_below (b ∷ digits) = weighed (b ∷ digits) (number_after 0 (b ∷ digits)) (digits_of 0 (b ∷ digits))
  where
    weighed : (digits : List ℕ) (o : Option ℕ) → IfSome o (λ m. Passes is_ascii_digit digits) → IfSome (o >>= λ n. Some (weight 100 digits)) (λ f. f < 1000)
    weighed digits None h = tt
    weighed digits (Some m) h = weight_below digits h

short_below : (digits : List ℕ) → IfSome (short_number_of digits) (λ n. n < 1_000_000_000)
short_below digits = cond_both (ltb 9 (length digits)) None (number_of digits) (λ o. IfSome o (λ n. n < 1_000_000_000)) (λ e. tt) (λ e. nine_below digits (ltb-false _ _ e))

abbrev IsParts : ℕ × ℕ → Type 0
IsParts p = (p.0 < 1_000_000_000) × (p.1 < 1000)

parts_below : (text : List ℕ) (cut : Option (List ℕ × List ℕ)) → IfSome (parts_of short_number_of 100 text cut) IsParts
parts_below text None = alone (short_number_of text) (short_below text)
  where
    alone : (o : Option ℕ) → IfSome o (λ n. n < 1_000_000_000) → IfSome (o >>= λ n. Some (n, 0)) IsParts
    alone None h = tt
    alone (Some n) h = (h, omega arith)
parts_below text (Some cut) = both (short_number_of cut.0) (fraction_of 100 cut.1) (short_below cut.0) (fraction_below cut.1)
  where
    with : (n : ℕ) (f : Option ℕ) → n < 1_000_000_000 → IfSome f (λ f. f < 1000) → IfSome (f >>= λ fraction. Some (n, fraction)) IsParts
    with n None h k = tt
    with n (Some f) h k = (h, k)

    both : (o f : Option ℕ) → IfSome o (λ n. n < 1_000_000_000) → IfSome f (λ f. f < 1000) → IfSome (o >>= λ n. f >>= λ fraction. Some (n, fraction)) IsParts
    both None f h k = tt
    both (Some n) f h k = with n f h k

above : (n : ℕ) → n < 1_000_000_000_000 → IfSome (above_zero n) IsCount
above n few = cond_both (eqb n 0) None (Some n) (λ o. IfSome o IsCount) (λ e. tt) (λ e. record { some = rw e refl; few = few })

pub number_below : (text : List ℕ) → IfSome (option_map thousandths (with_fraction short_number_of 100 text) >>= above_zero) IsCount
number_below text = all (with_fraction short_number_of 100 text) (parts_below text (cut_at point text))
  where
    all : (o : Option (ℕ × ℕ)) → IfSome o IsParts → IfSome (option_map thousandths o >>= above_zero) IsCount
    all None h = tt
    all (Some p) h = above (p.0 * 1000 + p.1) (omega arith)

-- what is printed

pub digit_printed : (a : ℕ) → a ≤ 9 → is_ascii_digit (48 + a) ≡ true
digit_printed a le = grind (arith, nat_tests)

no_points : (n : ℕ) → n < 1_000_000_000 → Passes (λ b. not (eqb b point)) (decimal n)
no_points n few = passes_weaker is_ascii_digit (λ b. not (eqb b point)) no_point (decimal n) (decimal_passes n (omega arith))

short_read : (n : ℕ) → n < 1_000_000_000 → short_number_of (decimal n) ≡ Some n
short_read n few =
    let short : ltb 9 (length (decimal n)) ≡ false = le-ltb _ _ (length-decimal-le 9 n (omega arith) few (omega arith)) in
    rw (short, number_of_decimal n (omega arith)) refl

-- the fraction is read as so many thousandths, and has no white space
record Reads (q r : ℕ) (text : List ℕ) : Type 0 where
  pub parts : with_fraction short_number_of 100 (decimal q ++ text) ≡ Some (q, r)
  pub ink : Passes is_inked text

whole_read : (q r : ℕ) → q < 1_000_000_000 → r ≡ 0 → Reads q r []
whole_read q r few none = record {
  parts = rw (append-nil (decimal q), uncut point (decimal q) (no_points q few), short_read q few) (ap (λ (k : ℕ). Some (q, k)) (sym none));
  ink = tt;
}

part_read : (q r : ℕ) (digits : List ℕ) → q < 1_000_000_000 → Passes is_ascii_digit digits → fraction_of 100 digits ≡ Some r → Reads q r (point ∷ digits)
part_read q r digits few h e = record {
  parts = rw (cut_front point (decimal q) digits (no_points q few), short_read q few, e) refl;
  ink = (refl, passes_weaker is_ascii_digit is_inked digit_inked digits h);
}

decimals_read : (q r : ℕ) → q < 1_000_000_000 → r < 1000 → Reads q r (decimals r)
decimals_read q r few small =
    let a = digit_printed (r / 100) (omega arith) in
    let b = digit_printed (r / 10 % 10) (omega arith) in
    let c = digit_printed (r % 10) (omega arith) in
    cond_both (eqb r 0) [] _ (Reads q r) (λ z. whole_read q r few (eqb-true r 0 z)) (λ nz.
    cond_both (eqb (r % 100) 0) (point ∷ (48 + r / 100) ∷ []) _ (Reads q r) (λ z. part_read q r ((48 + r / 100) ∷ []) few (a, tt) (one r a (eqb-true (r % 100) 0 z))) (λ nz.
    cond_both (eqb (r % 10) 0) (point ∷ (48 + r / 100) ∷ (48 + r / 10 % 10) ∷ []) _ (Reads q r) (λ z. part_read q r ((48 + r / 100) ∷ (48 + r / 10 % 10) ∷ []) few (a, (b, tt)) (two r a b (eqb-true (r % 10) 0 z))) (λ nz.
    part_read q r ((48 + r / 100) ∷ (48 + r / 10 % 10) ∷ (48 + r % 10) ∷ []) few (a, (b, (c, tt))) (three r a b c))))
  where
    one : (r : ℕ) → is_ascii_digit (48 + r / 100) ≡ true → r % 100 ≡ 0 → fraction_of 100 ((48 + r / 100) ∷ []) ≡ Some r
    one r a z = rw a (ap (λ (k : ℕ). Some k) (omega arith))

    two : (r : ℕ) → is_ascii_digit (48 + r / 100) ≡ true → is_ascii_digit (48 + r / 10 % 10) ≡ true → r % 10 ≡ 0 → fraction_of 100 ((48 + r / 100) ∷ (48 + r / 10 % 10) ∷ []) ≡ Some r
    two r a b z = rw (a, b) (ap (λ (k : ℕ). Some k) (omega arith))

    three : (r : ℕ) → is_ascii_digit (48 + r / 100) ≡ true → is_ascii_digit (48 + r / 10 % 10) ≡ true → is_ascii_digit (48 + r % 10) ≡ true → fraction_of 100 ((48 + r / 100) ∷ (48 + r / 10 % 10) ∷ (48 + r % 10) ∷ []) ≡ Some r
    three r a b c = rw (a, b, c) (ap (λ (k : ℕ). Some k) (omega arith))

pub count_read : (n : ℕ) → IsCount n → repeat_count_of (trim (count_text (count.Thousandths n))) ≡ Some (count.Thousandths n)
count_read n h =
    let q = n / 1000 in let r = n % 1000 in
    let few : q < 1_000_000_000 = omega (arith, h.few) in
    let fraction = decimals_read q r few (omega arith) in
    let digits : Passes is_ascii_digit (decimal q) = decimal_passes q (omega arith) in
    let ink : Passes is_inked (decimal q ++ decimals r) = passes_on is_inked (decimal q) (decimals r) (passes_weaker is_ascii_digit is_inked digit_inked (decimal q) digits) fraction.ink in
    let word : bytes_eq (decimal q ++ decimals r) (codes "indefinite") ≡ false = no_word (decimal q) (decimals r) 105 (codes "ndefinite") (decimal_nonempty q (omega arith)) digits refl in
    let sum : q * 1000 + r ≡ n = omega arith in
    rw (untrimmed (decimal q ++ decimals r) ink, word, fraction.parts, sum, h.some) refl
