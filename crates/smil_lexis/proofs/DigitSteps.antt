-- Numbers digit by digit, as loops read them.
use Rattle.std.proofs.Common.{◌≡◌, ℕ, zero, suc, ◌+◌, ◌-◌, ◌*◌, ◌/◌, ◌<◌, ◌≤◌, min, Bool, true, false, cond, List, [], ◌∷◌, length, get_or, drop, Option, Some, None, option_map, refl, sym, ap, subst, ◌∙◌, ◌^◌, arith, drop-cons, add-one}
use Rattle.std.specs.Prelude.{IfSome}
use Rattle.std.proofs.lemmas.Bool.Decides.{nat_tests}
use Rattle.std.proofs.lemmas.Nat.{mul-le}
use Rattle.std.proofs.lemmas.Option.{IfSome_then}
use Rattle.std.proofs.Math.Nat.{pow-suc, one-le-pow}
use Rattle.std.specs.Char.{is_ascii_digit}
use Rattle.smil_model.specs.declared.limits.TheConstants.{DIGITS}
use Rattle.smil_grammar.specs.Numbers.{number_after, number_of, weight}
use Rattle.smil_lexis.specs.Capped.{capped}
use Rattle.smil_lexis.specs.declared.numbers.TheConstants.{CAP}

abbrev pub capped_after : ℕ → List ℕ → Option ℕ
capped_after n digits = option_map capped (number_after n digits)

capped-either : (t : Bool) (x y : Option ℕ) → option_map capped x ≡ option_map capped y → option_map capped (cond t x None) ≡ option_map capped (cond t y None)
capped-either true x y e = e
capped-either false x y e = refl

-- numbers with one cap go on alike
pub capped-same : (n m : ℕ) (digits : List ℕ) → capped n ≡ capped m → capped_after n digits ≡ capped_after m digits
capped-same n m [] e = ap (λ k. Some k) e
capped-same n m (b ∷ digits) e = capped-either (is_ascii_digit b) (number_after (n * 10 + (b - 48)) digits) (number_after (m * 10 + (b - 48)) digits) (capped-same (n * 10 + (b - 48)) (m * 10 + (b - 48)) digits (omega arith))

pub goes_on : (n i next : ℕ) (digits : List ℕ) (total : Option ℕ) → i < length digits → is_ascii_digit (get_or digits i 0) ≡ true → next ≡ min (n * 10 + (get_or digits i 0 - 48)) CAP
    → capped_after n (drop i digits) ≡ total → capped_after next (drop (i + 1) digits) ≡ total
goes_on n i next digits total lt digit next-is so_far =
    let b : ℕ = get_or digits i 0 in
    let one : capped_after n (drop i digits) ≡ capped_after (n * 10 + (b - 48)) (drop (i + 1) digits) = rw (drop-cons digits i 0, digit, add-one) refl in
    capped-same next (n * 10 + (b - 48)) (drop (i + 1) digits) (omega arith) ∙ sym one ∙ so_far

pub stops : (n i : ℕ) (digits : List ℕ) (total : Option ℕ) → i < length digits → is_ascii_digit (get_or digits i 0) ≡ false → capped_after n (drop i digits) ≡ total → None ≡ total
stops n i digits total lt other so_far =
    let one : capped_after n (drop i digits) ≡ None = rw (drop-cons digits i 0, other) refl in
    sym one ∙ so_far

pub weighs : (sum scale i : ℕ) (digits : List ℕ) (total : ℕ) → i < length digits → weight scale (drop i digits) + sum ≡ total
    → weight (scale / 10) (drop (i + 1) digits) + (sum + (get_or digits i 0 - 48) * scale) ≡ total
weighs sum scale i digits total lt so_far =
    let one : weight scale (drop i digits) ≡ (get_or digits i 0 - 48) * scale + weight (scale / 10) (drop (i + 1) digits) = rw (drop-cons digits i 0, add-one) refl in
    omega arith

pub digit_below : (b : ℕ) → is_ascii_digit b ≡ true → b - 48 ≤ 9
digit_below b e = grind (arith, nat_tests)

below-either : (t : Bool) (x : Option ℕ) (limit : ℕ) → (t ≡ true → IfSome x (λ m. m < limit)) → IfSome (cond t x None) (λ m. m < limit)
below-either true x limit h = h refl
below-either false x limit h = tt

-- so many digits write a number below this
abbrev tens : List ℕ → ℕ
tens [] = 1
tens (b ∷ digits) = 10 * tens digits

number_below : (n : ℕ) (digits : List ℕ) → IfSome (number_after n digits) (λ m. m < (n + 1) * tens digits)
number_below n [] = omega arith
number_below n (b ∷ digits) = below-either (is_ascii_digit b) (number_after (n * 10 + (b - 48)) digits) ((n + 1) * (10 * tens digits)) (λ digit.
    let d : b - 48 ≤ 9 = digit_below b digit in
    let m : (n * 10 + (b - 48) + 1) * tens digits ≤ (n * 10 + 10) * tens digits = mul-le (n * 10 + (b - 48) + 1) (tens digits) (n * 10 + 10) (tens digits) (omega arith) (omega arith) in
    IfSome_then (number_after (n * 10 + (b - 48)) digits) (number_below (n * 10 + (b - 48)) digits) (λ value h. omega arith))

tens_at : (k : ℕ) (digits : List ℕ) → length digits ≤ k → tens digits ≤ 10 ^ k
tens_at k [] le = one-le-pow k 10 (omega arith)
tens_at zero (b ∷ digits) le = absurd (omega arith)
tens_at (suc k) (b ∷ digits) le =
    let deep : tens digits ≤ 10 ^ k = tens_at k digits (omega arith) in
    let power : 10 ^ suc k ≡ 10 ^ k * 10 = pow-suc 10 k in
    omega arith

-- digits write a number below this power of ten
pub power_above : (k : ℕ) (digits : List ℕ) → length digits ≤ k → IfSome (number_of digits) (λ m. m < 10 ^ k)
power_above k [] le = tt
power_above k (b ∷ digits) le = IfSome_then (number_after 0 (b ∷ digits)) (number_below 0 (b ∷ digits)) (λ value h. omega (arith, tens_at k (b ∷ digits) le))

pub nine_below : (digits : List ℕ) → length digits ≤ 9 → IfSome (number_of digits) (λ m. m < 1_000_000_000)
nine_below digits le = power_above 9 digits le

pub digits_below : (digits : List ℕ) (count n : ℕ) → length digits ≡ count → Some n ≡ number_of digits → n < 10 ^ count
digits_below digits count n len e = subst (λ (x : Option ℕ). IfSome x (λ m. m < 10 ^ count)) (sym e) (power_above count digits (omega arith))

-- a cap that isn't met changes nothing
uncapped : (x : Option ℕ) → IfSome x (λ m. m < 1_000_000_000) → option_map capped x ≡ x
uncapped None h = refl
uncapped (Some m) h = ap (λ k. Some k) (omega arith)

pub short_some : (digits : List ℕ) (n : ℕ) → length digits ≤ DIGITS → Some n ≡ option_map capped (number_of digits) → (Some n ≡ number_of digits) × (n < 10 ^ DIGITS)
short_some digits n le e =
    let same : Some n ≡ number_of digits = e ∙ uncapped (number_of digits) (nine_below digits le) in
    (same, subst (λ (x : Option ℕ). IfSome x (λ m. m < 10 ^ DIGITS)) (sym same) (nine_below digits le))

pub short_none : (digits : List ℕ) → length digits ≤ DIGITS → None ≡ option_map capped (number_of digits) → None ≡ number_of digits
short_none digits le e = e ∙ uncapped (number_of digits) (nine_below digits le)
