-- Printed numbers are read as themselves.
use Rattle.std.proofs.Common.{◌≡◌, ℕ, ◌+◌, ◌-◌, ◌*◌, ◌<◌, ◌^◌, true, List, [], ◌∷◌, length, Some, refl, ap, ◌∙◌, arith, decimal}
use Rattle.std.specs.Char.{is_ascii_digit}
use Rattle.std.specs.Str.{all_ascii_digits}
use Rattle.std.proofs.lemmas.Bool.{and_parts}
use Rattle.std.proofs.lemmas.Str.Parse.{IsNumeralModel, numerals_by_fold, tells_all_ascii_digits}
use Rattle.std.proofs.lemmas.Fmt.{digits_decimal, digits_value-decimal, decimal_nonempty}
use Rattle.smil_grammar.specs.Numbers.{number_after, number_of}
use Rattle.smil_lexis.proofs.TestedFronts.{Passes, digits_pass}

abbrev read_on : ℕ → List ℕ → ℕ
read_on n [] = n
read_on n (b ∷ bytes) = read_on (n * 10 + (b - 48)) bytes

own : IsNumeralModel (λ ds. all_ascii_digits ds ≡ true) (read_on 0)
own = numerals_by_fold (λ ds. all_ascii_digits ds ≡ true) tells_all_ascii_digits read_on (record { empty = λ n. refl; more = λ n c cs h. refl })

number-after : (n : ℕ) (ds : List ℕ) → all_ascii_digits ds ≡ true → number_after n ds ≡ Some (read_on n ds)
number-after n [] h = refl
number-after n (b ∷ ds) h =
    let both = and_parts (is_ascii_digit b) (all_ascii_digits ds) h in
    rw (both.0) (number-after (n * 10 + (b - 48)) ds both.1)

number-of : (ds : List ℕ) → 0 < length ds → all_ascii_digits ds ≡ true → number_of ds ≡ Some (read_on 0 ds)
number-of [] h all = absurd (omega arith)
number-of (b ∷ ds) h all = number-after 0 (b ∷ ds) all

pub decimal_passes : (n : ℕ) → n < 2 ^ 64 → Passes is_ascii_digit (decimal n)
decimal_passes n lt = digits_pass (decimal n) (digits_decimal own n lt)

pub number_of_decimal : (n : ℕ) → n < 2 ^ 64 → number_of (decimal n) ≡ Some n
number_of_decimal n lt = number-of (decimal n) (decimal_nonempty n lt) (digits_decimal own n lt) ∙ ap (λ k. Some k) (digits_value-decimal own n lt)
