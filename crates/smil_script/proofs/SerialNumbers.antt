-- Counts are serials, and numbers digit by digit are below a power of ten.
use Rattle.std.proofs.Common.{◌≡◌, ℕ, ◌+◌, ◌-◌, ◌*◌, ◌<◌, ◌≤◌, ◌^◌, true, false, List, length, get_or, drop, Option, None, refl, sym, subst, ◌∙◌, arith, drop-cons, add-one}
use Rattle.std.specs.Prelude.{IfSome}
use Rattle.std.specs.Char.{is_ascii_digit}
use Rattle.std.proofs.Math.Nat.{pow-suc, pow-le-pow_right}
use Rattle.std.proofs.lemmas.Bool.{and_from, le-leb}
use Rattle.std.proofs.lemmas.Option.{IfSome_then}
use Rattle.smil_model.specs.diary.Logs.{is_serial}
use Rattle.smil_grammar.specs.Items.{count_of}
use Rattle.smil_grammar.specs.Numbers.{number_after}
use Rattle.smil_time_list.proofs.PrintableItems.{count_small}

-- the number of a count is a serial
pub counted_serial : (digits : List ℕ) → IfSome (count_of digits) (λ who. is_serial who ≡ true)
counted_serial digits = IfSome_then (count_of digits) (count_small digits) (λ who small. and_from _ _ (le-leb 1 who (omega (arith, small.0))) (le-leb who 999_999_999 (omega (arith, small.1))))

pub serial_of_count : (read : Option ℕ) (digits : List ℕ) → read ≡ count_of digits → IfSome read (λ who. is_serial who ≡ true)
serial_of_count read digits same = subst (λ (r : Option ℕ). IfSome r (λ who. is_serial who ≡ true)) (sym same) (counted_serial digits)

-- one more digit is read
pub goes_on : (n i : ℕ) (digits : List ℕ) (total : Option ℕ) → i < length digits → is_ascii_digit (get_or digits i 0) ≡ true
    → number_after n (drop i digits) ≡ total → number_after (n * 10 + (get_or digits i 0 - 48)) (drop (i + 1) digits) ≡ total
goes_on n i digits total lt digit so_far =
    let one : number_after n (drop i digits) ≡ number_after (n * 10 + (get_or digits i 0 - 48)) (drop (i + 1) digits) = rw (drop-cons digits i 0, digit, add-one) refl in
    sym one ∙ so_far

pub stops : (n i : ℕ) (digits : List ℕ) (total : Option ℕ) → i < length digits → is_ascii_digit (get_or digits i 0) ≡ false → number_after n (drop i digits) ≡ total → None ≡ total
stops n i digits total lt other so_far =
    let one : number_after n (drop i digits) ≡ None = rw (drop-cons digits i 0, other) refl in
    sym one ∙ so_far

-- so it stays below a power of ten
pub one_more : (n i d : ℕ) → n < 10 ^ i → d ≤ 9 → n * 10 + d < 10 ^ (i + 1)
one_more n i d lt le =
    let power : 10 ^ (i + 1) ≡ 10 ^ i * 10 = rw add-one (pow-suc 10 i) in
    omega arith

pub below : (n i k : ℕ) → n < 10 ^ i → i ≤ k → n < 10 ^ k
below n i k lt le =
    let power : 10 ^ i ≤ 10 ^ k = pow-le-pow_right (omega arith) le in
    omega arith
