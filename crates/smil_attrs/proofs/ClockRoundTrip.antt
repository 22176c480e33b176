-- Printed clock values are read again, as values of attributes.
use Rattle.std.proofs.Common.{◌≡◌, ℕ, ◌<◌, ◌≤◌, true, false, eqb, List, [], ◌∷◌, ◌++◌, length, Some, refl, arith, decimal}
use Rattle.std.specs.Prelude.{pos, codes, bytes_eq}
use Rattle.std.specs.Char.{is_ascii_digit}
use Rattle.std.proofs.lemmas.Bool.Decides.{nat_tests}
use Rattle.std.proofs.lemmas.Fmt.{decimal_nonempty}
use Rattle.smil_model.specs.declared.document.Dur.TheVariants as dur
use Rattle.smil_model.specs.declared.times.Time.TheVariants as time
use Rattle.smil_grammar.specs.Texts.{trim}
use Rattle.smil_grammar.specs.Clock.{clock_text}
use Rattle.smil_grammar.specs.Values.{above_zero, dur_of, time_of, repeat_dur_of}
use Rattle.smil_lexis.proofs.TestedFronts.{Passes, passes_weaker, passes_on}
use Rattle.smil_lexis.proofs.DecimalRoundTrip.{decimal_passes}
use Rattle.smil_lexis.proofs.TrimmedTexts.{is_inked, untrimmed}
use Rattle.smil_time_list.proofs.ItemRoundTrip.{clock_read}

other_byte : (b w : ℕ) → is_ascii_digit b ≡ true → is_ascii_digit w ≡ false → eqb b w ≡ false
other_byte b w h k = grind (arith, nat_tests)

-- a text that begins with a digit is no keyword
pub no_word : (digits tail : List ℕ) (w : ℕ) (word : List ℕ) → 0 < length digits → Passes is_ascii_digit digits → is_ascii_digit w ≡ false → bytes_eq (digits ++ tail) (w ∷ word) ≡ false
no_word [] tail w word some h k = absurd (omega arith)
no_word (b ∷ digits) tail w word some h k = rw (other_byte b w h.0 k) refl

pub digit_inked : (b : ℕ) → is_ascii_digit b ≡ true → is_inked b ≡ true
digit_inked b h = grind (arith, nat_tests)

pub trimmed : (n : ℕ) → n ≤ 1_000_000_000_000 → trim (clock_text n) ≡ clock_text n
trimmed n le = untrimmed (clock_text n) (passes_on is_inked (decimal n) (codes "ms") (passes_weaker is_ascii_digit is_inked digit_inked (decimal n) (decimal_passes n (omega arith))) (refl, (refl, tt)))

pub no_keyword : (n w : ℕ) (word : List ℕ) → n ≤ 1_000_000_000_000 → is_ascii_digit w ≡ false → bytes_eq (clock_text n) (w ∷ word) ≡ false
no_keyword n w word le k = no_word (decimal n) (codes "ms") w word (decimal_nonempty n (omega arith)) (decimal_passes n (omega arith)) k

pub dur_read : (n : ℕ) → n ≤ 1_000_000_000_000 → dur_of (clock_text n) ≡ Some (dur.Clock (pos n))
dur_read n le = rw (no_keyword n 109 (codes "edia") le refl, no_keyword n 105 (codes "ndefinite") le refl, clock_read n le) refl

pub time_read : (n : ℕ) → n ≤ 1_000_000_000_000 → time_of (clock_text n) ≡ Some (time.At (pos n))
time_read n le = rw (no_keyword n 105 (codes "ndefinite") le refl, clock_read n le) refl

pub repeat_read : (n : ℕ) → n ≤ 1_000_000_000_000 → above_zero n ≡ Some n → repeat_dur_of (clock_text n) ≡ Some (time.At (pos n))
repeat_read n le some = rw (no_keyword n 105 (codes "ndefinite") le refl, clock_read n le, some) refl
