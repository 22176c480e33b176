-- Sets of places as bits: which places are in, and the least one.
use Rattle.std.proofs.Common.{◌≡◌, ◌≢◌, ◌∙◌, refl, ap, sym, subst, ℕ, zero, suc, ◌+◌, ◌-◌, ◌*◌, ◌/◌, ◌%◌, ◌^◌, ◌≤◌, ◌<◌, Bool, true, false, cond, List, [], ◌∷◌, length, get_or-set_other, get_or-set_same, set, arith, ◌⊎◌, inl, inr}
use Rattle.std.specs.Prelude.{◌==◌, ◌||◌, bit_and, bit_or, slice_index}
use Rattle.std.specs.Int.{bit_at, w64}
use Rattle.std.specs.List.Sorted.{IsStrictlyIncreasing}
use Rattle.std.proofs.lemmas.Bool.{cases_lt, cases_eq, eqb-true, eq-eqb}
use Rattle.std.proofs.Math.Bool.{or-true}
use Rattle.std.proofs.lemmas.Bool.Decides.{nat_tests}
use Rattle.std.proofs.lemmas.List.{get_or_past}
use Rattle.std.proofs.lemmas.Nat.Bits.{bit_at-zero, bit_at_clear_other, bit_at_clear_same, bit_at_set_other, bit_at_set_same}
use Rattle.smil_model.specs.document.Closure.{has}
use Rattle.smil_model.specs.PlaceSet.{is_in, places_from, places_of}

-- ---- lists of the places that pass a test

same_from : (f g : ℕ → Bool) (from count : ℕ) → ((p : ℕ) → from ≤ p → f p ≡ g p) → places_from f from count ≡ places_from g from count
same_from f g from zero same = refl
same_from f g from (suc count) same =
    (λ i. cond (same from (omega arith) i) (from ∷ places_from f (suc from) count) (places_from f (suc from) count))
    ∙ ap (λ rest. cond (g from) (from ∷ rest) rest) (same_from f g (suc from) count (λ p from_next. same p (omega (arith, from_next))))

none_from : (f : ℕ → Bool) (from count : ℕ) → ((p : ℕ) → from ≤ p → p < from + count → f p ≡ false) → places_from f from count ≡ []
none_from f from zero none = refl
none_from f from (suc count) none =
    ap (λ t. cond t (from ∷ places_from f (suc from) count) (places_from f (suc from) count)) (none from (omega arith) (omega arith))
    ∙ none_from f (suc from) count (λ p from_next below. none p (omega (arith, from_next)) (omega (arith, below)))

-- the least place stands first, and behind it are the others
least_from : (f g : ℕ → Bool) (from count place : ℕ) → from ≤ place → place < from + count → ((p : ℕ) → from ≤ p → p < place → f p ≡ false) → f place ≡ true → g place ≡ false → ((p : ℕ) → p ≢ place → g p ≡ f p) → places_from f from count ≡ place ∷ places_from g from count
least_from f g from zero place after before least member gone others = absurd (omega (arith, after, before))
least_from f g from (suc count) place after before least member gone others =
    by_case (cases_eq from place) (λ later. least_from f g (suc from) count place later (omega (arith, before)) (λ p from_next. least p (omega (arith, from_next))) member gone others)
  where
    by_case : (from ≡ place) ⊎ (from ≢ place) → (suc from ≤ place → places_from f (suc from) count ≡ place ∷ places_from g (suc from) count) → places_from f from (suc count) ≡ place ∷ places_from g from (suc count)
    by_case (inl here) rest =
        ap (λ t. cond t (from ∷ places_from f (suc from) count) (places_from f (suc from) count)) (ap f here ∙ member)
        ∙ (λ i. here i ∷ same_from f g (suc from) count (λ p later. sym (others p (λ e. absurd (omega (arith, e, here, later))))) i)
        ∙ ap (λ t. place ∷ cond t (from ∷ places_from g (suc from) count) (places_from g (suc from) count)) (sym (ap g here ∙ gone))
    by_case (inr differ) rest =
        let skipped : f from ≡ false = least from (omega arith) (omega (arith, after, differ)) in
        ap (λ t. cond t (from ∷ places_from f (suc from) count) (places_from f (suc from) count)) skipped
        ∙ rest (omega (arith, after, differ))
        ∙ ap (λ t. place ∷ cond t (from ∷ places_from g (suc from) count) (places_from g (suc from) count)) (sym (others from differ ∙ skipped))

has_member : (f : ℕ → Bool) (from count p : ℕ) → from ≤ p → p < from + count → f p ≡ true → has (places_from f from count) p ≡ true
has_member f from zero p after before member = absurd (omega (arith, after, before))
has_member f from (suc count) p after before member =
    by_case (cases_eq from p) (λ later. has_member f (suc from) count p later (omega (arith, before)) member)
  where
    more : (t : Bool) → has (places_from f (suc from) count) p ≡ true → has (cond t (from ∷ places_from f (suc from) count) (places_from f (suc from) count)) p ≡ true
    more true rest = ap (λ u. (from == p) || u) rest ∙ or-true (from == p)
    more false rest = rest

    by_case : (from ≡ p) ⊎ (from ≢ p) → (suc from ≤ p → has (places_from f (suc from) count) p ≡ true) → has (places_from f from (suc count)) p ≡ true
    by_case (inl here) rest =
        ap (λ t. has (cond t (from ∷ places_from f (suc from) count) (places_from f (suc from) count)) p) (ap f here ∙ member)
        ∙ ap (λ t. t || has (places_from f (suc from) count) p) (eq-eqb from p here)
    by_case (inr differ) rest = more (f from) (rest (omega (arith, after, differ)))

has_other : (f : ℕ → Bool) (from count p : ℕ) → f p ≡ false → has (places_from f from count) p ≡ false
has_other f from zero p other = refl
has_other f from (suc count) p other = by_case (f from) refl (has_other f (suc from) count p other)
  where
    apart : f from ≡ true → (u : Bool) → (from == p) ≡ u → (from == p) ≡ false
    apart member true here = let never : true ≡ false = sym member ∙ ap f (eqb-true from p here) ∙ other in cc
    apart member false here = here

    by_case : (t : Bool) → f from ≡ t → has (places_from f (suc from) count) p ≡ false → has (cond t (from ∷ places_from f (suc from) count) (places_from f (suc from) count)) p ≡ false
    by_case true member rest = ap (λ u. u || has (places_from f (suc from) count) p) (apart member (from == p) refl) ∙ rest
    by_case false member rest = rest

first_from : (f : ℕ → Bool) (from count : ℕ) → 0 < length (places_from f from count) → from ≤ slice_index (places_from f from count) 0
first_from f from zero some = absurd (omega (arith, some))
first_from f from (suc count) some = by_case (f from) (first_from f (suc from) count) some
  where
    by_case : (t : Bool) → (0 < length (places_from f (suc from) count) → suc from ≤ slice_index (places_from f (suc from) count) 0) → 0 < length (cond t (from ∷ places_from f (suc from) count) (places_from f (suc from) count)) → from ≤ slice_index (cond t (from ∷ places_from f (suc from) count) (places_from f (suc from) count)) 0
    by_case true rest some = omega arith
    by_case false rest some = omega (arith, rest some)

rises_from : (x : ℕ) (xs : List ℕ) → (0 < length xs → x < slice_index xs 0) → IsStrictlyIncreasing xs → IsStrictlyIncreasing (x ∷ xs)
rises_from x xs first rising zero some = first (omega (arith, some))
rises_from x xs first rising (suc k) some =
    let next : suc k + 1 ≡ suc (k + 1) = omega arith in
    subst (λ (j : ℕ). slice_index xs k < slice_index (x ∷ xs) j) (sym next) (rising k (omega (arith, some)))

rising_from : (f : ℕ → Bool) (from count : ℕ) → IsStrictlyIncreasing (places_from f from count)
rising_from f from zero = λ k some. absurd (omega (arith, some))
rising_from f from (suc count) = by_case (f from) (rising_from f (suc from) count)
  where
    by_case : (t : Bool) → IsStrictlyIncreasing (places_from f (suc from) count) → IsStrictlyIncreasing (cond t (from ∷ places_from f (suc from) count) (places_from f (suc from) count))
    by_case true rest = rises_from from (places_from f (suc from) count) (λ some. omega (arith, first_from f (suc from) count some)) rest
    by_case false rest = rest

-- ---- one bit of a word

set_at : (words : List ℕ) (word value place : ℕ) → place / 64 ≡ word → word < length words → is_in (set words word value) place ≡ (bit_at value (place % 64) == 1)
set_at words word value place here less =
    ap (λ w. bit_at w (place % 64) == 1) (ap (λ i. slice_index (set words word value) i) here ∙ get_or-set_same words word value 0 less)

set_off : (words : List ℕ) (word value place : ℕ) → place / 64 ≢ word → is_in (set words word value) place ≡ is_in words place
set_off words word value place differ = ap (λ w. bit_at w (place % 64) == 1) (get_or-set_other words word (place / 64) value 0 differ)

apart : (p q : ℕ) → p ≢ q → (p == q) ≡ false
apart p q differ = grind (arith, nat_tests)

at_word : (words : List ℕ) (word place : ℕ) → place / 64 ≡ word → (bit_at (slice_index words word) (place % 64) == 1) ≡ is_in words place
at_word words word place here = ap (λ i. bit_at (slice_index words i) (place % 64) == 1) (sym here)

pub bit_set : (words : List ℕ) (place : ℕ) → place / 64 < length words → (p : ℕ) → is_in (set words (place / 64) (bit_or (slice_index words (place / 64)) (1 * 2 ^ (place % 64) % 18446744073709551616))) p ≡ ((p == place) || is_in words p)
bit_set words place less p = by_word (cases_eq (p / 64) (place / 64))
  where
    value : ℕ
    value = bit_or (slice_index words (place / 64)) (1 * 2 ^ (place % 64) % 18446744073709551616)

    low : place % 64 < 64
    low = omega arith

    by_bit : p / 64 ≡ place / 64 → (p % 64 ≡ place % 64) ⊎ (p % 64 ≢ place % 64) → is_in (set words (place / 64) value) p ≡ ((p == place) || is_in words p)
    by_bit here (inl same) =
        set_at words (place / 64) value p here less
        ∙ ap (λ bit. bit == 1) (ap (bit_at value) same ∙ bit_at_set_same w64 (slice_index words (place / 64)) (place % 64) low)
        ∙ ap (λ t. t || is_in words p) (sym (eq-eqb p place (omega (arith, here, same))))
    by_bit here (inr differ) =
        set_at words (place / 64) value p here less
        ∙ ap (λ bit. bit == 1) (bit_at_set_other w64 (slice_index words (place / 64)) (place % 64) low (p % 64) differ)
        ∙ at_word words (place / 64) p here
        ∙ ap (λ t. t || is_in words p) (sym (apart p place (λ e. differ (ap (λ q. q % 64) e))))

    by_word : (p / 64 ≡ place / 64) ⊎ (p / 64 ≢ place / 64) → is_in (set words (place / 64) value) p ≡ ((p == place) || is_in words p)
    by_word (inl here) = by_bit here (cases_eq (p % 64) (place % 64))
    by_word (inr differ) =
        set_off words (place / 64) value p differ
        ∙ ap (λ t. t || is_in words p) (sym (apart p place (λ e. differ (ap (λ q. q / 64) e))))

pub bit_cleared : (words : List ℕ) (word bit : ℕ) → word < length words → bit < 64 → (p : ℕ) → is_in (set words word (bit_and (slice_index words word) (18446744073709551615 - 1 * 2 ^ bit % 18446744073709551616))) p ≡ cond (p == 64 * word + bit) false (is_in words p)
bit_cleared words word bit less low p = by_word (cases_eq (p / 64) word)
  where
    value : ℕ
    value = bit_and (slice_index words word) (18446744073709551615 - 1 * 2 ^ bit % 18446744073709551616)

    by_bit : p / 64 ≡ word → (p % 64 ≡ bit) ⊎ (p % 64 ≢ bit) → is_in (set words word value) p ≡ cond (p == 64 * word + bit) false (is_in words p)
    by_bit here (inl same) =
        set_at words word value p here less
        ∙ ap (λ b. b == 1) (ap (bit_at value) same ∙ bit_at_clear_same w64 (slice_index words word) bit low)
        ∙ ap (λ t. cond t false (is_in words p)) (sym (eq-eqb p (64 * word + bit) (omega (arith, here, same))))
    by_bit here (inr differ) =
        set_at words word value p here less
        ∙ ap (λ b. b == 1) (bit_at_clear_other w64 (slice_index words word) bit low (p % 64) (omega arith) differ)
        ∙ at_word words word p here
        ∙ ap (λ t. cond t false (is_in words p)) (sym (apart p (64 * word + bit) (λ e. differ (omega (arith, e, low)))))

    by_word : (p / 64 ≡ word) ⊎ (p / 64 ≢ word) → is_in (set words word value) p ≡ cond (p == 64 * word + bit) false (is_in words p)
    by_word (inl here) = by_bit here (cases_eq (p % 64) bit)
    by_word (inr differ) =
        set_off words word value p differ
        ∙ ap (λ t. cond t false (is_in words p)) (sym (apart p (64 * word + bit) (λ e. differ (omega (arith, e, low)))))

-- the lowest bit of a word is that of its least place
pub lowest_is_in : (words : List ℕ) (word bit : ℕ) → bit < 64 → bit_at (slice_index words word) bit ≡ 1 → is_in words (64 * word + bit) ≡ true
lowest_is_in words word bit low set =
    let at : (64 * word + bit) / 64 ≡ word = omega (arith, low) in
    let rest : (64 * word + bit) % 64 ≡ bit = omega (arith, low) in
    sym (at_word words word (64 * word + bit) at) ∙ ap (λ b. b == 1) (ap (bit_at (slice_index words word)) rest ∙ set)

pub lowest_is_least : (words : List ℕ) (word bit : ℕ) → ((i : ℕ) → i < bit → bit_at (slice_index words word) i ≡ 0) → (p : ℕ) → p / 64 ≡ word → p < 64 * word + bit → is_in words p ≡ false
lowest_is_least words word bit clear p here before =
    sym (at_word words word p here) ∙ ap (λ b. b == 1) (clear (p % 64) (omega (arith, here, before)))

-- ---- the places of words

-- no place is in an empty word, or past the last word
pub none_in_word : (words : List ℕ) (place : ℕ) → slice_index words (place / 64) ≡ 0 → is_in words place ≡ false
none_in_word words place empty = ap (λ word. bit_at word (place % 64) == 1) empty ∙ ap (λ bit. bit == 1) (bit_at-zero (place % 64))

within : (words : List ℕ) (place : ℕ) → is_in words place ≡ true → place < 0 + 64 * length words
within words place member = by_case (cases_lt (place / 64) (length words))
  where
    by_case : (place / 64 < length words) ⊎ (length words ≤ place / 64) → place < 0 + 64 * length words
    by_case (inl inside) = omega (arith, inside)
    by_case (inr past) = let never : true ≡ false = sym member ∙ none_in_word words place (get_or_past words (place / 64) 0 past) in cc

pub has-places_of : (words : List ℕ) (place : ℕ) → has (places_of words) place ≡ is_in words place
unfolding places_of
has-places_of words place = by_case (is_in words place) refl
  where
    by_case : (t : Bool) → is_in words place ≡ t → has (places_from (is_in words) 0 (64 * length words)) place ≡ t
    by_case true member = has_member (is_in words) 0 (64 * length words) place (omega arith) (within words place member) member
    by_case false other = has_other (is_in words) 0 (64 * length words) place other

pub rising : (words : List ℕ) → IsStrictlyIncreasing (places_of words)
unfolding places_of
rising words = rising_from (is_in words) 0 (64 * length words)

pub no_places : (words : List ℕ) → ((place : ℕ) → is_in words place ≡ false) → places_of words ≡ []
unfolding places_of
no_places words none = none_from (is_in words) 0 (64 * length words) (λ p from before. none p)

pub none_in_empty : (words : List ℕ) → words ≡ [] → (place : ℕ) → is_in words place ≡ false
none_in_empty words is place =
    none_in_word words place (ap (λ ws. slice_index ws (place / 64)) is ∙ get_or_past [] (place / 64) 0 (omega arith))

pub empty_places : places_of [] ≡ []
unfolding places_of
empty_places = refl

-- the least place is taken out
pub least_out : (old new : List ℕ) (place : ℕ) → length new ≡ length old → is_in old place ≡ true → ((p : ℕ) → p < place → is_in old p ≡ false) → ((p : ℕ) → is_in new p ≡ cond (p == place) false (is_in old p)) → places_of old ≡ place ∷ places_of new
unfolding places_of
least_out old new place same member least rest =
    least_from (is_in old) (is_in new) 0 (64 * length old) place (omega arith) (within old place member) (λ p from before. least p before) member
    (rest place ∙ ap (λ t. cond t false (is_in old place)) (eq-eqb place place refl))
    (λ p differ. rest p ∙ ap (λ t. cond t false (is_in old p)) (apart p place differ))
    ∙ ap (λ count. place ∷ places_from (is_in new) 0 (64 * count)) (sym same)

-- what is before a place that is the least of its word, where no word before has one
pub least_of_all : (words : List ℕ) (word place : ℕ) → place / 64 ≡ word → ((p : ℕ) → p / 64 < word → is_in words p ≡ false) → ((p : ℕ) → p / 64 ≡ word → p < place → is_in words p ≡ false) → (p : ℕ) → p < place → is_in words p ≡ false
least_of_all words word place at before least p less = by_case (cases_lt (p / 64) word)
  where
    by_case : (p / 64 < word) ⊎ (word ≤ p / 64) → is_in words p ≡ false
    by_case (inl earlier) = before p earlier
    by_case (inr here) = least p (omega (arith, at, less, here)) less

-- no place is before the first word that has one
pub none_before : (words : List ℕ) (first word : ℕ) → ((p : ℕ) → p / 64 < first → is_in words p ≡ false) → ((i : ℕ) → first ≤ i → i < word → slice_index words i ≡ 0) → (p : ℕ) → p / 64 < word → is_in words p ≡ false
none_before words first word before empty p less = by_case (cases_lt (p / 64) first)
  where
    by_case : (p / 64 < first) ⊎ (first ≤ p / 64) → is_in words p ≡ false
    by_case (inl earlier) = before p earlier
    by_case (inr from) = none_in_word words p (empty (p / 64) from less)

-- no place is left where the first word with one is behind the last
pub none_left : (words : List ℕ) (first end' : ℕ) → end' ≤ first → ((p : ℕ) → p / 64 < first → is_in words p ≡ false) → ((p : ℕ) → end' ≤ p / 64 → is_in words p ≡ false) → (p : ℕ) → is_in words p ≡ false
none_left words first end' reached before behind p = by_case (cases_lt (p / 64) first)
  where
    by_case : (p / 64 < first) ⊎ (first ≤ p / 64) → is_in words p ≡ false
    by_case (inl inside) = before p inside
    by_case (inr past) = behind p (omega (arith, past, reached))
