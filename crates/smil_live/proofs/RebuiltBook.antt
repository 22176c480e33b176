-- The entries of a diary up to a moment, which are its first ones.
use Rattle.std.proofs.Common.{◌≡◌, refl, sym, ◌∙◌, ap, ℕ, suc, zero, ◌<◌, ◌≤◌, List, [], ◌∷◌, Bool, true, false, ℤ, arith, length, take}
use Rattle.std.specs.Prelude.{cond, filter, int_le, slice_index_or, ◌&&◌}
use Rattle.std.specs.List.Sorted.{IsPartitionPoint, IsPartitionedBy}
use Rattle.std.proofs.lemmas.Bool.{and_parts}
use Rattle.smil_model.specs.declared.diary.Entry.{Entry}
use Rattle.smil_model.specs.declared.times.TheConstants.{HORIZON}
use Rattle.smil_model.specs.diary.Lawful.{is_rising_from}
use Rattle.smil_model.proofs.NumberOrders.{le_both}

-- ---- what a binary search parts

none_pass : {X : Type 0} (p : X → Bool) (xs : List X) → ((k : ℕ) (d : X) → 0 ≤ k → k < length xs → p (slice_index_or xs k d) ≡ false) → filter p xs ≡ []
none_pass p [] none = refl
none_pass p (x ∷ xs) none =
    ap (λ t. cond t (x ∷ filter p xs) (filter p xs)) (none 0 x (omega arith) (omega arith))
    ∙ none_pass p xs (λ k d low high. none (suc k) d (omega arith) (omega (arith, high)))

-- the elements before the place are those that pass
pub front_passes : {X : Type 0} (p : X → Bool) (xs : List X) (i : ℕ) → IsPartitionPoint (λ y. p y ≡ true) (λ y. p y ≡ false) xs i → i ≤ length xs → take i xs ≡ filter p xs
front_passes p [] i parts within = let none : i ≡ 0 = omega (arith, within) in ap (λ n. take n []) none
front_passes p (x ∷ xs) zero parts within = sym (none_pass p (x ∷ xs) parts.1)
front_passes p (x ∷ xs) (suc i) parts within =
    let first : p x ≡ true = parts.0 0 x (omega arith) (omega arith) in
    ap (λ ys. x ∷ ys) (front_passes p xs i (
      (λ k d low high. parts.0 (suc k) d (omega arith) (omega (arith, high))),
      (λ k d low high. parts.1 (suc k) d (omega (arith, low)) (omega (arith, high))),
    ) (omega (arith, within)))
    ∙ sym (ap (λ t. cond t (x ∷ filter p xs) (filter p xs)) first)

-- ---- moments that do not fall

-- what rises, entry by entry
record Rises (from : ℤ) (x : Entry) (xs : List Entry) : Type 0 where
  here : int_le from x.moment ≡ true
  rest : is_rising_from x.moment xs ≡ true

rises : (from : ℤ) (x : Entry) (xs : List Entry) → is_rising_from from (x ∷ xs) ≡ true → Rises from x xs
rises from x xs q =
    let parts = and_parts (int_le from x.moment && int_le x.moment HORIZON) (is_rising_from x.moment xs) q in
    record { here = (and_parts (int_le from x.moment) (int_le x.moment HORIZON) parts.0).0; rest = parts.1 }

first_low : (from : ℤ) (xs : List Entry) (k : ℕ) (d : Entry) → is_rising_from from xs ≡ true → k < length xs → int_le from (slice_index_or xs k d).moment ≡ true
first_low from [] k d q l = absurd (omega (arith, l))
first_low from (x ∷ xs) zero d q l = (rises from x xs q).here
first_low from (x ∷ xs) (suc k) d q l =
    let r = rises from x xs q in
    le_both from x.moment (slice_index_or xs k d).moment r.here (first_low x.moment xs k d r.rest (omega (arith, l)))

-- a moment parts the entries that are not later from those that are
pub parted : (m from : ℤ) (xs : List Entry) → is_rising_from from xs ≡ true → IsPartitionedBy (λ (x : Entry). int_le x.moment m) xs
parted m from [] q i j d low high holds = absurd (omega (arith, high))
parted m from (x ∷ xs) q zero zero d low high holds = holds
parted m from (x ∷ xs) q zero (suc j) d low high holds =
    le_both x.moment (slice_index_or xs j d).moment m (first_low x.moment xs j d (rises from x xs q).rest (omega (arith, high))) holds
parted m from (x ∷ xs) q (suc i) zero d low high holds = absurd (omega (arith, low))
parted m from (x ∷ xs) q (suc i) (suc j) d low high holds =
    parted m x.moment xs (rises from x xs q).rest i j d (omega (arith, low)) (omega (arith, high)) holds
