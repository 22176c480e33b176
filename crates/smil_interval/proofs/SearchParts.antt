-- The parts of rising instance times that pass a test, as a binary search finds them.
use Rattle.std.proofs.Common.{◌≡◌, refl, sym, ◌∙◌, ap, subst, ℕ, ◌-◌, List, [], ◌∷◌, length, take, drop, ℤ, Bool, true, false, arith}
use Rattle.std.specs.Prelude.{not, filter, int_le, int_lt, Option, Some, None}
use Rattle.std.specs.List.Sorted.{IsPartitionedBy, IsPartitionPoint}
use Rattle.std.proofs.lemmas.Slice.{between_to_end}
use Rattle.smil_model.specs.declared.times.Time.{Time}
use Rattle.smil_model.specs.declared.times.Time.TheVariants.{At, Indefinite, Unresolved}
use Rattle.smil_model.specs.declared.interval.Interval.{Interval}
use Rattle.smil_model.specs.Times.{time_le}
use Rattle.smil_model.specs.interval.Intervals.{after_end, counts_from, counts_after, is_from}
use Rattle.smil_model.proofs.NumberOrders.{le_both, not_le_is_lt}
use Rattle.smil_model.specs.Rising.{IsRising as IsRisingBy}
use Rattle.smil_interval.specs.Rising.{IsRising, IsRisingTimes}
use Rattle.smil_interval.proofs.OrderedLists.{drop_ordered, drop_is_filter, filter_all, parted, not_before, twice_not}
use Rattle.smil_interval.proofs.TimeOrderTests.{from_up, counts_up}

-- ---- a part of a slice

pub part_is_filter : {A : Type 0} (p q : A → Bool) → ((x : A) → p x ≡ not (q x)) → (xs : List A) (k : ℕ) → IsPartitionPoint (λ y. q y ≡ true) (λ y. q y ≡ false) xs k → take (length xs - k) (drop k xs) ≡ filter p xs
part_is_filter p q other xs k point = between_to_end xs k (length xs) (omega arith) ∙ drop_is_filter p q other xs k point

pub part_ordered : {A : Type 0} (le : A → A → Bool) (k : ℕ) (xs : List A) → IsRisingBy le xs → IsRisingBy le (take (length xs - k) (drop k xs))
part_ordered {A} le k xs up = subst (λ (ys : List A). IsRisingBy le ys) (sym (between_to_end xs k (length xs) (omega arith))) (drop_ordered le k xs up)

-- ---- the tests

not_after : (v b : ℤ) → not (int_lt v b) ≡ int_le b v
not_after v b = ap not (not_le_is_lt v b) ∙ sym (twice_not (int_le b v))

pub up_to_parted : (v : ℤ) (xs : List ℤ) → IsRising xs → IsPartitionedBy (λ b. not (int_lt v b)) xs
up_to_parted v xs up =
    parted int_le (λ b. not (int_lt v b)) (λ x y q r. not_after v x ∙ le_both x y v q (sym (not_after v y) ∙ r)) xs up

pub before_parted : (from : Time) (xs : List ℤ) → IsRising xs → IsPartitionedBy (λ b. not (time_le from (At b))) xs
before_parted from xs up =
    parted int_le (λ b. not (time_le from (At b)))
    (λ x y q fails. not_before (time_le from (At x)) (time_le from (At y)) (from_up from x y q) fails) xs up

pub uncounted_parted : (last : Option Interval) (b : ℤ) (ts : List Time) → IsRisingTimes ts → IsPartitionedBy (λ t. not (counts_from last b t)) ts
uncounted_parted last b ts up =
    parted time_le (λ t. not (counts_from last b t))
    (λ s t q fails. not_before (counts_from last b s) (counts_from last b t) (counts_up last b s t q) fails) ts up

pub all_count : (xs : List ℤ) → xs ≡ filter (counts_after None) xs
all_count xs = sym (filter_all (counts_after None) xs (λ k d inside. refl))

-- no begin stands from an end on that is no number
pub none_from : (b : ℤ) (t : Time) (xs : List ℤ) → ((x : ℤ) → t ≡ At x → ⊥) → [] ≡ filter (is_from (Some (after_end b t))) xs
none_from b (At x) xs never = absurd (never x refl)
none_from b Indefinite [] never = refl
none_from b Indefinite (x ∷ xs) never = none_from b Indefinite xs never
none_from b Unresolved [] never = refl
none_from b Unresolved (x ∷ xs) never = none_from b Unresolved xs never
