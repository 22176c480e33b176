-- The least of rising end instances is the first.
use Rattle.std.proofs.Common.{◌≡◌, refl, sym, ◌∙◌, ap, ℕ, suc, ◌<◌, List, [], ◌∷◌, length, get_or, ℤ, true, arith}
use Rattle.std.specs.Prelude.{cond, fold, ◌+ℤ◌, Some, slice_get}
use Rattle.smil_model.specs.declared.times.Time.{Time}
use Rattle.smil_model.specs.declared.times.Time.TheVariants.{At, Indefinite, Unresolved}
use Rattle.smil_model.specs.declared.interval.Facts.{Facts}
use Rattle.smil_model.specs.Times.{time_le, least_time, greatest_time, least_of, within_horizon}
use Rattle.smil_model.specs.interval.Intervals.{limit_of}
use Rattle.smil_interval.specs.Rising.{IsRisingTimes}

fold_least : (t : Time) (ts : List Time) → ((k : ℕ) (d : Time) → k < length ts → time_le t (get_or ts k d) ≡ true) → fold least_time t ts ≡ t
fold_least t [] each = refl
fold_least t (u ∷ us) each =
    ap (λ s. fold least_time (cond s t u) us) (each 0 t (omega arith))
    ∙ fold_least t us (λ k d inside. each (suc k) d (omega (arith, inside)))

below_unresolved : (t : Time) → least_time Unresolved t ≡ t
below_unresolved (At x) = refl
below_unresolved Indefinite = refl
below_unresolved Unresolved = refl

least_is_first : (t : Time) (ts : List Time) → IsRisingTimes (t ∷ ts) → least_of (t ∷ ts) ≡ t
least_is_first t ts up =
    ap (λ s. fold least_time s ts) (below_unresolved t)
    ∙ fold_least t ts (λ k d inside. up 0 (suc k) d (omega arith) (omega (arith, inside)))

pub limit_is : (facts : Facts) (b : ℤ) (ends part : List Time) (first : Time) → IsRisingTimes part → slice_get part 0 ≡ Some first → Some (greatest_time first (within_horizon (b +ℤ facts.min))) ≡ limit_of facts b ends part
limit_is facts b ends [] first up at = cc
limit_is facts b ends (t ∷ ts) first up at =
    let same : first ≡ t = cc in
    ap (λ s. Some (greatest_time s (within_horizon (b +ℤ facts.min)))) (same ∙ sym (least_is_first t ts up))
