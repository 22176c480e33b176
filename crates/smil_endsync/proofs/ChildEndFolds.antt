-- The ends of children, read by folds and by places.
use Rattle.std.proofs.Common.{◌≡◌, sym, refl, ◌∙◌, ap, suc, ◌-◌, List, [], ◌∷◌, length, arith}
use Rattle.std.specs.Prelude.{Option, Some, None, map, filter_map, fold, slice_get, unwrap_or}
use Rattle.std.specs.List.{reduce, cons_option}
use Rattle.smil_model.specs.declared.times.Time.{Time}
use Rattle.smil_model.specs.declared.times.Time.TheVariants.{Unresolved}
use Rattle.smil_model.specs.declared.interval.ChildEnd.{ChildEnd}
use Rattle.smil_model.specs.Times.{greatest_time}
use Rattle.smil_model.specs.interval.Durations.{seq_end}
use Rattle.smil_endsync.specs.Known.{greatest_known}

abbrev latest_of : ChildEnd → Option Time
latest_of c = c.latest

abbrev latest_from : Option Time → List ChildEnd → Option Time
latest_from end' cs = fold greatest_known end' (map latest_of cs)

from_known : (t : Time) (cs : List ChildEnd) → latest_from (Some t) cs ≡ Some (fold greatest_time t (filter_map latest_of cs))
from_known t [] = refl
from_known t (c ∷ cs) = step c.latest (λ u. from_known u cs)
  where
    step : (latest : Option Time) → ((u : Time) → latest_from (Some u) cs ≡ Some (fold greatest_time u (filter_map latest_of cs))) → latest_from (greatest_known (Some t) latest) cs ≡ Some (fold greatest_time t (cons_option latest (filter_map latest_of cs)))
    step None rest = rest t
    step (Some u) rest = rest (greatest_time t u)

pub latest_is_reduced : (cs : List ChildEnd) → latest_from None cs ≡ reduce greatest_time (filter_map latest_of cs)
latest_is_reduced [] = refl
latest_is_reduced (c ∷ cs) = step c.latest (latest_is_reduced cs)
  where
    step : (latest : Option Time) → latest_from None cs ≡ reduce greatest_time (filter_map latest_of cs) → latest_from (greatest_known None latest) cs ≡ reduce greatest_time (cons_option latest (filter_map latest_of cs))
    step None rest = rest
    step (Some u) rest = from_known u cs

pub seq_end_at : (cs : List ChildEnd) (c : ChildEnd) → slice_get cs (length cs - 1) ≡ Some c → seq_end cs ≡ unwrap_or c.first Unresolved
seq_end_at [] c at = cc
seq_end_at (x ∷ []) c at =
    let same : x ≡ c = cc in
    ap (λ (z : ChildEnd). unwrap_or z.first Unresolved) same
seq_end_at (x ∷ y ∷ ys) c at =
    let place : length (x ∷ y ∷ ys) - 1 ≡ suc (length (y ∷ ys) - 1) = omega arith in
    seq_end_at (y ∷ ys) c (ap (slice_get (x ∷ y ∷ ys)) (sym place) ∙ at)
