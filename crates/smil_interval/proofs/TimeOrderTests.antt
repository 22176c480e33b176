-- What holds of a time holds of the later ones: it isn't before a limit, and as an end instance it counts.
use Rattle.std.proofs.Common.{◌≡◌, refl, sym, ◌∙◌, ap, subst, ℤ, Bool, true, false}
use Rattle.std.specs.Prelude.{int_le, not, ◌&&◌, Option}
use Rattle.std.proofs.lemmas.Bool.{and_parts}
use Rattle.smil_model.specs.declared.times.Time.{Time}
use Rattle.smil_model.specs.declared.times.Time.TheVariants.{At, Indefinite, Unresolved}
use Rattle.smil_model.specs.declared.interval.Interval.{Interval}
use Rattle.smil_model.specs.Times.{time_le}
use Rattle.smil_model.specs.interval.Intervals.{counts_from, ended_at}
use Rattle.smil_interval.specs.Rising.{counts_by}
use Rattle.smil_model.proofs.NumberOrders.{le_both, le_exact, time_both}

pub from_up : (from : Time) (x y : ℤ) → int_le x y ≡ true → time_le from (At x) ≡ true → time_le from (At y) ≡ true
from_up from x y q r = time_both from (At x) (At y) r q

-- an end instance after one that counts does so too
pub counts_up : (last : Option Interval) (b : ℤ) (s t : Time) → time_le s t ≡ true → counts_from last b s ≡ true → counts_from last b t ≡ true
counts_up last b (At x) (At y) q r = step (int_le y b) refl
  where
    from_begin : int_le b x ≡ true
    from_begin = (and_parts (int_le b x) (not ((int_le x b && int_le b x) && ended_at last (At x))) r).0

    step : (t : Bool) → int_le y b ≡ t → counts_from last b (At y) ≡ true
    step true at =
        subst (λ (z : ℤ). counts_from last b (At z) ≡ true) (le_exact x y q (le_both y b x at from_begin)) r
    step false at =
        ap (λ v. int_le b y && not ((v && int_le b y) && ended_at last (At y))) at
        ∙ ap (λ v. v && true) (le_both b x y from_begin q)
counts_up last b (At x) Indefinite q r = refl
counts_up last b (At x) Unresolved q r = refl
counts_up last b Indefinite (At y) q r = cc
counts_up last b Indefinite Indefinite q r = refl
counts_up last b Indefinite Unresolved q r = refl
counts_up last b Unresolved (At y) q r = cc
counts_up last b Unresolved Indefinite q r = refl
counts_up last b Unresolved Unresolved q r = refl

-- whether the last interval ended at a begin counts only at an end instance that is equal to it
counted_at : (last : Option Interval) (b : ℤ) (t : Time) → counts_by b (ended_at last (At b)) t ≡ counts_from last b t
counted_at last b (At x) = step (int_le x b && int_le b x) refl
  where
    step : (u : Bool) → (int_le x b && int_le b x) ≡ u → counts_by b (ended_at last (At b)) (At x) ≡ counts_from last b (At x)
    step true at =
        let both = and_parts (int_le x b) (int_le b x) at in
        ap (λ z. int_le b x && not ((int_le x b && int_le b x) && ended_at last (At z))) (sym (le_exact x b both.0 both.1))
    step false at =
        ap (λ v. int_le b x && not (v && ended_at last (At b))) at
        ∙ sym (ap (λ v. int_le b x && not (v && ended_at last (At x))) at)
counted_at last b Indefinite = refl
counted_at last b Unresolved = refl

pub counted_is : (last : Option Interval) (b : ℤ) → counts_by b (ended_at last (At b)) ≡ counts_from last b
counted_is last b = λ i t. counted_at last b t i
