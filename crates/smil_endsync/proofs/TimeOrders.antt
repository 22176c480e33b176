-- The lesser and the greater of times don't depend on which two are compared first.
use Rattle.std.proofs.Common.{◌≡◌, refl, ◌∙◌, ap, sym, Bool, true, false, List, [], ◌∷◌}
use Rattle.std.specs.Prelude.{Option, Some, None, fold, if◌then◌else◌}
use Rattle.smil_model.specs.declared.times.Time.{Time}
use Rattle.smil_model.specs.declared.times.Time.TheVariants.{At, Indefinite, Unresolved}
use Rattle.smil_model.specs.Times.{time_le, least_time, greatest_time}
use Rattle.smil_model.proofs.NumberOrders.{time_both, time_total}
use Rattle.smil_endsync.specs.Known.{greatest_known}

time_over : (s t u : Time) → time_le s t ≡ false → time_le t u ≡ false → time_le s u ≡ false
time_over s t u q r = by_test (time_le s u) refl
  where
    by_test : (b : Bool) → time_le s u ≡ b → b ≡ false
    by_test false e = refl
    by_test true e =
        let never : true ≡ false = sym (time_both t s u (time_total s t q) e) ∙ r in
        cc

least_by : (a b c : Time) (s t : Bool) → time_le a b ≡ s → time_le b c ≡ t → least_time (if s then a else b) c ≡ least_time a (if t then b else c)
least_by a b c true true q r = ap (λ x. if x then a else c) (time_both a b c q r) ∙ sym (ap (λ x. if x then a else b) q)
least_by a b c true false q r = refl
least_by a b c false true q r = ap (λ x. if x then b else c) r ∙ sym (ap (λ x. if x then a else b) q)
least_by a b c false false q r = ap (λ x. if x then b else c) r ∙ sym (ap (λ x. if x then a else c) (time_over a b c q r))

pub least_grouped : (a b c : Time) → least_time (least_time a b) c ≡ least_time a (least_time b c)
least_grouped a b c = least_by a b c (time_le a b) (time_le b c) refl refl

greatest_by : (a b c : Time) (s t : Bool) → time_le a b ≡ s → time_le b c ≡ t → greatest_time (if s then b else a) c ≡ greatest_time a (if t then c else b)
greatest_by a b c true true q r = ap (λ x. if x then c else b) r ∙ sym (ap (λ x. if x then c else a) (time_both a b c q r))
greatest_by a b c true false q r = ap (λ x. if x then c else b) r ∙ sym (ap (λ x. if x then b else a) q)
greatest_by a b c false true q r = refl
greatest_by a b c false false q r = ap (λ x. if x then c else a) (time_over a b c q r) ∙ sym (ap (λ x. if x then b else a) q)

pub greatest_grouped : (a b c : Time) → greatest_time (greatest_time a b) c ≡ greatest_time a (greatest_time b c)
greatest_grouped a b c = greatest_by a b c (time_le a b) (time_le b c) refl refl

pub known_grouped : (a b c : Option Time) → greatest_known (greatest_known a b) c ≡ greatest_known a (greatest_known b c)
known_grouped None b c = refl
known_grouped (Some x) None c = refl
known_grouped (Some x) (Some y) None = refl
known_grouped (Some x) (Some y) (Some z) = ap Some (greatest_grouped x y z)

pub known_behind : (a : Option Time) → greatest_known a None ≡ a
known_behind None = refl
known_behind (Some x) = refl

-- unresolved is above all
pub least_before : (t : Time) → least_time Unresolved t ≡ t
least_before (At x) = refl
least_before Indefinite = refl
least_before Unresolved = refl

pub least_behind : (t : Time) → least_time t Unresolved ≡ t
least_behind (At x) = refl
least_behind Indefinite = refl
least_behind Unresolved = refl

-- ---- over lists

pub least_from : (t : Time) (ts : List Time) → fold least_time t ts ≡ least_time t (fold least_time Unresolved ts)
least_from t [] = sym (least_behind t)
least_from t (u ∷ us) =
    least_from (least_time t u) us
    ∙ least_grouped t u (fold least_time Unresolved us)
    ∙ ap (least_time t) (sym (least_from u us) ∙ ap (λ v. fold least_time v us) (sym (least_before u)))

pub known_from : (o : Option Time) (os : List (Option Time)) → fold greatest_known o os ≡ greatest_known o (fold greatest_known None os)
known_from o [] = sym (known_behind o)
known_from o (p ∷ ps) =
    known_from (greatest_known o p) ps
    ∙ known_grouped o p (fold greatest_known None ps)
    ∙ ap (greatest_known o) (sym (known_from p ps))

pub greatest_from : (t u : Time) (us : List Time) → greatest_time t (fold greatest_time u us) ≡ fold greatest_time (greatest_time t u) us
greatest_from t u [] = refl
greatest_from t u (v ∷ vs) =
    greatest_from t (greatest_time u v) vs
    ∙ ap (λ x. fold greatest_time x vs) (sym (greatest_grouped t u v))
