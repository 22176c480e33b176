-- Moments as numbers, and the entries of a moment.
use Rattle.std.proofs.Common.{◌≡◌, refl, ◌∙◌, ap, ℕ, ◌+◌, ◌-◌, List, [], ◌∷◌, ◌++◌, ℤ, arith, FitsSigned, w64}
use Rattle.std.proofs.lemmas.List.Elements.{filter-append}
use Rattle.std.specs.Prelude.{pos, negsuc, nat_abs, ◌≤ℤ◌, int_le}
use Rattle.std.proofs.lemmas.Int.{ints}
use Rattle.smil_model.specs.declared.diary.Entry.{Entry}
use Rattle.smil_model.specs.declared.diary.Step.{Step}
use Rattle.smil_model.specs.declared.times.TheConstants.{HORIZON}
use Rattle.smil_model.specs.diary.Diary.{last_moment}
use Rattle.smil_model.specs.diary.Clocks.{until}
use Rattle.smil_model.specs.happening.Groups.{at_moment}
use Rattle.smil_model.proofs.NumberOrders.{le_self}
use Rattle.smil_past.specs.Past.{MarkedHistory, IsPresent, with_diary}
use Rattle.smil_element.proofs.PresentMoment.{last_from}

pub fits : (z : ℤ) → pos 0 ≤ℤ z → z ≤ℤ HORIZON → FitsSigned w64 z
fits (pos k) from within = record { sfits = omega (arith, ints, from, within) }
fits (negsuc k) from within = absurd (omega (arith, ints, from))

pub positive : (v : ℤ) → pos 0 ≤ℤ v → v ≡ pos (nat_abs v)
positive (pos k) l = refl
positive (negsuc k) l = absurd (omega (arith, ints, l))

pub over : (a : ℕ) (v : ℤ) → pos a ≤ℤ v → (n : ℕ) × (v ≡ pos (a + n))
over a (pos k) l = (k - a, ap pos (omega (arith, ints, l)))
over a (negsuc k) l = absurd (omega (arith, ints, l))

pub until_moment : (m : ℤ) (steps : List Step) → until m (at_moment m steps) ≡ at_moment m steps
until_moment m [] = refl
until_moment m (x ∷ xs) = rw (le_self m) (ap (λ (k : List Entry). record { moment = m; step = x } ∷ k) (until_moment m xs))

-- the entries of a moment leave it the moment
pub present_with : (past : MarkedHistory) (m : ℤ) (steps : List Step) → IsPresent past m → IsPresent (with_diary past (past.diary ++ at_moment m steps)) m
present_with past m steps was = record {
  past_is = filter-append (λ (x : Entry). int_le x.moment m) past.diary (at_moment m steps) ∙ (ap (λ (k : List Entry). k ++ until m (at_moment m steps)) was.past_is ∙ ap (λ (k : List Entry). past.diary ++ k) (until_moment m steps));
  from = was.from;
  within = was.within;
}

pub is_late : (m : ℤ) (diary : List Entry) → pos 0 ≤ℤ m → until m diary ≡ diary → last_moment diary ≤ℤ m
is_late m diary from is = last_from m (pos 0) diary from is
