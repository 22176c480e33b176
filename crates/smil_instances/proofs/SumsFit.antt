-- Sums of values that fit 64 bits, formed in 128, and what calls that form them tell of their arguments.
use Rattle.std.proofs.Common.{◌≡◌, ◌∙◌, ap, subst, ℕ, ℤ, List, arith}
use Rattle.std.specs.Prelude.{◌+ℤ◌, ◌-ℤ◌, ◌≤ℤ◌}
use Rattle.std.proofs.lemmas.Int.{ints, to_z-of_z}
use Rattle.smil_model.specs.declared.times.Time.{Time}
use Rattle.smil_model.specs.Times.{within_horizon, IsMoment, IsNear}
use Rattle.smil_model.specs.diary.Diary.{History, last_moment}
use Rattle.smil_model.specs.diary.Clocks.{between}
use Rattle.smil_stretch.specs.declared.clock.NodeClock.{NodeClock}
use Rattle.smil_stretch.specs.Clocks.{AreClocksOf}
use Rattle.smil_instances.specs.Contribution.{AreClocksAt}
use mir.Syntax.{w64, w128}
use mir.Val.{SFits, to_z, of_z}

pub whole_sum : (t v f o : ℤ) → SFits w64 t → SFits w64 v → SFits w64 f → SFits w64 o → SFits w128 ((t +ℤ (v -ℤ f)) +ℤ o)
whole_sum t v f o p q r s = omega (arith, ints)

pub moment_fits : (m : ℤ) → IsMoment m → SFits w64 m
moment_fits m is = omega (arith, ints)

pub near_fits : (m : ℤ) → IsNear m → SFits w64 m
near_fits m is = omega (arith, ints)

-- ---- what calls tell

-- a reading of a clock at a moment
pub read_at : (h : History) (clocks : List NodeClock) (who : ℕ) (m r : ℤ) (reading : History → ℕ → ℤ → ℤ) → IsMoment m → AreClocksAt h clocks m → ((past : History) → AreClocksOf clocks past → last_moment past.diary ≤ℤ to_z w64 (of_z w64 m) → r ≡ reading past who (to_z w64 (of_z w64 m))) → r ≡ reading h who m
read_at h clocks who m r reading is are told =
    subst (λ (n : ℤ). last_moment h.diary ≤ℤ n → r ≡ reading h who n) (to_z-of_z w64 m (moment_fits m is)) (told h are.known) are.after

-- the time of an edge at a value
pub time_is : (h : History) (clocks : List NodeClock) (e x : ℕ) (value m offset : ℤ) (t : Time) → IsMoment m → SFits w64 value → AreClocksAt h clocks m → ((past : History) → AreClocksAt past clocks (to_z w64 (of_z w64 m)) → t ≡ within_horizon (between past x e (to_z w64 (of_z w64 value)) (to_z w64 (of_z w64 m)) +ℤ offset)) → t ≡ within_horizon (between h x e value m +ℤ offset)
time_is h clocks e x value m offset t is fits are told =
    subst (λ (n : ℤ). AreClocksAt h clocks n → t ≡ within_horizon (between h x e value n +ℤ offset)) (to_z-of_z w64 m (moment_fits m is))
    (subst (λ (v : ℤ). AreClocksAt h clocks (to_z w64 (of_z w64 m)) → t ≡ within_horizon (between h x e v (to_z w64 (of_z w64 m)) +ℤ offset)) (to_z-of_z w64 value fits) (told h)) are

-- a value carried between two readings
pub carried_is : (own other value offset a b : ℤ) (t : Time) → t ≡ within_horizon ((to_z w64 (of_z w64 own) +ℤ (to_z w64 (of_z w64 value) -ℤ to_z w64 (of_z w64 other))) +ℤ to_z w64 (of_z w64 offset)) → IsNear own → SFits w64 value → IsNear other → SFits w64 offset → own ≡ a → other ≡ b → t ≡ within_horizon ((a +ℤ (value -ℤ b)) +ℤ offset)
carried_is own other value offset a b t told near fits near' fits' is is' =
    let sum : (to_z w64 (of_z w64 own) +ℤ (to_z w64 (of_z w64 value) -ℤ to_z w64 (of_z w64 other))) +ℤ to_z w64 (of_z w64 offset) ≡ (a +ℤ (value -ℤ b)) +ℤ offset = omega (arith, ints) in
    told ∙ ap within_horizon sum

-- a value moved by an offset
pub moved_is : (from offset a : ℤ) (t : Time) → t ≡ within_horizon (to_z w64 (of_z w64 from) +ℤ to_z w64 (of_z w64 offset)) → SFits w64 from → SFits w64 offset → from ≡ a → t ≡ within_horizon (a +ℤ offset)
moved_is from offset a t told fits fits' is =
    let sum : to_z w64 (of_z w64 from) +ℤ to_z w64 (of_z w64 offset) ≡ a +ℤ offset = omega (arith, ints) in
    told ∙ ap within_horizon sum
