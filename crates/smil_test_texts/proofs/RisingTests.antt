-- Lists in which no element is above the next.
use Rattle.std.proofs.Common.{◌≡◌, ℕ, suc, zero, ◌+◌, ◌-◌, ◌<◌, List, length, get_or, subst, sym, Bool, true, arith}
use Rattle.std.specs.Prelude.{int_le, ℤ}
use Rattle.std.specs.List.{IsAllAdjacentAnswer}
use Rattle.std.proofs.lemmas.Bool.{MatchBool-at_true}
use Rattle.smil_model.specs.declared.times.Time.{Time}
use Rattle.smil_model.specs.Times.{time_le}
use Rattle.smil_model.proofs.NumberOrders.{le_self, le_both, time_self, time_both}
use Rattle.smil_model.specs.Rising.{IsRising as IsRisingBy}
use Rattle.smil_interval.specs.Rising.{IsRising, IsRisingTimes}

-- each element is at most the next
Climbs : {A : Type 0} → (A → A → Bool) → List A → Type 0
Climbs {A} le xs = (k : ℕ) (d : A) → k + 1 < length xs → le (get_or xs k d) (get_or xs (k + 1) d) ≡ true

further : {A : Type 0} (le : A → A → Bool) → ((x : A) → le x x ≡ true) → ((x y z : A) → le x y ≡ true → le y z ≡ true → le x z ≡ true)
    → (xs : List A) → Climbs le xs → (i n : ℕ) (d : A) → i + n < length xs → le (get_or xs i d) (get_or xs (i + n) d) ≡ true
unfolding Climbs
further le same trans xs up i zero d inside =
    let here : i ≡ i + 0 = omega arith in
    subst (λ j. le (get_or xs i d) (get_or xs j d) ≡ true) here (same (get_or xs i d))
further le same trans xs up i (suc n) d inside =
    let next : (i + n) + 1 ≡ i + suc n = omega arith in
    trans (get_or xs i d) (get_or xs (i + n) d) (get_or xs (i + suc n) d)
    (further le same trans xs up i n d (omega (arith, inside)))
    (subst (λ j. le (get_or xs (i + n) d) (get_or xs j d) ≡ true) next (up (i + n) d (omega (arith, inside))))

climbs : {A : Type 0} (le : A → A → Bool) (xs : List A) (b : Bool) → b ≡ true → IsAllAdjacentAnswer (λ x y r. r ≡ le x y) xs b → Climbs le xs
unfolding Climbs
climbs le xs b holds all = λ k d inside. sym (MatchBool-at_true _ _ holds all k d inside)

ordered : {A : Type 0} (le : A → A → Bool) → ((x : A) → le x x ≡ true) → ((x y z : A) → le x y ≡ true → le y z ≡ true → le x z ≡ true)
    → (xs : List A) → Climbs le xs → IsRisingBy le xs
ordered le same trans xs up = λ i j d q inside.
    let there : i + (j - i) ≡ j = omega (arith, q) in
    subst (λ k. le (get_or xs i d) (get_or xs k d) ≡ true) there (further le same trans xs up i (j - i) d (omega (arith, q, inside)))

-- numbers rise where each is at most the next
pub numbers_rise : (xs : List ℤ) (b : Bool) → IsAllAdjacentAnswer (λ x y r. r ≡ int_le x y) xs b → b ≡ true → IsRising xs
numbers_rise xs b all holds = ordered int_le le_self le_both xs (climbs int_le xs b holds all)

-- times rise where each is at most the next
pub times_rise : (ts : List Time) (b : Bool) → IsAllAdjacentAnswer (λ s t r. r ≡ time_le s t) ts b → b ≡ true → IsRisingTimes ts
times_rise ts b all holds = ordered time_le time_self time_both ts (climbs time_le ts b holds all)
