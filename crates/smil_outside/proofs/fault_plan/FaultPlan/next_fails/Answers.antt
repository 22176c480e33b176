use Rattle.std.proofs.Common.{ℕ, ◌≡◌, ◌<◌, ◌+◌, ◌↔◌, Bool, true, false, IsTrue, Contains, List, length, refl, arith, rules, tests, MatchBool}
use Rattle.std.specs.List.{HoldsAt, AllWithin}
use Rattle.std.proofs.lemmas.Iterator.{cases_from_any, YieldsList-from_slice}
use Rattle.std.proofs.lemmas.Bool.{false≢true}
use Rattle.smil_outside.proofs.fault_plan.FaultPlan.next_fails.Goals as goal

fails : (r : Bool) (xs : List ℕ) (n : ℕ) → MatchBool r ((k : ℕ) × (k < length xs) × HoldsAt (λ x. x ≡ n) xs k) (AllWithin (λ x. x ≡ n → ⊥) xs 0 (length xs)) →
    IsTrue r ↔ Contains xs n
fails true xs n h = (λ _. (h.0, h.1, h.2 n), λ _. refl)
fails false xs n h = (λ e. absurd (false≢true e), λ has. absurd (h has.0 n (omega arith) has.1 has.2))

pub returns-clause-fails : goal.returns-clause-fails
returns-clause-fails c =
    let xs = c.args.self.now.fail_at in
    let n = c.args.self.now.calls + 1 in
    let by_call = cases_from_any _ _ _ (λ x. x ≡ n) (λ x. x ≡ n → ⊥) c.any.ensures.ran (YieldsList-from_slice xs cc) (λ x q k. search (rules, tests)) (λ x q k. search (rules, tests)) in
    fails c.any.result xs n by_call
