use Rattle.std.proofs.Common.{◌∙◌, refl, rules, subst, sym, ℤ, w64, FitsSigned}
use Rattle.std.specs.Prelude.{◌≤ℤ◌}
use Rattle.std.proofs.lemmas.Int.{to_z-of_z}
use Rattle.smil_element.specs.Parts.{coming_meant}
use Rattle.smil_audit.specs.declared.replay.Replay.{Replay}
use Rattle.smil_audit.specs.Replayed.{IsPassed, IsQuietUntil}
use Rattle.smil_audit.specs.Steps.{replayed}
use Rattle.smil_audit.proofs.ReplayCourses.{between, le_own, less_le, own_whole, quiet_to, test_less, test_not, within_is}
use Rattle.smil_audit.proofs.replay.Replay.come_to.Goals as goal

pub pass_to-requires-clause-from : goal.pass_to-requires-clause-from
pass_to-requires-clause-from c =
    let r = c.args.self.now in
    let fit : FitsSigned w64 c.args.coming.key.value = search rules in
    let whole = to_z-of_z w64 c.args.coming.key.value fit in
    subst (λ (z : ℤ). r.moment ≤ℤ z) (sym whole)
    (less_le r.moment c.args.coming.key.value (test_less r.moment c.args.coming.key.value _ _ (own_whole r c.requires.sound) whole c.if-self-coming.true))

pub pass_to-requires-clause-within : goal.pass_to-requires-clause-within
pass_to-requires-clause-within c =
    let r = c.args.self.now in
    let fit : FitsSigned w64 c.args.coming.key.value = search rules in
    subst (λ (z : ℤ). z ≤ℤ r.last) (sym (to_z-of_z w64 c.args.coming.key.value fit))
    (between c.args.coming.key.value c.args.until r.last c.requires.due (within_is r c.requires.sound c.args.until c.requires.is.within))

pub pass_to-requires-clause-quiet : goal.pass_to-requires-clause-quiet
pass_to-requires-clause-quiet c =
    let r = c.args.self.now in
    let fit : FitsSigned w64 c.args.coming.key.value = search rules in
    let whole = to_z-of_z w64 c.args.coming.key.value fit in
    subst (λ (z : ℤ). IsQuietUntil (replayed r) z) (sym whole)
    (quiet_to r c.requires.sound c.args.until c.requires.is (coming_meant c.args.coming) c.requires.first c.requires.due
    (test_less r.moment c.args.coming.key.value _ _ (own_whole r c.requires.sound) whole c.if-self-coming.true))

pub returns-then-self-coming-clause-passed : goal.returns-then-self-coming-clause-passed
returns-then-self-coming-clause-passed c =
    subst (λ (r : Replay). IsPassed (replayed c.args.self.now) (replayed r)) (sym c.pass_to.ensures.moved) (record { same = refl; diary_is = refl })

pub returns-then-self-coming-clause-first : goal.returns-then-self-coming-clause-first
returns-then-self-coming-clause-first c = c.pass_to.ensures.first ∙ c.requires.first

pub returns-then-self-coming-clause-due : goal.returns-then-self-coming-clause-due
returns-then-self-coming-clause-due c =
    let fit : FitsSigned w64 c.args.coming.key.value = search rules in
    subst (λ (r : Replay). c.args.coming.key.value ≤ℤ r.moment) (sym c.pass_to.ensures.moved)
    (subst (λ (z : ℤ). c.args.coming.key.value ≤ℤ z) (sym (to_z-of_z w64 c.args.coming.key.value fit)) (le_own c.args.coming.key.value))

pub returns-else-self-coming-clause-due : goal.returns-else-self-coming-clause-due
returns-else-self-coming-clause-due c =
    let r = c.args.self.now in
    let fit : FitsSigned w64 c.args.coming.key.value = search rules in
    test_not r.moment c.args.coming.key.value _ _ (own_whole r c.requires.sound) (to_z-of_z w64 c.args.coming.key.value fit) c.if-self-coming.false
