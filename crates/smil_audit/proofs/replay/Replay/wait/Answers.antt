use Rattle.std.proofs.Common.{◌∙◌, ap, refl, subst, sym, ℤ, w64}
use Rattle.std.specs.Prelude.{nat_abs, Option, ◌≤ℤ◌}
use Rattle.std.proofs.lemmas.Int.{to_z-of_z}
use Rattle.smil_model.specs.happening.Keys.{DueChange}
use Rattle.smil_audit.specs.declared.replay.Replay.{Replay}
use Rattle.smil_audit.specs.Replayed.{IsLastOr, IsLate, IsPassed, IsQuietUntil, first_at, next_logged}
use Rattle.smil_audit.specs.Steps.{replayed}
use Rattle.smil_audit.proofs.ReplayCourses.{from_is, own_whole, quiet_for, same_moment, test_less, test_not, whole, within_is}
use Rattle.smil_audit.proofs.replay.Replay.wait.Goals as goal

pub pass_to-requires-clause-from : goal.pass_to-requires-clause-from
pass_to-requires-clause-from c =
    let r = c.args.self.now in
    subst (λ (z : ℤ). r.moment ≤ℤ z) (sym (to_z-of_z w64 c.args.until c.ranges.until)) (from_is r c.requires.sound c.args.until c.requires.is.from)

pub pass_to-requires-clause-within : goal.pass_to-requires-clause-within
pass_to-requires-clause-within c =
    let r = c.args.self.now in
    subst (λ (z : ℤ). z ≤ℤ r.last) (sym (to_z-of_z w64 c.args.until c.ranges.until)) (within_is r c.requires.sound c.args.until c.requires.is.within)

pub pass_to-requires-clause-quiet : goal.pass_to-requires-clause-quiet
pass_to-requires-clause-quiet c =
    let r = c.args.self.now in
    let fits = to_z-of_z w64 c.args.until c.ranges.until in
    subst (λ (z : ℤ). IsQuietUntil (replayed r) z) (sym fits)
    (quiet_for r c.requires.sound c.args.until c.requires.is c.requires.late (test_less r.moment c.args.until _ _ (own_whole r c.requires.sound) fits c.if-self-until.true))

pub returns-then-self-until-clause-passed : goal.returns-then-self-until-clause-passed
returns-then-self-until-clause-passed c =
    subst (λ (r : Replay). IsPassed (replayed c.args.self.now) (replayed r)) (sym c.pass_to.ensures.moved) (record { same = refl; diary_is = refl })

pub returns-then-self-until-clause-quiet : goal.returns-then-self-until-clause-quiet
returns-then-self-until-clause-quiet c =
    let m = ap (λ (r : Replay). r.moment) c.pass_to.ensures.moved in
    subst (λ (z : ℤ). IsLate (first_at (replayed c.pass_to.new.self)) z) (sym (to_z-of_z w64 c.args.until c.ranges.until) ∙ sym m ∙ whole c.pass_to.new.self c.pass_to.ensures.sound)
    (subst (λ (o : Option DueChange). IsLate o c.args.until) (sym c.pass_to.ensures.first) c.requires.late)

pub returns-then-self-until-clause-edge : goal.returns-then-self-until-clause-edge
returns-then-self-until-clause-edge c =
    let old = c.args.self.now in
    subst (λ (r : Replay). IsLastOr (nat_abs r.last) r.moment (next_logged (replayed r))) (sym c.pass_to.ensures.moved)
    (subst (λ (z : ℤ). IsLastOr (nat_abs old.last) z (next_logged (replayed old))) (sym (to_z-of_z w64 c.args.until c.ranges.until)) c.requires.is.edge)

pub returns-else-self-until-clause-quiet : goal.returns-else-self-until-clause-quiet
returns-else-self-until-clause-quiet c =
    let r = c.args.self.now in
    let early = test_not r.moment c.args.until _ _ (own_whole r c.requires.sound) (to_z-of_z w64 c.args.until c.ranges.until) c.if-self-until.false in
    subst (λ (z : ℤ). IsLate (first_at (replayed r)) z)
    (same_moment c.args.until r.moment early (from_is r c.requires.sound c.args.until c.requires.is.from) ∙ whole r c.requires.sound)
    c.requires.late

pub returns-else-self-until-clause-edge : goal.returns-else-self-until-clause-edge
returns-else-self-until-clause-edge c =
    let r = c.args.self.now in
    let early = test_not r.moment c.args.until _ _ (own_whole r c.requires.sound) (to_z-of_z w64 c.args.until c.ranges.until) c.if-self-until.false in
    subst (λ (z : ℤ). IsLastOr (nat_abs r.last) z (next_logged (replayed r)))
    (same_moment c.args.until r.moment early (from_is r c.requires.sound c.args.until c.requires.is.from))
    c.requires.is.edge
