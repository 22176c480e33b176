use Rattle.std.proofs.Common.{◌≡◌, subst, sym, ℤ, w64}
use Rattle.std.proofs.lemmas.Int.{to_z-of_z}
use Rattle.smil_audit.specs.Steps.{IsReplay, replayed}
use Rattle.smil_audit.specs.Replayed.{first_at}
use Rattle.smil_audit.proofs.ReplayCourses.{first_stays, moved, passed}
use Rattle.smil_audit.proofs.replay.Replay.pass_to.Goals as goal

pub returns-clause-sound : goal.returns-clause-sound
returns-clause-sound c =
    let r = c.args.self.now in
    subst (λ (z : ℤ). IsReplay (moved r c.requires.sound z)) (sym (to_z-of_z w64 c.args.moment c.ranges.moment))
    (passed r c.requires.sound c.quiet_may_be_jumped.ensures c.time_passes_quietly.ensures c.reached_is_past.ensures c.possible.ensures.valid.numbered c.args.moment c.requires.from c.requires.within c.requires.quiet)

pub returns-clause-first : goal.returns-clause-first
returns-clause-first c =
    let r = c.args.self.now in
    subst (λ (z : ℤ). first_at (replayed (moved r c.requires.sound z)) ≡ first_at (replayed r)) (sym (to_z-of_z w64 c.args.moment c.ranges.moment))
    (first_stays r c.requires.sound c.quiet_may_be_jumped.ensures c.time_passes_quietly.ensures c.reached_is_past.ensures c.possible.ensures.valid.numbered c.args.moment c.requires.from)
