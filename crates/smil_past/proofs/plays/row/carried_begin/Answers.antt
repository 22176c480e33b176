use Rattle.std.proofs.Common.{◌≡◌, ℤ, subst, arith}
use Rattle.std.specs.Prelude.{◌≤ℤ◌}
use mir.Syntax.{w64}
use Rattle.std.proofs.lemmas.Int.{ints, to_z-of_z}
use Rattle.smil_model.specs.diary.Clocks.{outer, run}
use Rattle.smil_model.specs.diary.Diary.{last_moment}
use Rattle.smil_past.proofs.plays.row.carried_begin.Goals as goal

pub returns-clause-start : goal.returns-clause-start
returns-clause-start c = λ h are.
    let at = to_z-of_z w64 c.args.moment c.ranges.moment in
    let outer_is : c.readings-readings.result.outer ≡ outer h c.args.who c.args.moment =
    subst (λ (m : ℤ). last_moment h.diary ≤ℤ m → c.readings-readings.result.outer ≡ outer h c.args.who m) at (c.readings-readings.ensures.outer h are.known) are.after in
    let own_is : c.readings-readings.result.own ≡ run h c.args.who c.args.moment =
    subst (λ (m : ℤ). last_moment h.diary ≤ℤ m → c.readings-readings.result.own ≡ run h c.args.who m) at (c.readings-readings.ensures.own h are.known) are.after in
    omega (arith, ints, outer_is, own_is)

pub returns-clause-shown : goal.returns-clause-shown
returns-clause-shown c = λ h are.
    let at = to_z-of_z w64 c.args.moment c.ranges.moment in
    let outer_is : c.readings-readings.result.outer ≡ outer h c.args.who c.args.moment =
    subst (λ (m : ℤ). last_moment h.diary ≤ℤ m → c.readings-readings.result.outer ≡ outer h c.args.who m) at (c.readings-readings.ensures.outer h are.known) are.after in
    omega (arith, ints, outer_is)
