use Rattle.std.proofs.Common.{◌∙◌, arith}
use Rattle.smil_instance_rows.proofs.SingleTimes.{nothing_before, single_early, single_late}
use Rattle.smil_instance_rows.proofs.side.Side.cut_later.Goals as goal

pub returns-in-Nothing : goal.returns-in-Nothing
returns-in-Nothing g c =
    c.self.view_is ∙ nothing_before g.T.Instant.given c.self.inside.kept c.args.self.now c.self.view_is c.in-Nothing.items c.args.place c.in-Nothing.is

pub returns-then-single-place : goal.returns-then-single-place
returns-then-single-place g c =
    c.clear.ensures
    ∙ single_late g.T.Instant.given c.self.inside.kept c.args.self.now c.self.view_is c.in-Single.single c.args.place c.in-Single.is (omega (arith, c.if-single-place.true))

pub returns-else-single-place : goal.returns-else-single-place
returns-else-single-place g c =
    single_early g.T.Instant.given c.self.inside.kept c.args.self.now c.self.view_is c.in-Single.single c.args.place c.in-Single.is (omega (arith, c.if-single-place.false))
