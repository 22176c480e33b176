use Rattle.std.proofs.Common.{◌∙◌, arith}
use Rattle.smil_instance_rows.proofs.SingleTimes.{single_cut}
use Rattle.smil_instance_rows.proofs.side.Side.cut.Goals as goal

pub returns-then-single-place : goal.returns-then-single-place
returns-then-single-place g c =
    c.clear.ensures
    ∙ single_cut g.T.Instant.given c.self.inside.kept c.args.self.now c.self.view_is c.in-Single.single c.args.place c.args.item c.in-Single.is c.self.invariant (omega (arith, c.if-single-item.true)) (omega (arith, c.if-single-place.true))
