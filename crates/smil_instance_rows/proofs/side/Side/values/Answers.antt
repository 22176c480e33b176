use Rattle.std.proofs.Common.{sym, ◌∙◌}
use Rattle.smil_instance_rows.proofs.SingleTimes.{nothing_merged, single_merged}
use Rattle.smil_instance_rows.proofs.side.Side.values.Goals as goal

pub returns-in-Nothing : goal.returns-in-Nothing
returns-in-Nothing g c =
    let t = g.T.Instant in
    sym (nothing_merged t.given c.self.inside.kept c.args.self.now c.self.view_is t.at_most t.choose c.in-Nothing.items c.in-Nothing.is)

pub returns-in-Single : goal.returns-in-Single
returns-in-Single g c =
    let t = g.T.Instant in
    c.alone.ensures
    ∙ sym (single_merged t.given c.self.inside.kept c.args.self.now c.self.view_is t.at_most t.choose c.in-Single.single c.in-Single.is c.self.invariant (t.gives c.in-Single.single.value))
