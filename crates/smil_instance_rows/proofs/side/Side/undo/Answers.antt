use Rattle.std.proofs.Common.{◌∙◌}
use Rattle.smil_instance_rows.proofs.SingleTimes.{single_undone}
use Rattle.smil_instance_rows.proofs.side.Side.undo.Goals as goal

pub returns-in-Single : goal.returns-in-Single
returns-in-Single g c = λ first last ends.
    c.clear.ensures
    ∙ single_undone g.T.Instant.given c.self.inside.kept c.args.self.now c.self.view_is c.in-Single.single c.args.item first last c.in-Single.is c.self.invariant ends
