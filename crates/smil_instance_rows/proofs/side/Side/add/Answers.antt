use Rattle.std.proofs.Common.{◌∙◌, ap, sym}
use Rattle.smil_instance_rows.specs.Rows.{instance_at}
use Rattle.smil_instance_rows.specs.Sides.{single_in}
use Rattle.smil_instance_rows.proofs.SingleTimes.{nothing_add}
use Rattle.smil_instance_rows.proofs.side.Side.add.Goals as goal

pub returns-in-Some-clause-ok : goal.returns-in-Some-clause-ok
returns-in-Some-clause-ok g c =
    ap (λ time. single_in c.in-Nothing.items c.args.item (instance_at c.args.last.place time)) (g.T.Instant.is_given c.args.last.time c.in-Some.value (sym c.in-Some.ensures))
    ∙ nothing_add g.T.Instant.given c.self.inside.kept c.args.self.now c.self.view_is c.in-Nothing.items c.args.item c.args.last c.in-Nothing.is
