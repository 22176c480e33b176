use Rattle.std.proofs.Common.{◌∙◌, ap}
use Rattle.std.specs.FinSet as set
use Rattle.smil_due.proofs.KeySets.{inserted}
use Rattle.smil_due.proofs.queue.DueQueue.put.Goals as goal

pub returns-clause-ok : goal.returns-clause-ok
returns-clause-ok c =
    inserted _ _ c.args.key (c.in_ok-insert.ensures.updates).0
    ∙ ap (λ s. set.insert s c.args.key) c.self.view_is
