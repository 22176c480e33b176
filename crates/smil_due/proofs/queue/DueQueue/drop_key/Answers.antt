use Rattle.std.proofs.Common.{◌∙◌, ap, sym}
use Rattle.std.specs.FinSet as set
use Rattle.smil_due.specs.Order.{key_cmp_total}
use Rattle.smil_due.proofs.KeySets.{removed}
use Rattle.smil_due.proofs.queue.DueQueue.drop_key.Goals as goal

pub returns-clause-was : goal.returns-clause-was
returns-clause-was c =
    c.remove.ensures.test
    ∙ sym (set.contains-from_list key_cmp_total _ c.args.key)
    ∙ ap (λ s. set.contains s c.args.key) c.self.view_is

pub returns-clause-rest : goal.returns-clause-rest
returns-clause-rest c =
    removed _ _ c.args.key (c.remove.ensures.updates).0
    ∙ ap (λ s. set.remove s c.args.key) c.self.view_is
