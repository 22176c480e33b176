use Rattle.std.proofs.Common.{sym, ap, ◌∙◌, [], cond}
use Rattle.std.specs.Prelude.{◌==◌}
use Rattle.std.specs.List.{list_any}
use Rattle.smil_model.specs.declared.document.Node.{Node}
use Rattle.smil_model.specs.ListTables.{list_of}
use Rattle.smil_tree.proofs.KinTables.{dropped_more}
use Rattle.smil_tree.proofs.kin.forget.Goals as goal

pub loop-node-init : goal.loop-node-init
loop-node-init c = λ s.
    ap (λ ns. cond (list_any (λ (n : Node). n.serial == s) ns) [] (list_of c.args.lists.now.entries s)) (c.into_iter-node-iterator.ensures.into_iter_gives ∙ c.between-node-items.ensures)

pub loop-node-preserved : goal.loop-node-preserved
loop-node-preserved c = λ s.
    dropped_more c.loop-node.lists.entries c.remove.new.self.entries c.loop-node.node-iterator c.next.new.self c.in-Some.node.now s c.in-Some.ensures.steps c.remove.ensures.updates.0
    ∙ c.loop-node.invariant s

pub returns : goal.returns
returns c = λ s.
    sym (ap (λ ns. cond (list_any (λ (n : Node). n.serial == s) ns) [] (list_of c.loop-node.lists.entries s)) c.in-None.ensures.steps.0)
    ∙ c.loop-node.invariant s
