use Rattle.std.proofs.Common.{None, ap, cond, ◌∙◌}
use Rattle.std.specs.Prelude.{◌==◌}
use Rattle.std.specs.FinMap.{get as place_of}
use Rattle.smil_model.specs.declared.document.Node.{Node}
use Rattle.smil_tree.proofs.Counted.{forgotten_more}
use Rattle.smil_tree.proofs.nodes.forget_each.Goals as goal

pub loop-node-preserved : goal.loop-node-preserved
loop-node-preserved c = λ s.
    forgotten_more c.args.nodes.now c.loop-node.node-index s c.node-item.result (place_of c.args.places.now s) (place_of c.loop-node.places s) (place_of c.forget.new.self s) c.loop-node-test.true c.node-item.is
    (c.forget.ensures s ∙ ap (λ (n : Node). cond (n.serial == s) None (place_of c.loop-node.places s)) c.node.ensures) (c.loop-node.invariant s)
