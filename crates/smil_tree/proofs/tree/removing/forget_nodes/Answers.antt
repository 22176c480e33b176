use Rattle.std.proofs.Common.{◌∙◌, take, drop}
use Rattle.smil_tree.proofs.ListCuts.{none_forgotten, forgotten_more, all_forgotten}
use Rattle.smil_tree.proofs.tree.removing.forget_nodes.Goals as goal

pub loop-node-init : goal.loop-node-init
loop-node-init c =
    none_forgotten c.args.ids.now c.args.nodes.now c.into_iter-node-iterator.result c.args.start c.args.end c.requires.in_order c.requires.once c.requires.table
    (c.into_iter-node-iterator.ensures.into_iter_gives ∙ c.between-node-items.ensures)

pub loop-node-preserved : goal.loop-node-preserved
loop-node-preserved c =
    forgotten_more c.loop-node.ids c.forget_node.new.ids (take c.args.start c.args.nodes.now) c.loop-node.node-iterator c.next.new.self (drop c.args.end c.args.nodes.now) c.in-Some.node.now c.in-Some.ensures.steps c.forget_node.ensures c.loop-node.invariant

pub returns : goal.returns
returns c = all_forgotten c.loop-node.ids c.args.nodes.now c.loop-node.node-iterator c.args.start c.args.end c.in-None.ensures.steps.0 c.loop-node.invariant
