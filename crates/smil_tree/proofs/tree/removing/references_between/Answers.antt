use Rattle.std.proofs.Common.{◌∙◌, ap, arith}
use Rattle.smil_model.specs.document.Valid.{references}
use Rattle.smil_tree.proofs.ListCuts.{references_parts, references_first}
use Rattle.smil_tree.proofs.tree.removing.references_between.Goals as goal

pub loop-node-init : goal.loop-node-init
loop-node-init c =
    omega (arith, references_parts c.args.nodes.now c.into_iter-node-iterator.result c.args.start c.args.end c.requires.in_order (c.into_iter-node-iterator.ensures.into_iter_gives ∙ c.between-node-items.ensures))

pub references_in-count-requires : goal.references_in-count-requires
references_in-count-requires c =
    omega (arith, references_first c.loop-node.node-iterator c.next.new.self c.in-Some.node.now c.in-Some.ensures.steps, c.loop-node.invariant, c.requires.few)

pub overflow_add-count : goal.overflow_add-count
overflow_add-count c =
    omega (arith, references_first c.loop-node.node-iterator c.next.new.self c.in-Some.node.now c.in-Some.ensures.steps, c.loop-node.invariant, c.requires.few, c.references_in-count.ensures)

pub loop-node-preserved : goal.loop-node-preserved
loop-node-preserved c =
    omega (arith, references_first c.loop-node.node-iterator c.next.new.self c.in-Some.node.now c.in-Some.ensures.steps, c.loop-node.invariant, c.references_in-count.ensures)

pub returns : goal.returns
returns c = omega (arith, ap references c.in-None.ensures.steps.0, c.loop-node.invariant)
