use Rattle.std.proofs.Common.{◌++◌, ap, ◌∙◌}
use Rattle.smil_tree.proofs.TreeMade.{copied_more, copied_all}
use Rattle.smil_tree.proofs.tree.doc_of.Goals as goal

pub loop-node-init : goal.loop-node-init
loop-node-init c = record {
  nodes = ap (λ ns. ns ++ c.into_iter-node-iterator.result) c.new-doc.ensures.nodes ∙ c.into_iter-node-iterator.ensures.into_iter_gives ∙ c.iter-node-items.ensures;
  next = c.new-doc.ensures.next;
}

pub loop-node-preserved : goal.loop-node-preserved
loop-node-preserved c = record {
  nodes = copied_more c.args.nodes.now c.loop-node.node-iterator c.next.new.self c.loop-node.doc c.push.new.self c.in-Some.node.now c.in_ok-copy.field-0 c.in-Some.ensures.steps c.in_ok-copy.ensures c.in_ok-push.ensures.ok c.loop-node.invariant.nodes;
  next = ap (λ d. d.next) c.in_ok-push.ensures.ok ∙ c.loop-node.invariant.next;
}

pub returns : goal.returns
returns c = copied_all c.args.nodes.now c.loop-node.node-iterator c.args.next c.loop-node.doc c.in-None.ensures.steps.0 c.loop-node.invariant.nodes c.loop-node.invariant.next
