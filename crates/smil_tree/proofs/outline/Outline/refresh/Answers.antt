use Rattle.std.proofs.Common.{◌∷◌, [], ◌+◌, sym, ap, subst, ◌∙◌, length}
use Rattle.std.specs.Prelude.{slice_get}
use Rattle.std.proofs.lemmas.List.{length-append}
use Rattle.smil_tree.specs.Outline.{BeginsOutline}
use Rattle.smil_tree.proofs.NodeWalks.{at_place, walk_begun, walk_on, walk_over}
use Rattle.smil_tree.proofs.outline.Outline.refresh.Goals as goal

pub loop-node-init : goal.loop-node-init
loop-node-init c = record {
  walk = walk_begun _ _ (c.into_iter-node-iterator.ensures.into_iter_gives ∙ c.iter-node-items.ensures);
  begun = c.clear.ensures c.args.nodes.now c.requires.room;
}

pub add-requires-clause-begun : goal.add-requires-clause-begun
add-requires-clause-begun c =
    subst (BeginsOutline c.args.nodes.now c.loop-node.self) (sym c.loop-node.invariant.begun.count) c.loop-node.invariant.begun

pub add-requires-clause-here : goal.add-requires-clause-here
add-requires-clause-here c =
    ap (slice_get c.args.nodes.now) c.loop-node.invariant.begun.count
    ∙ at_place c.args.nodes.now c.loop-node.node-iterator c.in-Some.node.now c.next.new.self c.loop-node.invariant.walk c.in-Some.ensures.steps

pub loop-node-preserved : goal.loop-node-preserved
loop-node-preserved c = record {
  walk = walk_on c.args.nodes.now c.loop-node.node-iterator c.in-Some.node.now c.next.new.self c.loop-node.invariant.walk c.in-Some.ensures.steps;
  begun =
      subst (BeginsOutline c.args.nodes.now c.add.new.self)
      (ap (λ k. k + 1) c.loop-node.invariant.begun.count ∙ sym (length-append c.loop-node.invariant.walk.past (c.in-Some.node.now ∷ []))) c.add.ensures;
}

pub returns : goal.returns
returns c =
    subst (BeginsOutline c.args.nodes.now c.loop-node.self)
    (ap length (walk_over c.args.nodes.now c.loop-node.node-iterator c.loop-node.invariant.walk c.in-None.ensures.steps.0)) c.loop-node.invariant.begun
