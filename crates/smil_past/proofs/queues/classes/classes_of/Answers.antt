use Rattle.std.proofs.Common.{ap, ◌∙◌, map}
use Rattle.std.specs.Prelude.{is_some}
use Rattle.smil_model.specs.declared.document.Node.{Node}
use Rattle.smil_model.specs.happening.Queue.{class_facts}
use Rattle.smil_tree.proofs.NodeWalks.{is_found, mapped_on, walk_begun, walk_on, walk_over}
use Rattle.smil_past.proofs.queues.classes.classes_of.Goals as goal

pub loop-node-init : goal.loop-node-init
loop-node-init c = (walk_begun _ _ (c.into_iter-node-iterator.ensures.into_iter_gives ∙ c.nodes-node-items.ensures), c.in_ok-classes.ensures.items)

pub class_of-requires : goal.class_of-requires
class_of-requires c = ap is_some (is_found c.args.tree.now.nodes c.loop-node.node-iterator c.in-Some.node.now c.next.new.self c.loop-node.invariant.0 c.in-Some.ensures.steps c.valid.ensures.numbered.distinct)

pub loop-node-preserved : goal.loop-node-preserved
loop-node-preserved c =
    let nodes = c.args.tree.now.nodes in
    let walk = c.loop-node.invariant.0 in
    let node = c.in-Some.node.now in (
      walk_on nodes c.loop-node.node-iterator node c.next.new.self walk c.in-Some.ensures.steps,
      mapped_on (λ (n : Node). class_facts nodes n.serial) walk.past node c.loop-node.classes.items c.push.new.self.items c.class_of.result c.loop-node.invariant.1 c.in_ok-push.ensures.items c.class_of.ensures,
    )

pub returns : goal.returns
returns c =
    let nodes = c.args.tree.now.nodes in
    c.loop-node.invariant.1 ∙ ap (map (λ (n : Node). class_facts nodes n.serial)) (walk_over nodes c.loop-node.node-iterator c.loop-node.invariant.0 c.in-None.ensures.steps.0)
