use Rattle.std.proofs.Common.{ap, ◌∙◌, [], map}
use Rattle.smil_model.specs.declared.document.Node.{Node}
use Rattle.smil_excl.specs.QueueState.{line_in}
use Rattle.smil_tree.proofs.NodeWalks.{mapped_on, walk_begun, walk_on, walk_over}
use Rattle.smil_past.proofs.queues.lines.empty_queues.Goals as goal

pub loop-node-init : goal.loop-node-init
loop-node-init c = (walk_begun _ _ (c.into_iter-node-iterator.ensures.into_iter_gives ∙ c.nodes-node-items.ensures), c.in_ok-queues.ensures.items)

pub loop-node-preserved : goal.loop-node-preserved
loop-node-preserved c =
    let nodes = c.args.tree.now.nodes in
    let walk = c.loop-node.invariant.0 in
    let node = c.in-Some.node.now in (
      walk_on nodes c.loop-node.node-iterator node c.next.new.self walk c.in-Some.ensures.steps,
      mapped_on (λ (n : Node). line_in nodes n.serial []) walk.past node c.loop-node.queues.items c.push.new.self.items c.in_ok-new.field-0 c.loop-node.invariant.1 c.in_ok-push.ensures.items
          (c.in_ok-new.ensures ∙ ap (λ r. record { held = []; room = r }) c.time_children_of.ensures),
    )

pub returns : goal.returns
returns c =
    let nodes = c.args.tree.now.nodes in
    c.loop-node.invariant.1 ∙ ap (map (λ (n : Node). line_in nodes n.serial [])) (walk_over nodes c.loop-node.node-iterator c.loop-node.invariant.0 c.in-None.ensures.steps.0)
