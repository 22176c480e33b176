use Rattle.std.proofs.Common.{ap, ◌∙◌, [], map, false}
use Rattle.smil_past.specs.Queues.{playing_line}
use Rattle.smil_tree.proofs.NodeWalks.{mapped_on, walk_begun, walk_on, walk_over}
use Rattle.smil_past.proofs.PlayingChildren.{none_line}
use Rattle.smil_past.proofs.queues.playing.none_playing.Goals as goal

pub loop-node-init : goal.loop-node-init
loop-node-init c = (walk_begun _ _ (c.into_iter-node-iterator.ensures.into_iter_gives ∙ c.nodes-node-items.ensures), c.in_ok-playing.ensures.items)

pub loop-node-preserved : goal.loop-node-preserved
loop-node-preserved c =
    let nodes = c.args.tree.now.nodes in
    let walk = c.loop-node.invariant.0 in
    let node = c.in-Some.node.now in (
      walk_on nodes c.loop-node.node-iterator node c.next.new.self walk c.in-Some.ensures.steps,
      mapped_on (playing_line nodes (λ serial. false)) walk.past node c.loop-node.playing.items c.push.new.self.items c.in_ok-new.field-0 c.loop-node.invariant.1 c.in_ok-push.ensures.items
          (c.in_ok-new.ensures ∙ ap (λ r. record { held = []; room = r }) c.room_in.ensures ∙ none_line nodes node),
    )

pub returns : goal.returns
returns c =
    let nodes = c.args.tree.now.nodes in
    c.loop-node.invariant.1 ∙ ap (map (playing_line nodes (λ serial. false))) (walk_over nodes c.loop-node.node-iterator c.loop-node.invariant.0 c.in-None.ensures.steps.0)
