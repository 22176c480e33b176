use Rattle.std.proofs.Common.{ℕ, ap, ◌∙◌, map, false, pos}
use Rattle.std.specs.Prelude.{Option, is_some}
use Rattle.smil_stretch.specs.declared.clock.Clock.TheVariants.{Runs}
use Rattle.smil_stretch.specs.declared.clock.NodeClock.{NodeClock}
use Rattle.smil_stretch.specs.NodeClocks.{idle_clock}
use Rattle.smil_tree.proofs.NodeWalks.{is_found, mapped_on, walk_begun, walk_on, walk_over}
use Rattle.smil_stretch.proofs.clocks.idle_clocks.Goals as goal

-- an idle clock by its serial and the place of its time parent
abbrev idle_at : ℕ → Option ℕ → NodeClock
idle_at serial parent = record { serial = serial; parent = parent; paused = false; clock = Runs (pos 0) }

pub loop-node-init : goal.loop-node-init
loop-node-init c = (walk_begun _ _ (c.into_iter-node-iterator.ensures.into_iter_gives ∙ c.nodes-node-items.ensures), c.in_ok-clocks.ensures.items)

pub parent_of-requires : goal.parent_of-requires
parent_of-requires c = ap is_some (is_found c.args.tree.now.nodes c.loop-node.node-iterator c.in-Some.node.now c.next.new.self c.loop-node.invariant.0 c.in-Some.ensures.steps c.requires.distinct)

pub loop-node-preserved : goal.loop-node-preserved
loop-node-preserved c =
    let nodes = c.args.tree.now.nodes in
    let walk = c.loop-node.invariant.0 in
    let node = c.in-Some.node.now in (
      walk_on nodes c.loop-node.node-iterator node c.next.new.self walk c.in-Some.ensures.steps,
      mapped_on (idle_clock nodes) walk.past node c.loop-node.clocks.items c.push.new.self.items (idle_at node.serial c.parent_of.result) c.loop-node.invariant.1 c.in_ok-push.ensures.items
          (ap (idle_at node.serial) c.parent_of.ensures),
    )

pub returns : goal.returns
returns c =
    let nodes = c.args.tree.now.nodes in
    c.loop-node.invariant.1 ∙ ap (map (idle_clock nodes)) (walk_over nodes c.loop-node.node-iterator c.loop-node.invariant.0 c.in-None.ensures.steps.0)
