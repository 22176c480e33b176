use Rattle.std.proofs.Common.{◌≡◌, map}
use Rattle.smil_stretch.specs.NodeClocks.{idle_clock}
use Rattle.smil_tree.proofs.NodeWalks.{Walked}
use Rattle.smil_stretch.proofs.clocks.idle_clocks.Given as goal

-- the clocks of the nodes so far
abbrev pub invariant-loop-node : goal.invariant-loop-node
invariant-loop-node l = (walk : Walked l.tree.nodes l.node-iterator) × (l.clocks.items ≡ map (idle_clock l.tree.nodes) walk.past)
