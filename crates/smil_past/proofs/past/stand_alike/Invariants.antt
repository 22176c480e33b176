use Rattle.std.proofs.Common.{◌≡◌, map}
use Rattle.smil_tree.proofs.NodeWalks.{Walked}
use Rattle.smil_stretch.specs.NodeClocks.{idle_clock}
use Rattle.smil_past.proofs.past.stand_alike.Given as goal

-- all clocks are the same where those of the nodes that are left are
abbrev pub invariant-loop-node : goal.invariant-loop-node
invariant-loop-node l = record {
  walk : Walked l.before.nodes l.node-iterator;
  other : Walked l.after.nodes l.left;
  alike : map (idle_clock l.before.nodes) l.node-iterator ≡ map (idle_clock l.after.nodes) l.left → map (idle_clock l.before.nodes) l.before.nodes ≡ map (idle_clock l.after.nodes) l.after.nodes;
}
