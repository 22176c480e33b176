use Rattle.std.proofs.Common.{length}
use Rattle.smil_tree.specs.Outline.{BeginsOutline}
use Rattle.smil_tree.proofs.NodeWalks.{Walked}
use Rattle.smil_tree.proofs.outline.Outline.refresh.Given as goal

-- the rows are those of the nodes so far
abbrev pub invariant-loop-node : goal.invariant-loop-node
invariant-loop-node l = record {
  walk : Walked l.nodes l.node-iterator;
  begun : BeginsOutline l.nodes l.self (length walk.past);
}
