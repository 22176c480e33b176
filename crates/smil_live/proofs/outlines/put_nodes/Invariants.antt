use Rattle.std.proofs.Common.{◌≡◌, ◌++◌, take, drop, length, reverse}
use Rattle.smil_model.specs.document.Words.{Begins}
use Rattle.smil_outline.specs.Open.{upwards}
use Rattle.smil_outline.specs.Written.{nodes_text}
use Rattle.smil_outline.proofs.DepthWalk.{IsWalkedTo, text_behind}
use Rattle.smil_tree.proofs.NodeWalks.{Walked}
use Rattle.smil_live.proofs.outlines.put_nodes.Given as goal

abbrev pub invariant-loop-node : goal.invariant-loop-node
invariant-loop-node l = record {
  walk : Walked l.tree.nodes l.node-iterator;
  walked : IsWalkedTo l.tree.nodes (length walk.past) (upwards l.branch);
  text : l.out ++ text_behind l.saved (reverse (take (length walk.past) l.tree.nodes)) (drop (length walk.past) l.tree.nodes) ≡ l.fn.out ++ nodes_text l.saved l.tree.nodes;
  begins : Begins l.fn.out l.out;
}
