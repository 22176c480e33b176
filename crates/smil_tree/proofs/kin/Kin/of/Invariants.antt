use Rattle.smil_model.specs.document.Document.{is_time_child}
use Rattle.smil_tree.specs.Kin.{AreListsOf}
use Rattle.smil_tree.proofs.KinTables.{is_child}
use Rattle.smil_tree.proofs.NodeWalks.{Walked}
use Rattle.smil_tree.proofs.kin.Kin.of.Given as goal

-- the lists of the nodes so far
abbrev pub invariant-loop-node : goal.invariant-loop-node
invariant-loop-node l = record {
  walk : Walked l.nodes l.node-iterator;
  children : AreListsOf is_child l.children.entries walk.past;
  time_children : AreListsOf (is_time_child l.nodes) l.time_children.entries walk.past;
}
