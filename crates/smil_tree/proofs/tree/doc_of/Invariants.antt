use Rattle.std.proofs.Common.{◌≡◌, ◌++◌}
use Rattle.smil_tree.proofs.tree.doc_of.Given as goal

-- the nodes so far, and those that are left
abbrev pub invariant-loop-node : goal.invariant-loop-node
invariant-loop-node l = record {
  nodes : l.doc.nodes ++ l.node-iterator ≡ l.nodes;
  next : l.doc.next ≡ l.next;
}
