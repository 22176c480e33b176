use Rattle.std.proofs.Common.{◌≡◌}
use Rattle.smil_outline.proofs.nodes.Nodes.into_doc.Given as goal

abbrev pub invariant-loop-node : goal.invariant-loop-node
invariant-loop-node l = record {
  nodes : l.doc.nodes ≡ l.yielded;
  next : l.doc.next ≡ l.next;
}
