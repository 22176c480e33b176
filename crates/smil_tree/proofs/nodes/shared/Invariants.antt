use Rattle.std.proofs.Common.{◌≡◌, ◌++◌, length}
use Rattle.std.specs.Vec.Iter.{into_iter_items, into_iter_len}
use Rattle.smil_tree.proofs.nodes.shared.Given as goal

-- the nodes so far, then those that are left
abbrev pub invariant-loop-node : goal.invariant-loop-node
invariant-loop-node l = record {
  whole : l.list.items ++ into_iter_items l.node-iterator ≡ l.fn.nodes.items;
  long : into_iter_len l.node-iterator ≡ length (into_iter_items l.node-iterator);
}
