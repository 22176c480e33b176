use Rattle.std.proofs.Common.{◌≡◌, take}
use Rattle.smil_tree.proofs.nodes.NodesDuplicate.copy.Given as goal

-- the copy has the nodes before the present one
abbrev pub invariant-loop-node : goal.invariant-loop-node
invariant-loop-node l = l.list.items ≡ take l.node-index l.node-items
