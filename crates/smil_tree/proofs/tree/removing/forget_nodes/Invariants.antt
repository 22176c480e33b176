use Rattle.std.proofs.Common.{take, drop}
use Rattle.smil_tree.proofs.ListCuts.{IsTableLeft}
use Rattle.smil_tree.proofs.tree.removing.forget_nodes.Given as goal

abbrev pub invariant-loop-node : goal.invariant-loop-node
invariant-loop-node l = IsTableLeft l.ids (take l.fn.start l.nodes) l.node-iterator (drop l.fn.end l.nodes)
