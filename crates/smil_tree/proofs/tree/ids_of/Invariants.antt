use Rattle.std.proofs.Common.{take}
use Rattle.smil_tree.specs.TreeFields.{IsTableOf}
use Rattle.smil_tree.proofs.tree.ids_of.Given as goal

abbrev pub invariant-loop-node : goal.invariant-loop-node
invariant-loop-node l = IsTableOf l.ids (take l.node-index l.doc.nodes)
