use Rattle.std.proofs.Common.{◌≡◌, take}
use Rattle.smil_model.specs.document.Valid.{references}
use Rattle.smil_tree.proofs.tree.references_of.Given as goal

abbrev pub invariant-loop-node : goal.invariant-loop-node
invariant-loop-node l = l.count ≡ references (take l.node-index l.doc.nodes)
