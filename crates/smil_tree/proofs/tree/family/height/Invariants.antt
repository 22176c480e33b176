use Rattle.std.proofs.Common.{◌≡◌, ◌+◌, length}
use Rattle.smil_model.specs.document.Document.{lineage}
use Rattle.smil_tree.proofs.tree.family.height.Given as goal

abbrev pub invariant-loop-height : goal.invariant-loop-height
invariant-loop-height l = l.height + length (lineage l.nodes l.at) ≡ length (lineage l.nodes l.fn.serial)
