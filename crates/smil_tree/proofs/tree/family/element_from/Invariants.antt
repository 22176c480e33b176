use Rattle.std.proofs.Common.{◌≡◌, length}
use Rattle.std.specs.Prelude.{find}
use Rattle.smil_model.specs.document.Document.{is_element, lineage}
use Rattle.smil_tree.proofs.tree.family.element_from.Given as goal

abbrev pub invariant-loop-node : goal.invariant-loop-node
invariant-loop-node l = find is_element (lineage l.nodes l.at) ≡ find is_element (lineage l.nodes l.fn.serial)

abbrev pub decreases-loop-node : goal.decreases-loop-node
decreases-loop-node l = length (lineage l.nodes l.at)
