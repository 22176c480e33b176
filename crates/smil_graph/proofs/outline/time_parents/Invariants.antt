use Rattle.smil_graph.proofs.NodesByPlace.{IsTableTo}
use Rattle.smil_model.specs.document.Document.{time_parent}
use Rattle.smil_graph.proofs.outline.time_parents.Given as goal

abbrev pub invariant-loop-parent : goal.invariant-loop-parent
invariant-loop-parent l = IsTableTo l.tree.nodes (λ n. time_parent l.tree.nodes n.serial) l.parent-index l.above.items
