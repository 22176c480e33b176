use Rattle.smil_graph.proofs.NodesByPlace.{IsTableTo}
use Rattle.smil_model.specs.document.Document.{node_at}
use Rattle.smil_graph.proofs.outline.parents.Given as goal

abbrev pub invariant-loop-place : goal.invariant-loop-place
invariant-loop-place l = IsTableTo l.tree.nodes (λ n. node_at l.tree.nodes n.parent) l.place l.parents.items
