use Rattle.smil_graph.proofs.NodesByPlace.{IsTableTo}
use Rattle.smil_model.specs.document.Document.{previous_in_seq}
use Rattle.smil_graph.proofs.outline.previous_in_seqs.Given as goal

abbrev pub invariant-loop-place : goal.invariant-loop-place
invariant-loop-place l = IsTableTo l.tree.doc.now.nodes (λ n. previous_in_seq l.tree.doc.now.nodes n.serial) l.place l.table.items
