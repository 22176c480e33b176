use Rattle.std.specs.Prelude.{slice_get, bytes_eq}
use Rattle.std.specs.HashMap.{get_by}
use Rattle.smil_graph.specs.Links.{AreRows, row}
use Rattle.smil_graph.specs.Places.{up, element_follows}
use Rattle.smil_graph.proofs.feeders.feeder_rows.Given as goal

abbrev pub invariant-loop-place : goal.invariant-loop-place
invariant-loop-place l = AreRows l.place (λ j i. element_follows (row l.index.children.now j) (up l.index.previous.now j) (λ id. get_by (λ k. bytes_eq id k.now) l.index.ids.now) (slice_get l.tree.nodes j) i) l.rows
