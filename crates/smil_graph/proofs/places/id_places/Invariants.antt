use Rattle.std.proofs.Common.{ℕ, List}
use Rattle.std.specs.Prelude.{◌&&◌, bytes_eq}
use Rattle.std.specs.HashMap.{get_by}
use Rattle.smil_model.specs.document.Document.{is_element, has_id}
use Rattle.smil_graph.proofs.NodesByPlace.{IsFilledTo}
use Rattle.smil_graph.proofs.places.id_places.Given as goal

abbrev pub invariant-loop-place : goal.invariant-loop-place
invariant-loop-place l = IsFilledTo {K = List ℕ} (λ id n. is_element n && has_id id n.attrs.id) l.tree.nodes l.place (λ id. get_by (λ k. bytes_eq id k.now) l.places)
