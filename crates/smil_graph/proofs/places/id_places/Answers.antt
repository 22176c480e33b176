use Rattle.std.proofs.Common.{◌≡◌, sym, ◌∙◌, ap, refl, ℕ, List, arith, Some, None}
use Rattle.std.specs.Prelude.{◌&&◌, bytes_eq, slice_get, option_copied}
use Rattle.std.specs.HashMap.{get_by}
use Rattle.smil_model.specs.document.Document.{is_element, has_id}
use Rattle.smil_graph.proofs.NodesByPlace.{fill_none, fill_step, fill_all}
use Rattle.smil_graph.proofs.places.id_places.Goals as goal

pub loop-place-init : goal.loop-place-init
loop-place-init c = fill_none {K = List ℕ} (λ id n. is_element n && has_id id n.attrs.id) c.args.tree.now.nodes (λ id. get_by (λ k. bytes_eq id k.now) c.in_ok-places.places) (λ id. let none : get_by (λ k. bytes_eq id k.now) c.in_ok-places.places ≡ None = rw c.in_ok-places.ensures.empty refl in none)

pub loop-place-preserved : goal.loop-place-preserved
loop-place-preserved c =
    let place = c.loop-place.place in
    let node = c.unwrap-node.result.now in
    let at : slice_get c.args.tree.now.nodes place ≡ Some node = sym c.at.ensures ∙ ap option_copied c.unwrap-node.ensures in
    fill_step {K = List ℕ} (λ id n. is_element n && has_id id n.attrs.id) c.args.tree.now.nodes place node (λ id. get_by (λ k. bytes_eq id k.now) c.loop-place.places) (λ id. get_by (λ k. bytes_eq id k.now) c.note_id.new.places) at c.loop-place.invariant c.in_ok-note_id.ensures

pub returns : goal.returns
returns c = fill_all {K = List ℕ} (λ id n. is_element n && has_id id n.attrs.id) c.args.tree.now.nodes c.loop-place.place (λ id. get_by (λ k. bytes_eq id k.now) c.loop-place.places) (omega (arith, c.len-place-end.ensures, c.loop-place-test.false)) c.loop-place.invariant
