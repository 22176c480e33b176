use Rattle.std.proofs.Common.{◌≡◌, ◌∙◌, sym, ap, length, arith, Some}
use Rattle.std.specs.Prelude.{slice_get, option_copied}
use Rattle.smil_model.specs.document.Document.{node_at}
use Rattle.smil_graph.specs.Places.{parent_by, place_of}
use Rattle.smil_graph.proofs.GraphTables.{all_placed}
use Rattle.smil_graph.proofs.NodesByPlace.{parent_step, table_all}
use Rattle.smil_graph.proofs.outline.parents.Goals as goal

pub loop-place-preserved : goal.loop-place-preserved
loop-place-preserved c =
    let place = c.loop-place.place in
    let node = c.unwrap-node.result.now in
    let at : slice_get c.args.tree.now.nodes place ≡ Some node = sym c.at.ensures ∙ ap option_copied c.unwrap-node.ensures in
    let entry : c.position.result ≡ parent_by (place_of c.args.tree.now.nodes) (slice_get c.args.tree.now.nodes place) = c.position.ensures ∙ ap (parent_by (place_of c.args.tree.now.nodes)) (sym at) in
    rw c.in_ok-push.ensures.items (rw entry (parent_step c.args.tree.now c.requires (place_of c.args.tree.now.nodes) (all_placed c.args.tree.now.nodes) place c.loop-place.parents.items c.loop-place.invariant))

pub returns : goal.returns
returns c = table_all c.args.tree.now.nodes (λ n. node_at c.args.tree.now.nodes n.parent) c.loop-place.place c.loop-place.parents.items (omega (arith, c.len-place-end.ensures, c.loop-place-test.false, c.loop-place.auto.place-end)) c.loop-place.invariant
