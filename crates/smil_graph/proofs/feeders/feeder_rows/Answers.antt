use Rattle.std.proofs.Common.{◌≡◌, sym, ◌∙◌, ap, length, arith, Some}
use Rattle.std.specs.Prelude.{bytes_eq, slice_get, option_copied}
use Rattle.std.specs.HashMap.{get_by}
use Rattle.smil_graph.specs.Links.{row}
use Rattle.smil_graph.specs.Places.{up, element_follows}
use Rattle.smil_graph.proofs.RowsBuilt.{rows_step, feeder_row}
use Rattle.smil_graph.proofs.feeders.feeder_rows.Goals as goal

pub loop-place-preserved : goal.loop-place-preserved
loop-place-preserved c =
    let place = c.loop-place.place in
    let node = c.unwrap-node.result.now in
    let at : slice_get c.args.tree.now.nodes place ≡ Some node = sym c.at.ensures ∙ ap option_copied c.unwrap-node.ensures in
    rw (c.in_ok-push.ensures.ok, c.slice.ensures) (rows_step (λ j i. element_follows (row c.args.index.now.children.now j) (up c.args.index.now.previous.now j) (λ id. get_by (λ k. bytes_eq id k.now) c.args.index.now.ids.now) (slice_get c.args.tree.now.nodes j) i) place c.loop-place.rows c.push_feeders.new.row c.loop-place.invariant
    (λ i. feeder_row (slice_get c.args.tree.now.nodes place) node (row c.args.index.now.children.now place) (up c.args.index.now.previous.now place) (λ id. get_by (λ k. bytes_eq id k.now) c.args.index.now.ids.now) i c.push_feeders.new.row c.new-row.result c.new-row.ensures (sym at) (c.in_ok-push_feeders.ensures i)))

pub returns : goal.returns
returns c =
    let end : c.loop-place.place ≡ length c.args.tree.now.nodes = omega (arith, c.len-place-end.ensures, c.loop-place-test.false, c.loop-place.auto.place-end) in
    rw end at c.loop-place.invariant
