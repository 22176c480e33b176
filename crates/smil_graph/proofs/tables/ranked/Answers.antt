use Rattle.std.proofs.Common.{◌∙◌, ap}
use Rattle.std.specs.Prelude.{◌||◌, slice_index}
use Rattle.smil_model.specs.document.Closure.{has}
use Rattle.smil_graph.specs.Places.{place_of}
use Rattle.smil_graph.specs.Tables.{is_rank_at, row_of}
use Rattle.smil_graph.proofs.RowsBuilt.{rows_step}
use Rattle.smil_graph.proofs.tables.ranked.Goals as goal

pub loop-serial-preserved : goal.loop-serial-preserved
loop-serial-preserved c =
    let k = c.loop-serial.serial-index in
    let order = c.args.order.now in
    let rows = c.args.rows.now in
    let nodes = c.args.tree.now.nodes in
    rw (c.in_ok-push.ensures.ok, c.slice.ensures) (rows_step (λ rank. is_rank_at nodes order (row_of rows (place_of nodes (slice_index order rank)))) k c.loop-serial.lists c.push_ranks.new.row c.loop-serial.invariant
    (λ r. c.in_ok-push_ranks.ensures order c.requires r
    ∙ ap (λ row. has row r || is_rank_at nodes order c.row_of.result.now r) c.clear.ensures
    ∙ ap (λ places. is_rank_at nodes order places r) (c.row_of.ensures ∙ ap (row_of rows) c.position.ensures)))
