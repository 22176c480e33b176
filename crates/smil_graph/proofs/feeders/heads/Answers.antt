use Rattle.std.proofs.Common.{◌≡◌, sym, ◌∙◌, ap, ℕ, arith, length, Some}
use Rattle.std.specs.Prelude.{◌||◌, bytes_eq, option_copied, slice_get}
use Rattle.std.specs.HashMap.{get_by}
use Rattle.smil_model.specs.document.Closure.{has}
use Rattle.smil_graph.specs.Links.{row, links}
use Rattle.smil_graph.specs.Places.{reads_place}
use Rattle.smil_graph.proofs.GraphTables.{reads_low, reads_row}
use Rattle.smil_graph.proofs.RowsTurned.{turned_more}
use Rattle.smil_graph.proofs.feeders.heads.Goals as goal

pub push_in_each-requires : goal.push_in_each-requires
push_in_each-requires c =
    let nodes = c.args.tree.now.nodes in
    let place = c.loop-place.place in
    let at : slice_get nodes place ≡ Some c.unwrap-node.result.now = sym c.at.ensures ∙ ap option_copied c.unwrap-node.ensures in
    let same : (i : ℕ) → has c.push_all.new.row i ≡ links c.args.feeders.now place i =
    λ i. c.in_ok-push_all.ensures i ∙ ap (λ r. has r i || has c.at-in-loop-place.result.now i) c.new-row.ensures ∙ ap (λ r. has r i) c.at-in-loop-place.ensures in
    let reads : (i : ℕ) → has c.push_heard_by.new.row i ≡ reads_place nodes place i =
    λ i. reads_row nodes c.requires.distinct (λ id. get_by (λ k. bytes_eq id k.now) c.args.ids.now) c.requires.ids c.args.feeders.now c.requires.feeders place i c.unwrap-node.result.now c.push_heard_by.new.row c.push_all.new.row at (same i) (c.in_ok-push_heard_by.ensures i) in
    λ i q. omega (arith, reads_low nodes place i (sym (reads i) ∙ ap (λ r. has r i) (sym c.slice.ensures) ∙ q), c.loop-place.invariant.count)

pub loop-place-preserved : goal.loop-place-preserved
loop-place-preserved c =
    let nodes = c.args.tree.now.nodes in
    let place = c.loop-place.place in
    let at : slice_get nodes place ≡ Some c.unwrap-node.result.now = sym c.at.ensures ∙ ap option_copied c.unwrap-node.ensures in
    let same : (i : ℕ) → has c.push_all.new.row i ≡ links c.args.feeders.now place i =
    λ i. c.in_ok-push_all.ensures i ∙ ap (λ r. has r i || has c.at-in-loop-place.result.now i) c.new-row.ensures ∙ ap (λ r. has r i) c.at-in-loop-place.ensures in
    let reads : (i : ℕ) → has c.push_heard_by.new.row i ≡ reads_place nodes place i =
    λ i. reads_row nodes c.requires.distinct (λ id. get_by (λ k. bytes_eq id k.now) c.args.ids.now) c.requires.ids c.args.feeders.now c.requires.feeders place i c.unwrap-node.result.now c.push_heard_by.new.row c.push_all.new.row at (same i) (c.in_ok-push_heard_by.ensures i) in
    record {
      count = c.in_ok-push_in_each.ensures.count ∙ c.loop-place.invariant.count;
      heads = turned_more (reads_place nodes) c.loop-place.rows.items c.push_in_each.new.rows.items c.slice.result.now (length nodes) place c.loop-place.invariant.count c.loop-place.invariant.heads c.in_ok-push_in_each.ensures (λ i. ap (λ r. has r i) c.slice.ensures ∙ reads i);
    }

pub returns : goal.returns
returns c =
    let end : c.loop-place.place ≡ length c.args.tree.now.nodes = omega (arith, c.len-place-end.ensures, c.loop-place-test.false, c.loop-place.auto.place-end) in
    record { count = c.loop-place.invariant.count; each = rw end at c.loop-place.invariant.heads }
