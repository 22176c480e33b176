use Rattle.std.proofs.Common.{◌≡◌, sym, ◌∙◌, ap, ℕ, List, arith, length, Option, Some}
use Rattle.std.specs.Prelude.{bytes_eq, slice_get, option_copied}
use Rattle.std.specs.HashMap.{get_by}
use Rattle.smil_model.specs.document.Closure.{has}
use Rattle.smil_graph.specs.Places.{up, follows_place}
use Rattle.smil_graph.proofs.FollowersByPlace.{followed_is, followed_row, follows_low}
use Rattle.smil_graph.proofs.RowsTurned.{turned_more}
use Rattle.smil_graph.proofs.followers.followers.Goals as goal

pub push_in_each-requires : goal.push_in_each-requires
push_in_each-requires c =
    let nodes = c.args.tree.now.nodes in
    let place = c.loop-place.place in
    let node = c.unwrap-node.result.now in
    let named : List ℕ → Option ℕ = λ id. get_by (λ k. bytes_eq id k.now) c.args.loops.now.ids.now in
    let levels = c.args.loops.now.levels.now in
    let before = up c.args.previous.now place in
    let at : slice_get nodes place ≡ Some node = sym c.at.ensures ∙ ap option_copied c.unwrap-node.ensures in
    let follows : (i : ℕ) → has c.push_followed.new.row i ≡ follows_place nodes place i =
    λ i. followed_row levels named before c.place_at.result place (slice_get nodes place) node i c.push_followed.new.row c.new-row.result c.new-row.ensures (sym at) c.place_at.ensures (c.in_ok-push_followed.ensures i)
    ∙ followed_is nodes c.requires.distinct named c.requires.ids levels c.requires.levels c.args.previous.now c.requires.previous place i node at in
    λ i q. omega (arith, follows_low nodes place i (sym (follows i) ∙ ap (λ r. has r i) (sym c.slice.ensures) ∙ q), c.loop-place.invariant.count)

pub loop-place-preserved : goal.loop-place-preserved
loop-place-preserved c =
    let nodes = c.args.tree.now.nodes in
    let place = c.loop-place.place in
    let node = c.unwrap-node.result.now in
    let named : List ℕ → Option ℕ = λ id. get_by (λ k. bytes_eq id k.now) c.args.loops.now.ids.now in
    let levels = c.args.loops.now.levels.now in
    let before = up c.args.previous.now place in
    let at : slice_get nodes place ≡ Some node = sym c.at.ensures ∙ ap option_copied c.unwrap-node.ensures in
    let follows : (i : ℕ) → has c.push_followed.new.row i ≡ follows_place nodes place i =
    λ i. followed_row levels named before c.place_at.result place (slice_get nodes place) node i c.push_followed.new.row c.new-row.result c.new-row.ensures (sym at) c.place_at.ensures (c.in_ok-push_followed.ensures i)
    ∙ followed_is nodes c.requires.distinct named c.requires.ids levels c.requires.levels c.args.previous.now c.requires.previous place i node at in
    record {
      count = c.in_ok-push_in_each.ensures.count ∙ c.loop-place.invariant.count;
      heads = turned_more (follows_place nodes) c.loop-place.rows.items c.push_in_each.new.rows.items c.slice.result.now (length nodes) place c.loop-place.invariant.count c.loop-place.invariant.heads c.in_ok-push_in_each.ensures (λ i. ap (λ r. has r i) c.slice.ensures ∙ follows i);
    }

pub returns : goal.returns
returns c =
    let end : c.loop-place.place ≡ length c.args.tree.now.nodes = omega (arith, c.len-place-end.ensures, c.loop-place-test.false, c.loop-place.auto.place-end) in
    record { count = c.loop-place.invariant.count; each = rw end at c.loop-place.invariant.heads }
