use Rattle.std.proofs.Common.{◌≡◌, ◌∙◌, ap, map}
use Rattle.std.proofs.lemmas.Result.{IfOk-weaker}
use Rattle.smil_graph.specs.declared.ordered.Rank.{Rank}
use Rattle.smil_graph.specs.Graph.{IsGraphOrder}
use Rattle.smil_graph.specs.Tables.{serials_of_places}
use Rattle.smil_graph.proofs.ElementOrder.{order_is}
use Rattle.smil_graph.proofs.ordered.ordered.Goals as goal

pub returns : goal.returns
returns c =
    let places : c.as_slice-3.result.now ≡ map (λ (r : Rank). r.place) c.sort_unstable.new.self.items = c.as_slice-3.ensures.value ∙ c.in_ok-places.ensures ∙ ap (map (λ (r : Rank). r.place)) c.as_slice-2.ensures.value in
    IfOk-weaker c.serials_at.result (λ order. order ≡ serials_of_places c.args.tree.now.nodes c.as_slice-3.result.now) (λ order. IsGraphOrder c.args.tree.now.nodes order)
    (λ order is. rw (is, places) (order_is c.args.tree.now.nodes c.requires.distinct c.args.time_parents.now c.requires.time_parents c.args.levels.now c.in_ok-heights.heights.items c.requires.levels c.in_ok-heights.ensures c.sort_unstable.new.self.items (rw c.as_slice.ensures.value at (rw c.in_ok-ranks.ensures at c.sort_unstable.ensures.permutation)) c.sort_unstable.ensures.sorted))
    c.serials_at.ensures
