use Rattle.std.proofs.Common.{◌≡◌, ◌<◌, sym, ◌∙◌, ap, subst, length}
use Rattle.std.specs.Prelude.{[], slice_index, slice_index_or}
use Rattle.smil_model.specs.document.Closure.{has}
use Rattle.smil_graph.specs.declared.tables.Tables.{Tables}
use Rattle.smil_graph.specs.Graph.{is_follower_rank, OrderedNodes}
use Rattle.smil_graph.proofs.graph.Graph.follower_ranks.Goals as goal

pub returns : goal.returns
returns c =
    let rank = c.args.rank in
    let low = subst (λ (g : OrderedNodes). rank < length g.order) (sym c.self.view_is) c.requires in
    λ r.
    ap (λ ranks. has ranks r) c.at.ensures
    ∙ ap (λ (t : Tables). has (slice_index_or t.follower_ranks rank []) r) c.as_ref-tables.ensures
    ∙ (c.self.invariant.1).followed.each rank r low
    ∙ ap (λ (g : OrderedNodes). is_follower_rank g.nodes g.order (slice_index g.order rank) r) c.self.view_is
