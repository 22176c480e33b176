use Rattle.std.proofs.Common.{◌≡◌, sym, ◌∙◌, ap, ◌<◌, arith, length, ℕ, List}
use Rattle.std.proofs.lemmas.Result.{IfOk-weaker}
use Rattle.smil_graph.specs.Tables.{serials_of_places, reach_of, AreOf}
use Rattle.smil_graph.specs.Places.{place_of}
use Rattle.smil_graph.proofs.GraphTables.{all_placed, heads_stay}
use Rattle.smil_graph.proofs.PlaceLists.{has_is}
use Rattle.smil_graph.proofs.PlacesInOrder.{sorted_rising}
use Rattle.smil_graph.proofs.ReachByPlace.{starts_low, reach_is}
use Rattle.smil_graph.proofs.graph.reach_from.Goals as goal

pub search-requires-clause-rows : goal.search-requires-clause-rows
search-requires-clause-rows c = rw c.as_slice.ensures.value (heads_stay c.args.tree.now.nodes c.args.tables.now.heads.items c.requires.tables.headed)

pub search-requires-clause-starts : goal.search-requires-clause-starts
search-requires-clause-starts c =
    rw c.as_slice.ensures.value (λ i q.
    let low : i < length c.args.tree.now.nodes = starts_low c.args.tree.now.nodes c.args.starts.now c.requires.elements i q in
    omega (arith, low, c.requires.tables.headed.count))

pub returns : goal.returns
returns c =
    IfOk-weaker c.serials_at.result (λ reach. reach ≡ serials_of_places c.args.tree.now.nodes c.as_slice-2.result.now)
    (λ reach. (set : List ℕ) → AreOf c.args.tree.now.nodes set c.args.starts.now → reach ≡ reach_of c.args.tree.now.nodes set)
    (λ reach is set begins.
    is
    ∙ ap (serials_of_places c.args.tree.now.nodes) c.as_slice-2.ensures.keys
    ∙ reach_is c.args.tree.now c.requires.tree (place_of c.args.tree.now.nodes) (all_placed c.args.tree.now.nodes) c.args.tables.now.heads.items c.requires.tables.headed set c.args.starts.now c.in_ok-found.found.keys c.requires.elements begins
    (rw c.as_slice.ensures.value at c.in_ok-found.ensures)
    c.sort_unstable.new.self.keys
    (sorted_rising c.sort_unstable.new.self.keys c.in_ok-sort_unstable.ensures.sorted c.sort_unstable.ensures.unique)
    (λ i. has_is c.sort_unstable.new.self.keys i ∙ c.in_ok-sort_unstable.ensures.reordered.2 i ∙ sym (has_is c.in_ok-found.found.keys i)))
    c.serials_at.ensures
