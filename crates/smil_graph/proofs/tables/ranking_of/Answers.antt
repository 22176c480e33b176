use Rattle.std.specs.Prelude.{map}
use Rattle.smil_graph.specs.Graph.{followers_of, readers_of}
use Rattle.smil_graph.specs.Places.{place_of}
use Rattle.smil_graph.specs.Tables.{serials_of_places}
use Rattle.smil_graph.proofs.FollowersByPlace.{followers_answer, ranked_by}
use Rattle.smil_graph.proofs.GraphAnswers.{readers_answer}
use Rattle.smil_graph.proofs.GraphTables.{all_placed, readers_are}
use Rattle.smil_graph.proofs.tables.ranking_of.Goals as goal

pub ordered-requires-clause-levels : goal.ordered-requires-clause-levels
ordered-requires-clause-levels c = rw c.as_slice.ensures.value c.requires.links.leveled

pub ordered-requires-clause-time_parents : goal.ordered-requires-clause-time_parents
ordered-requires-clause-time_parents c = rw c.as_slice-2.ensures.value c.requires.times.above

pub ranked-requires : goal.ranked-requires
ranked-requires c = rw c.slice-2.ensures (rw c.slice.ensures at c.in_ok-ranks.ensures)

pub ranked-requires-2 : goal.ranked-requires-2
ranked-requires-2 c = rw c.slice-3.ensures (rw c.slice.ensures at c.in_ok-ranks.ensures)

pub returns : goal.returns
returns c =
    let nodes = c.args.tree.now.nodes in
    let distinct = c.requires.tree.distinct in
    let times = c.args.times.now in
    let links = c.args.links.now in
    let heads = links.heads.items in
    let followers = links.followers.items in
    let read = readers_are nodes distinct heads c.requires.links.headed in
    record {
      ordered = c.in_ok-order.ensures;
      ranked = rw c.slice.ensures at c.in_ok-ranks.ensures;
      read =
          ranked_by nodes c.in_ok-order.order heads (readers_of nodes)
          (readers_answer nodes distinct (place_of nodes) (all_placed nodes) times.parents.items times.children.items c.requires.times.above c.requires.times.under (map (serials_of_places nodes) heads) read)
          _ (rw (c.slice-2.ensures, c.as_slice-3.ensures.value) at c.in_ok-readers.ensures);
      followed =
          ranked_by nodes c.in_ok-order.order followers (followers_of nodes)
          (followers_answer nodes distinct (place_of nodes) (all_placed nodes) times.parents.items times.children.items c.requires.times.above c.requires.times.under followers c.requires.links.followed)
          _ (rw (c.slice-3.ensures, c.as_slice-4.ensures.value) at c.in_ok-followers.ensures);
    }
