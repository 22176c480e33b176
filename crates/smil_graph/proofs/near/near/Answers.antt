use Rattle.std.proofs.Common.{◌≡◌, sym, ◌∙◌, ap, ◌<◌, arith, length}
use Rattle.smil_graph.specs.Places.{up}
use Rattle.smil_graph.specs.Tables.{top_of}
use Rattle.smil_graph.proofs.PlaceLists.{only}
use Rattle.smil_graph.proofs.GraphTables.{children_stay}
use Rattle.smil_graph.proofs.ReachByPlace.{near_some, near_none, top_below}
use Rattle.smil_graph.proofs.near.near.Goals as goal
use Rattle.smil_graph.proofs.near.near.Goals.{in-Some+in_ok-insert, in_default}

pub search-requires-clause-rows : goal.search-requires-clause-rows
search-requires-clause-rows c = children_stay c.args.tree.now.doc.now.nodes c.args.tree.now.parents.now c.requires.parents c.args.tree.now.children.now c.requires.count c.requires.children

pub search-requires-clause-starts : goal.search-requires-clause-starts
search-requires-clause-starts c = λ i q.
    let same : i ≡ c.top_of-top.result = only c.top_of-top.result i q in
    let top : c.top_of-top.result ≡ top_of c.args.tree.now.doc.now.nodes (up c.args.tree.now.parents.now c.args.place) c.args.place = c.top_of-top.ensures ∙ ap (λ o. top_of c.args.tree.now.doc.now.nodes o c.args.place) c.place_at-parent.ensures in
    let low : top_of c.args.tree.now.doc.now.nodes (up c.args.tree.now.parents.now c.args.place) c.args.place < length c.args.tree.now.doc.now.nodes = top_below c.args.tree.now.doc.now.nodes c.args.tree.now.parents.now c.requires.parents c.args.place c.requires.element in
    omega (arith, same, top, low, c.requires.count)

pub returns : goal.returns
returns c =
    let top : c.top_of-top.result ≡ top_of c.args.tree.now.doc.now.nodes (up c.args.tree.now.parents.now c.args.place) c.args.place = c.top_of-top.ensures ∙ ap (λ o. top_of c.args.tree.now.doc.now.nodes o c.args.place) c.place_at-parent.ensures in
    elim c.match-parent.branch [
      | in-Some+in_ok-insert w ↦
          rw w.found-is (rw w.in_ok-insert.ensures.keys (near_some c.args.tree.now.doc.now c.requires.numbered c.args.tree.now.parents.now c.args.tree.now.children.now c.requires.parents c.requires.children c.args.place c.requires.element c.in_ok-found.found.keys c.top_of-top.result top c.in_ok-found.ensures w.in-Some.parent (sym c.place_at-parent.ensures ∙ w.in-Some.is)))
      | in_default w ↦
          rw w.found-is (near_none c.args.tree.now.doc.now c.requires.numbered c.args.tree.now.parents.now c.args.tree.now.children.now c.requires.parents c.requires.children c.args.place c.requires.element c.in_ok-found.found.keys c.top_of-top.result top c.in_ok-found.ensures (sym c.place_at-parent.ensures ∙ w.in_default.is))
    ]
