use Rattle.std.proofs.Common.{length}
use Rattle.std.specs.Prelude.{bytes_eq, slice_get}
use Rattle.std.specs.HashMap.{get_by}
use Rattle.std.proofs.lemmas.Result.{IfOk-weaker}
use Rattle.smil_graph.specs.Links.{AreRows, row}
use Rattle.smil_graph.specs.Places.{up, element_follows, feeds_place}
use Rattle.smil_graph.proofs.GraphTables.{feeders_are}
use Rattle.smil_graph.proofs.feeders.feeders.Goals as goal

pub returns : goal.returns
returns c =
    IfOk-weaker c.feeder_rows.result
    (λ rows. AreRows (length c.args.tree.now.doc.now.nodes) (λ j i. element_follows (row c.args.tree.now.children.now j) (up c.args.previous.now j) (λ id. get_by (λ k. bytes_eq id k.now) c.args.ids.now) (slice_get c.args.tree.now.doc.now.nodes j) i) rows)
    (λ rows. AreRows (length c.args.tree.now.doc.now.nodes) (feeds_place c.args.tree.now.doc.now.nodes) rows)
    (λ rows are. feeders_are c.args.tree.now.doc.now.nodes c.requires.numbered.distinct (λ id. get_by (λ k. bytes_eq id k.now) c.args.ids.now) c.requires.ids c.args.tree.now.parents.now c.args.tree.now.children.now c.args.previous.now c.requires.parents c.requires.children c.requires.previous rows are)
    c.feeder_rows.ensures
