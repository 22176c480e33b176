use Rattle.std.proofs.Common.{◌≡◌, arith}
use Rattle.smil_model.specs.document.Document.{previous_in_seq}
use Rattle.smil_graph.specs.Places.{previous_of, up}
use Rattle.smil_graph.proofs.NodesByPlace.{table_all}
use Rattle.smil_graph.proofs.DefinitionsByPlace.{previous_step}
use Rattle.smil_graph.proofs.GraphTables.{children_rising}
use Rattle.smil_graph.proofs.outline.previous_in_seqs.Goals as goal

pub previous_of-entry-requires : goal.previous_of-entry-requires
previous_of-entry-requires c = children_rising c.args.tree.now.doc.now.nodes c.args.tree.now.parents.now c.args.tree.now.children.now c.requires.children

pub loop-place-preserved : goal.loop-place-preserved
loop-place-preserved c =
    let entry : c.previous_of-entry.result ≡ previous_of c.args.tree.now.doc.now.nodes c.args.tree.now.children.now c.loop-place.place (up c.args.tree.now.parents.now c.loop-place.place) = c.previous_of-entry.ensures in
    rw c.in_ok-push.ensures.items (rw entry (previous_step c.args.tree.now.doc.now.nodes c.requires.numbered.distinct c.args.tree.now.parents.now c.args.tree.now.children.now c.requires.parents c.requires.children c.loop-place.place c.loop-place.table.items c.loop-place.invariant))

pub returns : goal.returns
returns c = table_all c.args.tree.now.doc.now.nodes (λ n. previous_in_seq c.args.tree.now.doc.now.nodes n.serial) c.loop-place.place c.loop-place.table.items (omega (arith, c.requires.parents.count, c.loop-place-test.false, c.loop-place.auto.place-end)) c.loop-place.invariant
