use Rattle.std.proofs.Common.{◌∙◌, sym, ap, List}
use Rattle.std.proofs.lemmas.Result.{on_ok_weaker}
use Rattle.smil_model.specs.document.Document.{Document, elements, serial_of}
use Rattle.std.specs.Prelude.{slice_get}
use Rattle.smil_model.specs.declared.document.Node.{Node}
use Rattle.smil_nodes.proofs.CellsListed.{cell_element, cell_of_none}
use Rattle.smil_nodes.specs.Noted.{is_of_cell}
use Rattle.smil_nodes.proofs.RanksListed.{none_noted, noted_by}
use Rattle.smil_nodes.proofs.concerned.note_cell.Goals as goal

pub returns-in-Some : goal.returns-in-Some
returns-in-Some c =
    let graph = c.args.graph.now in
    on_ok_weaker c.note.result
    (noted_by graph.order _ (is_of_cell graph.nodes c.args.cell) c.args.agenda.now c.note.new.agenda
    (λ s r at. cell_element graph.nodes c.args.cell c.in-Some.serial s
    (ap (λ (ns : List Node). serial_of (slice_get (elements ns) c.args.cell.row)) c.requires
    ∙ sym (ap (λ (d : Document). serial_of (slice_get (elements d.nodes) c.args.cell.row)) c.tree-tree.ensures)
    ∙ sym c.in-Some.ensures)))
    c.note.ensures

pub returns-in-None : goal.returns-in-None
returns-in-None c =
    let graph = c.args.graph.now in
    none_noted graph.order (is_of_cell graph.nodes c.args.cell) c.args.agenda.now
    (λ s r at. cell_of_none graph.nodes c.args.cell s
    (ap (λ (ns : List Node). serial_of (slice_get (elements ns) c.args.cell.row)) c.requires
    ∙ sym (ap (λ (d : Document). serial_of (slice_get (elements d.nodes) c.args.cell.row)) c.tree-tree.ensures)
    ∙ sym c.in-None.ensures))
