use Rattle.std.proofs.Common.{sym, ap, ◌∙◌, ◌<◌, length, arith}
use Rattle.std.proofs.lemmas.Option.{slice_get_within}
use Rattle.smil_model.specs.document.Document.{elements}
use Rattle.std.proofs.lemmas.Result.{on_ok_weaker}
use Rattle.std.specs.Prelude.{slice_get}
use Rattle.smil_instances.specs.Dependents.{ElementDependents, source_or, sources_of}
use Rattle.smil_instances.proofs.CellSpreading.{cell_noted, serial_there, source_here}
use Rattle.smil_instances.proofs.fill.Index.fill_cell.Goals as goal

pub returns : goal.returns
returns c =
    let nodes = c.args.self.now.tree.now.nodes in
    let x = c.requires.above.0 in
    let at = c.requires.above.1 in
    let inside = slice_get_within (elements nodes) c.args.cell.row x at in
    let below : c.args.cell.row < length c.args.rows.now = omega (arith, inside, c.requires.rows) in
    on_ok_weaker c.note-3.result
    (λ three.
    cell_noted nodes x.serial c.args.cell (serial_there (elements nodes) c.args.cell.row x at) c.source-source.result
    (c.source-source.ensures ∙ ap (λ (r : ElementDependents). source_or (slice_get (sources_of r c.args.cell.side) c.args.cell.item)) (sym c.index-rows-cell.is)
    ∙ source_here nodes c.args.rows.now c.args.cell c.index-rows-cell.result c.requires.sources c.index-rows-cell.is below)
    c.base_of-base.result c.resets_of-first.result.0 c.resets_of-first.result.1 c.other_than.result c.other_than-2.result c.base_of-base.ensures (λ y. c.resets_of-first.ensures y x.serial c.requires.above.2) c.other_than.ensures c.other_than-2.ensures
    c.args.rows.now c.note.new.rows c.note-2.new.rows c.note-3.new.rows c.in_ok-note.ensures c.in_ok-note-2.ensures three)
    c.note-3.ensures
