use Rattle.std.proofs.Common.{◌≡◌, ◌∙◌, sym, ap, true, false}
use Rattle.std.specs.Prelude.{◌&&◌}
use Rattle.std.proofs.lemmas.Result.{on_ok_weaker}
use Rattle.smil_instances.specs.Dependents.{DocumentDependents, source_in}
use Rattle.smil_instances.specs.Sources.{source_at}
use Rattle.smil_nodes.specs.Noted.{is_of_cell, is_of_moved, moves_source}
use Rattle.smil_nodes.proofs.RanksListed.{none_noted, noted_by}
use Rattle.smil_nodes.proofs.concerned.note_where_moved.Goals as goal

pub returns-then-is_moved : goal.returns-then-is_moved
returns-then-is_moved c =
    let graph = c.args.graph.now in
    let test : moves_source c.args.step (source_at graph.nodes c.args.cell) ≡ true =
    ap (λ ns. moves_source c.args.step (source_at ns c.args.cell)) c.requires
    ∙ ap (moves_source c.args.step) (sym ((c.instances.ensures).dependents.sources c.args.cell))
    ∙ ap (λ (t : DocumentDependents). moves_source c.args.step (source_in t.rows c.args.cell)) (sym c.dependents.ensures)
    ∙ ap (moves_source c.args.step) (sym c.source-source.ensures)
    ∙ sym c.is_moved.ensures ∙ c.if-is_moved.true in
    on_ok_weaker c.note_cell.result
    (noted_by graph.order (is_of_cell graph.nodes c.args.cell) (is_of_moved graph.nodes c.args.step c.args.cell) c.args.agenda.now c.note_cell.new.agenda
    (λ s r at. sym (ap (λ t. t && is_of_cell graph.nodes c.args.cell s) test)))
    c.note_cell.ensures

pub returns-else-is_moved : goal.returns-else-is_moved
returns-else-is_moved c =
    let graph = c.args.graph.now in
    let test : moves_source c.args.step (source_at graph.nodes c.args.cell) ≡ false =
    ap (λ ns. moves_source c.args.step (source_at ns c.args.cell)) c.requires
    ∙ ap (moves_source c.args.step) (sym ((c.instances.ensures).dependents.sources c.args.cell))
    ∙ ap (λ (t : DocumentDependents). moves_source c.args.step (source_in t.rows c.args.cell)) (sym c.dependents.ensures)
    ∙ ap (moves_source c.args.step) (sym c.source-source.ensures)
    ∙ sym c.is_moved.ensures ∙ c.if-is_moved.false in
    none_noted graph.order (is_of_moved graph.nodes c.args.step c.args.cell) c.args.agenda.now
    (λ s r at. ap (λ t. t && is_of_cell graph.nodes c.args.cell s) test)
