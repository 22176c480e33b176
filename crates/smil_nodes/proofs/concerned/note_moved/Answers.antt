use Rattle.std.proofs.Common.{◌∙◌, sym, ap, subst, List, false}
use Rattle.std.specs.List.{list_any}
use Rattle.smil_model.specs.declared.document.Node.{Node}
use Rattle.smil_instance_rows.specs.declared.cell.Cell.{Cell}
use Rattle.smil_instances.specs.Dependents.{DocumentDependents, cells_in}
use Rattle.smil_nodes.specs.Noted.{AreNoted, has_moved_item, is_of_moved}
use Rattle.smil_nodes.proofs.CellsListed.{moved_none, moved_noted}
use Rattle.smil_nodes.proofs.RanksListed.{all_noted, more_noted, none_taken}
use Rattle.smil_nodes.proofs.concerned.note_moved.Goals as goal

pub returns-in_default : goal.returns-in_default
returns-in_default c =
    let graph = c.args.graph.now in
    subst (λ (ns : List Node). AreNoted graph.order (has_moved_item ns c.args.who c.args.step) c.args.agenda.now c.args.agenda.now) (sym c.requires)
    (moved_none c.args.past.now.document.nodes graph.order c.args.who c.args.step c.args.agenda.now (sym c.in_default.is ∙ c.index_of.ensures))

pub loop-cell-init : goal.loop-cell-init
loop-cell-init c =
    let graph = c.args.graph.now in
    none_taken graph.order (λ s d. is_of_moved graph.nodes c.args.step d s) c.cells-cell-items.result.now c.args.agenda.now

pub loop-cell-preserved : goal.loop-cell-preserved
loop-cell-preserved c =
    let graph = c.args.graph.now in
    more_noted graph.order (λ s d. is_of_moved graph.nodes c.args.step d s) c.cells-cell-items.result.now c.loop-cell.cell-index _ c.args.agenda.now c.loop-cell.agenda c.note_where_moved.new.agenda
    c.loop-cell-test.true c.loop-cell.invariant c.in_ok-note_where_moved.ensures

pub returns : goal.returns
returns c =
    let graph = c.args.graph.now in
    let nodes = c.args.past.now.document.nodes in
    let cells = c.cells-cell-items.result.now in
    let all = all_noted graph.order (λ s d. is_of_moved graph.nodes c.args.step d s) cells c.loop-cell.cell-index c.args.agenda.now c.loop-cell.agenda c.loop-cell-test.false c.loop-cell.invariant in
    let dependents = c.instances.result.now.dependents in
    subst (λ (ns : List Node). AreNoted graph.order (has_moved_item ns c.args.who c.args.step) c.args.agenda.now c.loop-cell.agenda) (sym c.requires)
    (moved_noted nodes graph.order c.args.who c.args.step dependents c.in-Some.row c.args.agenda.now c.loop-cell.agenda (c.instances.ensures).dependents c.in-Some.ensures
    (subst (λ (ns : List Node). AreNoted graph.order (λ s. list_any (λ (d : Cell). is_of_moved ns c.args.step d s) (cells_in dependents.rows c.in-Some.row false)) c.args.agenda.now c.loop-cell.agenda) c.requires
    (subst (λ (ds : List Cell). AreNoted graph.order (λ s. list_any (λ (d : Cell). is_of_moved graph.nodes c.args.step d s) ds) c.args.agenda.now c.loop-cell.agenda)
    (c.cells-cell-items.ensures ∙ ap (λ (t : DocumentDependents). cells_in t.rows c.in-Some.row false) c.dependents.ensures) all)))
