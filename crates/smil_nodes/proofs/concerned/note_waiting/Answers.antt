use Rattle.std.proofs.Common.{◌∙◌, sym, ap, subst, List}
use Rattle.std.specs.List.{list_any}
use Rattle.smil_model.specs.declared.document.Node.{Node}
use Rattle.smil_model.specs.document.Closure.{has}
use Rattle.smil_model.specs.reach.Reach.{waiters}
use Rattle.smil_instance_rows.specs.declared.cell.Cell.{Cell}
use Rattle.smil_instances.specs.Dependents.{DocumentDependents, keyed_in}
use Rattle.smil_nodes.specs.Noted.{AreNoted, is_of_cell}
use Rattle.smil_nodes.proofs.CellsListed.{waiting_noted}
use Rattle.smil_nodes.proofs.RanksListed.{all_noted, more_noted, none_taken}
use Rattle.smil_nodes.proofs.concerned.note_waiting.Goals as goal

pub loop-cell-init : goal.loop-cell-init
loop-cell-init c =
    let graph = c.args.graph.now in
    none_taken graph.order (λ s d. is_of_cell graph.nodes d s) c.key_cells-cell-items.result.now c.args.agenda.now

pub loop-cell-preserved : goal.loop-cell-preserved
loop-cell-preserved c =
    let graph = c.args.graph.now in
    more_noted graph.order (λ s d. is_of_cell graph.nodes d s) c.key_cells-cell-items.result.now c.loop-cell.cell-index _ c.args.agenda.now c.loop-cell.agenda c.note_cell.new.agenda
    c.loop-cell-test.true c.loop-cell.invariant c.in_ok-note_cell.ensures

pub returns : goal.returns
returns c =
    let graph = c.args.graph.now in
    let nodes = c.args.past.now.document.nodes in
    let cells = c.key_cells-cell-items.result.now in
    let all = all_noted graph.order (λ s d. is_of_cell graph.nodes d s) cells c.loop-cell.cell-index c.args.agenda.now c.loop-cell.agenda c.loop-cell-test.false c.loop-cell.invariant in
    let dependents = c.instances.result.now.dependents in
    subst (λ (ns : List Node). AreNoted graph.order (has (waiters ns c.args.key)) c.args.agenda.now c.loop-cell.agenda) (sym c.requires)
    (waiting_noted nodes dependents graph.order c.args.key c.args.agenda.now c.loop-cell.agenda (c.instances.ensures).dependents
    (subst (λ (ns : List Node). AreNoted graph.order (λ s. list_any (λ (d : Cell). is_of_cell ns d s) (keyed_in dependents.keys c.args.key)) c.args.agenda.now c.loop-cell.agenda) c.requires
    (subst (λ (ds : List Cell). AreNoted graph.order (λ s. list_any (λ (d : Cell). is_of_cell graph.nodes d s) ds) c.args.agenda.now c.loop-cell.agenda)
    (c.key_cells-cell-items.ensures ∙ ap (λ (t : DocumentDependents). keyed_in t.keys c.args.key) c.dependents.ensures) all)))
