use Rattle.std.proofs.Common.{sym, ◌∙◌, ap}
use Rattle.smil_instance_rows.specs.Changes.{cell_of}
use Rattle.smil_instances.specs.declared.remainder.Remainder.{Remainder}
use Rattle.smil_instances.specs.Noted.{kept_by}
use Rattle.smil_instances.proofs.ConcernedCells.{base_there, cell_known, item_there, trimmed_here}
use Rattle.smil_instances.specs.Intake.{history_of}
use Rattle.smil_instances.proofs.IdleCells.{idle_keeps_all}
use Rattle.smil_instances.proofs.noting.loses.Goals as goal

pub is_idle-requires : goal.is_idle-requires
is_idle-requires c = item_there c.args.arrival.now.history.tree.now.nodes c.args.rows.now c.args.cell c.requires.rows c.requires.cell

pub returns-then-is_idle : goal.returns-then-is_idle
returns-then-is_idle c = λ idle log.
    idle_keeps_all (history_of c.args.arrival.now.history.tree.now log c.args.arrival.now.history.book.now) c.args.rows.now c.args.cell
    (c.is_idle.ensures c.if-is_idle.true)

pub remainder_of-requires-clause-cell : goal.remainder_of-requires-clause-cell
remainder_of-requires-clause-cell c =
    cell_known c.args.arrival.now.history.tree.now.nodes c.valid.ensures.numbered.distinct c.args.arrival.now.dependents.now c.args.cell c.unwrap-who.result c.source-source.result
    c.requires.dependents (sym c.element_at.ensures ∙ c.unwrap-who.ensures) c.source-source.ensures

pub remainder_of-requires-clause-base : goal.remainder_of-requires-clause-base
remainder_of-requires-clause-base c =
    base_there c.args.arrival.now.history.tree.now.nodes c.valid.ensures.numbered.distinct c.bases_are_elements.ensures c.args.cell c.unwrap-who.result c.source-source.result
    (cell_known c.args.arrival.now.history.tree.now.nodes c.valid.ensures.numbered.distinct c.args.arrival.now.dependents.now c.args.cell c.unwrap-who.result c.source-source.result
    c.requires.dependents (sym c.element_at.ensures ∙ c.unwrap-who.ensures) c.source-source.ensures)

pub has_more-requires : goal.has_more-requires
has_more-requires c = item_there c.args.arrival.now.history.tree.now.nodes c.args.rows.now c.args.cell c.requires.rows c.requires.cell

pub has_before-requires : goal.has_before-requires
has_before-requires c = item_there c.args.arrival.now.history.tree.now.nodes c.args.rows.now c.args.cell c.requires.rows c.requires.cell

pub returns-in-Last : goal.returns-in-Last
returns-in-Last c = λ few log.
    let nodes = c.args.arrival.now.history.tree.now.nodes in
    let book = c.args.arrival.now.history.book.now in
    let kept = cell_of c.args.rows.now c.args.cell in
    let is = cell_known nodes c.valid.ensures.numbered.distinct c.args.arrival.now.dependents.now c.args.cell c.unwrap-who.result c.source-source.result
    c.requires.dependents (sym c.element_at.ensures ∙ c.unwrap-who.ensures) c.source-source.ensures in
    sym (trimmed_here nodes c.valid.ensures.numbered.distinct log book c.args.cell c.unwrap-who.result c.source-source.result is kept)
    ∙ sym (c.remainder_of.ensures log kept)
    ∙ ap (λ (r : Remainder). kept_by r kept) c.in-Last.is
    ∙ c.has_more.ensures few

pub returns-in-From : goal.returns-in-From
returns-in-From c = λ late log.
    let nodes = c.args.arrival.now.history.tree.now.nodes in
    let book = c.args.arrival.now.history.book.now in
    let kept = cell_of c.args.rows.now c.args.cell in
    let is = cell_known nodes c.valid.ensures.numbered.distinct c.args.arrival.now.dependents.now c.args.cell c.unwrap-who.result c.source-source.result
    c.requires.dependents (sym c.element_at.ensures ∙ c.unwrap-who.ensures) c.source-source.ensures in
    sym (trimmed_here nodes c.valid.ensures.numbered.distinct log book c.args.cell c.unwrap-who.result c.source-source.result is kept)
    ∙ sym (c.remainder_of.ensures log kept)
    ∙ ap (λ (r : Remainder). kept_by r kept) c.in-From.is
    ∙ c.has_before.ensures late

pub returns-in-All : goal.returns-in-All
returns-in-All c = λ all log.
    let nodes = c.args.arrival.now.history.tree.now.nodes in
    let book = c.args.arrival.now.history.book.now in
    let kept = cell_of c.args.rows.now c.args.cell in
    let is = cell_known nodes c.valid.ensures.numbered.distinct c.args.arrival.now.dependents.now c.args.cell c.unwrap-who.result c.source-source.result
    c.requires.dependents (sym c.element_at.ensures ∙ c.unwrap-who.ensures) c.source-source.ensures in
    sym (trimmed_here nodes c.valid.ensures.numbered.distinct log book c.args.cell c.unwrap-who.result c.source-source.result is kept)
    ∙ sym (c.remainder_of.ensures log kept)
    ∙ ap (λ (r : Remainder). kept_by r kept) c.in-All.is
