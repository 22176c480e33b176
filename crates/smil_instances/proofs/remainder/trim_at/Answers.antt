use Rattle.std.proofs.Common.{sym, ◌∙◌, ap, []}
use Rattle.std.specs.Prelude.{map}
use Rattle.smil_instance_rows.specs.Changes.{cell_of, with_cell}
use Rattle.smil_instances.specs.Updates.{remaining}
use Rattle.smil_instances.specs.Intake.{history_of, IsCellOf, shape_of}
use Rattle.smil_instances.proofs.RowShapes.{cell_shape}
use Rattle.smil_instances.proofs.ConcernedCells.{base_there, cell_known, item_there, trimmed_here}
use Rattle.smil_instances.proofs.IdleCells.{idle_stays}
use Rattle.smil_instances.proofs.remainder.trim_at.Goals as goal

pub is_idle-requires : goal.is_idle-requires
is_idle-requires c = item_there c.args.arrival.now.history.tree.now.nodes c.args.rows.now c.args.cell c.requires.rows c.requires.cell

pub returns-then-is_idle-clause-value : goal.returns-then-is_idle-clause-value
returns-then-is_idle-clause-value c = λ log.
    idle_stays (history_of c.args.arrival.now.history.tree.now log c.args.arrival.now.history.book.now) c.args.rows.now c.args.cell
    (c.is_idle.ensures c.if-is_idle.true)

pub trim-requires-clause-has : goal.trim-requires-clause-has
trim-requires-clause-has c = item_there c.args.arrival.now.history.tree.now.nodes c.args.rows.now c.args.cell c.requires.rows c.requires.cell

pub trim-requires-clause-cell : goal.trim-requires-clause-cell
trim-requires-clause-cell c =
    cell_known c.args.arrival.now.history.tree.now.nodes c.valid.ensures.numbered.distinct c.args.arrival.now.dependents.now c.args.cell c.unwrap-who.result c.source-source.result
    c.requires.dependents (sym c.element_at.ensures ∙ c.unwrap-who.ensures) c.source-source.ensures

pub trim-requires-clause-base : goal.trim-requires-clause-base
trim-requires-clause-base c =
    base_there c.args.arrival.now.history.tree.now.nodes c.valid.ensures.numbered.distinct c.bases_are_elements.ensures c.args.cell c.unwrap-who.result c.source-source.result
    (cell_known c.args.arrival.now.history.tree.now.nodes c.valid.ensures.numbered.distinct c.args.arrival.now.dependents.now c.args.cell c.unwrap-who.result c.source-source.result
    c.requires.dependents (sym c.element_at.ensures ∙ c.unwrap-who.ensures) c.source-source.ensures)

pub returns-clause-value : goal.returns-clause-value
returns-clause-value c = λ log.
    let is : IsCellOf c.args.arrival.now.history.tree.now.nodes c.args.cell c.unwrap-who.result c.source-source.result =
    cell_known c.args.arrival.now.history.tree.now.nodes c.valid.ensures.numbered.distinct c.args.arrival.now.dependents.now c.args.cell c.unwrap-who.result c.source-source.result
    c.requires.dependents (sym c.element_at.ensures ∙ c.unwrap-who.ensures) c.source-source.ensures in
    c.trim.ensures log
    ∙ ap (with_cell c.args.rows.now c.args.cell)
    (trimmed_here c.args.arrival.now.history.tree.now.nodes c.valid.ensures.numbered.distinct log c.args.arrival.now.history.book.now c.args.cell c.unwrap-who.result c.source-source.result is (cell_of c.args.rows.now c.args.cell))

pub returns-clause-rows : goal.returns-clause-rows
returns-clause-rows c =
    ap (map shape_of) (c.trim.ensures [])
    ∙ cell_shape c.args.rows.now c.args.cell (remaining (history_of c.args.arrival.now.history.tree.now [] c.args.arrival.now.history.book.now) c.unwrap-who.result c.source-source.result (cell_of c.args.rows.now c.args.cell))
    ∙ c.requires.rows
