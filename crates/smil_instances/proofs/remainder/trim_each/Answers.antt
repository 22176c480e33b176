use Rattle.std.proofs.Common.{sym, ◌∙◌, ap, get_or}
use Rattle.std.proofs.lemmas.List.Sums.{fold_more}
use Rattle.smil_instance_rows.proofs.CellChanges.{no_cell}
use Rattle.smil_instances.specs.Intake.{history_of, with_remainder}
use Rattle.smil_instances.proofs.remainder.trim_each.Goals as goal

pub loop-cell-preserved : goal.loop-cell-preserved
loop-cell-preserved c = record {
  value = λ log.
      c.trim_at.ensures.value log
      ∙ ap (λ rows. with_remainder (history_of c.args.arrival.now.history.tree.now log c.args.arrival.now.history.book.now) rows (get_or c.args.cells.now c.loop-cell.cell-index no_cell)) (c.loop-cell.invariant.value log)
      ∙ sym (fold_more (with_remainder (history_of c.args.arrival.now.history.tree.now log c.args.arrival.now.history.book.now)) c.args.rows.now c.args.cells.now c.loop-cell.cell-index no_cell c.loop-cell-test.true);
  rows = c.trim_at.ensures.rows;
}
