use Rattle.std.proofs.Common.{◌≡◌, List, take}
use Rattle.smil_model.specs.declared.diary.LogEntry.{LogEntry}
use Rattle.smil_instances.specs.Intake.{AreRowsOf, history_of, with_remainders}
use Rattle.smil_instances.proofs.remainder.trim_each.Given as goal

abbrev pub invariant-loop-cell : goal.invariant-loop-cell
invariant-loop-cell l = record {
  value : (log : List LogEntry) → l.rows ≡ with_remainders (history_of l.arrival.history.tree.now log l.arrival.history.book.now) l.initial.rows (take l.cell-index l.cells);
  rows : AreRowsOf l.arrival.history.tree.now.nodes l.rows;
}
