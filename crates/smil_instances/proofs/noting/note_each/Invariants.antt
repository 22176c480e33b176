use Rattle.std.proofs.Common.{◌≡◌, false, List, take}
use Rattle.smil_model.specs.declared.diary.LogEntry.{LogEntry}
use Rattle.smil_instance_rows.specs.Notes.{HasNoted}
use Rattle.smil_instances.specs.Intake.{history_of}
use Rattle.smil_instances.specs.Noted.{AreNoted, KeepAll}
use Rattle.smil_instances.proofs.noting.note_each.Given as goal

abbrev pub invariant-loop-cell : goal.invariant-loop-cell
invariant-loop-cell l = record {
  more : HasNoted l.rows l.initial.notes l.notes;
  each : (log : List LogEntry) → AreNoted (history_of l.arrival.history.tree.now log l.arrival.history.book.now) l.rows l.notes.notes (take l.cell-index l.cells);
  kept : l.loses ≡ false → (log : List LogEntry) → KeepAll (history_of l.arrival.history.tree.now log l.arrival.history.book.now) l.rows (take l.cell-index l.cells);
}
