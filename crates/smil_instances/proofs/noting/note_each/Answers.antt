use Rattle.std.proofs.Common.{subst}
use Rattle.std.proofs.lemmas.Bool.{or_parts}
use Rattle.std.proofs.lemmas.List.{take_all}
use Rattle.smil_instance_rows.proofs.Noted.{has_both, has_itself}
use Rattle.smil_instance_rows.proofs.CellChanges.{no_cell}
use Rattle.smil_instances.specs.Intake.{history_of}
use Rattle.smil_instances.specs.Noted.{AreNoted, IsNoted, KeepAll, KeepsAll}
use Rattle.smil_instances.proofs.Going.{each_more, each_next, still_noted}
use Rattle.smil_instances.proofs.noting.note_each.Goals as goal

pub loop-cell-init : goal.loop-cell-init
loop-cell-init c = record { more = has_itself c.args.rows.now c.args.notes.now; each = λ log. tt; kept = λ few log. tt }

pub loop-cell-preserved : goal.loop-cell-preserved
loop-cell-preserved c =
    let rows = c.args.rows.now in
    let was = c.loop-cell.notes in
    let now = c.note_at.new.notes in record {
      more = has_both rows c.args.notes.now was now c.loop-cell.invariant.more c.note_at.ensures.more;
      each = λ log.
          let h = history_of c.args.arrival.now.history.tree.now log c.args.arrival.now.history.book.now in
          each_next (IsNoted h rows was.notes) (IsNoted h rows now.notes) c.args.cells.now c.loop-cell.cell-index no_cell c.loop-cell-test.true (still_noted h rows was now c.note_at.ensures.more) (c.loop-cell.invariant.each log) (c.in_ok-loses.ensures.noted log);
      kept = λ few log.
          let h = history_of c.args.arrival.now.history.tree.now log c.args.arrival.now.history.book.now in
          let both = or_parts c.loop-cell.loses c.in_ok-loses.field-0 few in
          each_more (KeepsAll h rows) c.args.cells.now c.loop-cell.cell-index no_cell c.loop-cell-test.true (c.loop-cell.invariant.kept both.0 log) (c.in_ok-loses.ensures.kept both.1 log);
    }

pub returns-in_err-loses-clause-more : goal.returns-in_err-loses-clause-more
returns-in_err-loses-clause-more c =
    has_both c.args.rows.now c.args.notes.now c.loop-cell.notes c.note_at.new.notes c.loop-cell.invariant.more c.note_at.ensures.more

pub returns-clause-each : goal.returns-clause-each
returns-clause-each c = λ log.
    let h = history_of c.args.arrival.now.history.tree.now log c.args.arrival.now.history.book.now in
    subst (AreNoted h c.args.rows.now c.loop-cell.notes.notes) (take_all c.loop-cell.cell-index c.args.cells.now c.loop-cell-test.false) (c.loop-cell.invariant.each log)

pub returns-clause-kept : goal.returns-clause-kept
returns-clause-kept c = λ few log.
    let h = history_of c.args.arrival.now.history.tree.now log c.args.arrival.now.history.book.now in
    subst (KeepAll h c.args.rows.now) (take_all c.loop-cell.cell-index c.args.cells.now c.loop-cell-test.false) (c.loop-cell.invariant.kept few log)
