use Rattle.std.proofs.Common.{◌≡◌, sym, ◌∙◌, ap, subst, List}
use Rattle.std.specs.Prelude.{map}
use Rattle.std.proofs.Math.Seq.{take-length}
use Rattle.smil_instance_rows.specs.Rows.{ElementTimes}
use Rattle.smil_instance_rows.specs.Changes.{with_adds}
use Rattle.smil_instance_rows.specs.Notes.{GoesBackTheSame, HasNoted}
use Rattle.smil_instances.specs.Intake.{shape_of}
use Rattle.smil_instances.proofs.Going.{added_back, undone_back}
use Rattle.smil_instances.proofs.CellUpdates.{adds_shape}
use Rattle.smil_instances.proofs.intake.add_noted.Goals as goal

pub note_losses-requires-clause-rows : goal.note_losses-requires-clause-rows
note_losses-requires-clause-rows c =
    ap (map shape_of) c.in_ok-add_each.ensures.ok
    ∙ adds_shape c.args.rows.now c.args.adds.now
    ∙ c.requires.rows

pub returns-in_err-note_adds-clause-back : goal.returns-in_err-note_adds-clause-back
returns-in_err-note_adds-clause-back c = c.note_adds.ensures.more.same

pub returns-in_err-add_each-clause-back : goal.returns-in_err-add_each-clause-back
returns-in_err-add_each-clause-back c =
    subst (λ (rs : List ElementTimes). GoesBackTheSame c.args.rows.now c.args.notes.now rs c.note_adds.new.notes) (sym c.in_err-add_each.ensures.err) c.note_adds.ensures.more.same

pub returns-in-Ok-clause-back : goal.returns-in-Ok-clause-back
returns-in-Ok-clause-back c =
    let rows = c.args.rows.now in
    let adds = c.args.adds.now in
    let made : c.add_each.new.rows ≡ with_adds rows adds = c.in_ok-add_each.ensures.ok in
    subst (λ (rs : List ElementTimes). GoesBackTheSame rows c.args.notes.now rs c.note_losses.new.notes) (sym made)
    (added_back rows adds c.args.notes.now c.note_adds.new.notes c.note_losses.new.notes c.note_adds.ensures.more c.in_ok-note_adds.ensures.each
    (subst (λ (rs : List ElementTimes). HasNoted rs c.note_adds.new.notes c.note_losses.new.notes) made c.note_losses.ensures.more))

pub returns-in-Err-clause-back : goal.returns-in-Err-clause-back
returns-in-Err-clause-back c =
    let rows = c.args.rows.now in
    let adds = c.args.adds.now in
    let made : c.add_each.new.rows ≡ with_adds rows adds = c.in_ok-add_each.ensures.ok in
    let undone : c.undo_each.new.rows ≡ rows = c.undo_each.ensures rows (record { fit = c.requires.fits; are = made ∙ sym (ap (with_adds rows) (take-length adds)) }) in
    subst (λ (rs : List ElementTimes). GoesBackTheSame rows c.args.notes.now rs c.note_losses.new.notes) (sym undone)
    (undone_back rows adds c.args.notes.now c.note_adds.new.notes c.note_losses.new.notes c.note_adds.ensures.more c.in_ok-note_adds.ensures.each
    (subst (λ (rs : List ElementTimes). HasNoted rs c.note_adds.new.notes c.note_losses.new.notes) made c.note_losses.ensures.more))

pub returns-in-Ok-clause-noted : goal.returns-in-Ok-clause-noted
returns-in-Ok-clause-noted c = λ log place is. c.in-Ok.ensures.noted log place (c.note_adds.ensures.more.same.mark ∙ is)
