use Rattle.std.proofs.Common.{◌≡◌, sym, subst, List}
use Rattle.smil_instance_rows.specs.Rows.{ElementTimes}
use Rattle.smil_instance_rows.specs.Changes.{with_adds}
use Rattle.smil_instance_rows.specs.Notes.{GoesBackTheSame}
use Rattle.smil_instance_rows.proofs.Noted.{has_itself}
use Rattle.smil_instances.proofs.Going.{added_back}
use Rattle.smil_instances.proofs.intake.add_marked.Goals as goal

pub returns-in_err-note_adds-clause-back : goal.returns-in_err-note_adds-clause-back
returns-in_err-note_adds-clause-back c = c.note_adds.ensures.more.same

pub returns-in_err-add_each-clause-back : goal.returns-in_err-add_each-clause-back
returns-in_err-add_each-clause-back c =
    subst (λ (rs : List ElementTimes). GoesBackTheSame c.args.rows.now c.args.notes.now rs c.note_adds.new.notes) (sym c.in_err-add_each.ensures.err) c.note_adds.ensures.more.same

pub returns-clause-back : goal.returns-clause-back
returns-clause-back c =
    let rows = c.args.rows.now in
    let adds = c.args.adds.now in
    let made : c.add_each.new.rows ≡ with_adds rows adds = c.in_ok-add_each.ensures.ok in
    subst (λ (rs : List ElementTimes). GoesBackTheSame rows c.args.notes.now rs c.note_adds.new.notes) (sym made)
    (added_back rows adds c.args.notes.now c.note_adds.new.notes c.note_adds.new.notes c.note_adds.ensures.more c.in_ok-note_adds.ensures.each
    (has_itself (with_adds rows adds) c.note_adds.new.notes))
