use Rattle.std.proofs.Common.{◌∙◌, ap}
use Rattle.smil_instance_rows.specs.Notes.{all_put}
use Rattle.smil_instance_rows.proofs.Noted.{all_next}
use Rattle.smil_instance_rows.proofs.notes.RowNotes.put_back.Goals as goal

pub loop-note-preserved : goal.loop-note-preserved
loop-note-preserved c =
    let left = c.take_last.new.self in
    let last = c.in-Some.ensures.last in (
      ap (λ rows. all_put rows left.notes) c.restore.ensures
          ∙ all_next c.loop-note.rows c.loop-note.self.notes left.notes c.in-Some.note last.0
          ∙ c.loop-note.invariant.0,
      last.1 ∙ c.loop-note.invariant.1,
    )
