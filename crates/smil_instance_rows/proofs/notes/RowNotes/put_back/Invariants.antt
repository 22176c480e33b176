use Rattle.std.proofs.Common.{◌≡◌, length}
use Rattle.smil_instance_rows.specs.Notes.{all_put}
use Rattle.smil_instance_rows.proofs.notes.RowNotes.put_back.Given as goal

-- the notes that are left to put back give the same
abbrev pub invariant-loop-note : goal.invariant-loop-note
invariant-loop-note l =
    (all_put l.rows l.self.notes ≡ all_put l.initial.rows l.initial.self.notes) × (l.self.mark ≡ l.initial.self.mark)

abbrev pub decreases-loop-note : goal.decreases-loop-note
decreases-loop-note l = length l.self.notes
