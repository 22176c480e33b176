use Rattle.std.proofs.Common.{◌≡◌, length, None}
use Rattle.smil_instance_rows.proofs.notes.RowNotes.forget.Given as goal

abbrev pub invariant-loop : goal.invariant-loop
invariant-loop l = l.self.mark ≡ None

-- the notes that are left
abbrev pub decreases-loop : goal.decreases-loop
decreases-loop l = length l.self.notes
