use Rattle.std.proofs.Common.{◌≡◌, sym, subst, List, Bool, arith}
use Rattle.std.proofs.lemmas.List.{take_at}
use Rattle.std.specs.Prelude.{false, slice_set}
use Rattle.smil_instance_rows.specs.Notes.{AreMarked}
use Rattle.smil_instance_rows.proofs.Noted.{unmarked}
use Rattle.smil_instance_rows.proofs.notes.RowNotes.take_last.Goals as goal

pub invariant_of-self-2 : goal.invariant_of-self-2
invariant_of-self-2 c =
    let marks = c.put_mark.new.marks in
    subst (λ (ms : List Bool). AreMarked ms c.pop.new.self.items) (sym (take_at marks _ c.self.inside.marks.len (omega (arith, c.put_mark.auto.marks, c.deref_mut.ensures.len))))
    (unmarked c.self.inside.marks.items marks c.in_ok-note.note c.self.inside.notes.items c.pop.new.self.items c.in_ok-note.ensures.items
    (subst (λ (ms : List Bool). marks ≡ slice_set ms c.in_ok-note.note.index false) c.deref_mut.ensures.value c.put_mark.ensures) c.self.invariant)
