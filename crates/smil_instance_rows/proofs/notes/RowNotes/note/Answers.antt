use Rattle.std.proofs.Common.{◌≡◌, sym, subst, List, Bool, arith}
use Rattle.std.proofs.lemmas.List.{take_at}
use Rattle.std.specs.Prelude.{true, slice_set}
use Rattle.smil_instance_rows.specs.Notes.{AreMarked, HasNoted, MarkedRows}
use Rattle.smil_instance_rows.proofs.Noted.{has_pushed, marked}
use Rattle.smil_instance_rows.proofs.notes.RowNotes.note.Goals as goal

pub returns-clause-more : goal.returns-clause-more
returns-clause-more c =
    let was : MarkedRows = record { notes = c.self.inside.notes.items; mark = c.self.inside.mark } in
    subst (λ (v : MarkedRows). HasNoted c.args.rows.now v (record { notes = c.push.new.self.items; mark = c.self.inside.mark })) c.self.view_is
    (has_pushed c.args.rows.now was c.push.new.self.items (record { index = c.args.index; row = c.in_ok-row.row }) c.in_ok-row.ensures c.in_ok-push.ensures.items)

pub invariant_of-self-2 : goal.invariant_of-self-2
invariant_of-self-2 c =
    let marks = c.put_mark.new.marks in
    subst (λ (ms : List Bool). AreMarked ms c.push.new.self.items) (sym (take_at marks _ c.self.inside.marks.len (omega (arith, c.put_mark.auto.marks, c.deref_mut.ensures.len))))
    (marked c.self.inside.marks.items marks (record { index = c.args.index; row = c.in_ok-row.row }) c.self.inside.notes.items c.push.new.self.items c.in_ok-push.ensures.items
    (subst (λ (ms : List Bool). marks ≡ slice_set ms c.args.index true) c.deref_mut.ensures.value c.put_mark.ensures) c.self.invariant)
