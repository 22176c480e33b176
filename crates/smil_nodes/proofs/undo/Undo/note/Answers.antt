use Rattle.std.proofs.Common.{◌≡◌, ◌∙◌, ap, sym, List, Bool, true, false, get_or, subst}
use Rattle.std.specs.Prelude.{if◌then◌else◌}
use Rattle.smil_nodes.specs.declared.undo.Note.{Note}
use Rattle.smil_nodes.specs.Undo.{AreMarked, AreNearNotes, has_note}
use Rattle.smil_nodes.proofs.Marks.{marked_next, marked_noted, near_next}
use Rattle.smil_nodes.proofs.undo.Undo.note.Goals as goal

pub returns-then-mark_at-clause-noted : goal.returns-then-mark_at-clause-noted
returns-then-mark_at-clause-noted c =
    ap (λ (notes : List Note). has_note notes c.args.index) (sym c.self.view_is)
    ∙ marked_noted c.self.inside.marks.items c.self.inside.notes.items c.self.invariant.1 c.args.index
    ∙ ap (λ (marks : List Bool). get_or marks c.args.index false) (sym c.deref.ensures.value)
    ∙ sym c.mark_at.ensures
    ∙ c.if-mark_at.true

pub invariant_of-self-2 : goal.invariant_of-self-2
invariant_of-self-2 c =
    let marks = c.make_room.new.marks.items in
    let notes = c.self.inside.notes.items in
    let note : Note = record { index = c.args.index; interval = c.args.row.now.interval; comings = c.args.row.now.comings; ending = c.ending.result } in
    let are : AreMarked marks notes = λ k. c.self.invariant.1 k ∙ ap (λ (t : Bool). if t then 1 else 0) (sym (c.in_ok-make_room.ensures.same k)) in
    let free : get_or marks c.args.index false ≡ false =
    c.in_ok-make_room.ensures.same c.args.index
    ∙ ap (λ (marks : List Bool). get_or marks c.args.index false) (sym c.deref.ensures.value)
    ∙ sym c.mark_at.ensures
    ∙ c.if-mark_at.false in (
      subst AreNearNotes (sym c.in_ok-push.ensures.items) (near_next notes note c.self.invariant.0 c.requires),
      subst (λ (p : List Bool × List Note). AreMarked p.0 p.1) (λ i. (sym c.put_mark.ensures i, sym c.in_ok-push.ensures.items i))
          (marked_next marks notes note are free c.in_ok-make_room.ensures.room),
    )

pub returns-clause-once : goal.returns-clause-once
returns-clause-once c = λ noted.
    let never : true ≡ false =
    sym noted
    ∙ ap (λ (notes : List Note). has_note notes c.args.index) (sym c.self.view_is)
    ∙ marked_noted c.self.inside.marks.items c.self.inside.notes.items c.self.invariant.1 c.args.index
    ∙ ap (λ (marks : List Bool). get_or marks c.args.index false) (sym c.deref.ensures.value)
    ∙ sym c.mark_at.ensures
    ∙ c.if-mark_at.false in
    absurd (cc)
