use Rattle.std.proofs.Common.{sym, List, Bool, subst}
use Rattle.smil_nodes.specs.declared.undo.Note.{Note}
use Rattle.smil_nodes.specs.Undo.{AreMarked, AreNearNotes}
use Rattle.smil_nodes.proofs.Marks.{marked_before, near_before}
use Rattle.smil_nodes.proofs.undo.Undo.take_last.Goals as goal

pub invariant_of-self-2 : goal.invariant_of-self-2
invariant_of-self-2 c =
    let marks = c.self.inside.marks.items in
    let notes = c.pop.new.self.items in (
      (near_before notes c.in_ok-noted.noted (subst AreNearNotes c.in_ok-noted.ensures.items c.self.invariant.0)).0,
      subst (λ (ms : List Bool). AreMarked ms notes) (sym c.put_mark.ensures)
          (marked_before marks notes c.in_ok-noted.noted (subst (λ (ns : List Note). AreMarked marks ns) c.in_ok-noted.ensures.items c.self.invariant.1)),
    )

pub returns-clause-near : goal.returns-clause-near
returns-clause-near c = (near_before c.pop.new.self.items c.in_ok-noted.noted (subst AreNearNotes c.in_ok-noted.ensures.items c.self.invariant.0)).1
