use Rattle.std.proofs.Common.{refl, sym, subst, List, Option, IsSome}
use Rattle.smil_model.specs.declared.diary.Entry.{Entry}
use Rattle.smil_model.specs.happening.Resolution.{diary_of}
use Rattle.smil_model.specs.shown.Orders.{IsState, Presentation, course_of}
use Rattle.smil_live.proofs.TextsApart.{cells_playing}
use Rattle.smil_live.proofs.presentation.PresentationOver.settled.Goals as goal

pub returns-clause-state : goal.returns-clause-state
returns-clause-state g c = subst IsState c.self.view_is (cells_playing c.self.inside.viewer.cells c.self.inside.viewer.seen c.self.inside.edited c.self.invariant).shown_is.state

pub returns-clause-diary : goal.returns-clause-diary
returns-clause-diary g c =
    let P : Option (List Entry) → Type 0 = λ o. IsSome o in
    subst (λ (p : Presentation). P (diary_of (course_of p))) c.self.view_is
    (subst P (sym (cells_playing c.self.inside.viewer.cells c.self.inside.viewer.seen c.self.inside.edited c.self.invariant).shown_is.settled) refl)
