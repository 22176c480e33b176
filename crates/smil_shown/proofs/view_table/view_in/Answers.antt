use Rattle.std.proofs.Common.{sym, ◌∙◌, subst, w64, rules}
use mir.Val.{SFits}
use Rattle.std.specs.Prelude.{IfSome, pos}
use Rattle.std.proofs.lemmas.Int.{to_z-of_z}
use Rattle.smil_model.specs.diary.Diary.{History}
use Rattle.smil_laws.specs.Near.{AllNear, IsIntervalNear}
use Rattle.smil_past.specs.Past.{IsPresent}
use Rattle.smil_cells.specs.CellsState.{history_of}
use Rattle.smil_shown.proofs.PresentMoments.{current_near, present_is}
use Rattle.smil_shown.proofs.view_table.view_in.Goals as goal

pub view_of-requires-clause-moment : goal.view_of-requires-clause-moment
view_of-requires-clause-moment g c =
    let s = c.args.cells.now in
    let fits : SFits w64 c.moment.result = search rules in
    subst (λ z. IsPresent c.past-past.result.now z) (sym (to_z-of_z w64 c.moment.result fits ∙ c.moment.ensures))
    (present_is s c.past-past.result.now c.requires.state c.requires.settled c.past-past.ensures)

pub view_of-requires-clause-near : goal.view_of-requires-clause-near
view_of-requires-clause-near g c =
    let s = c.args.cells.now in
    subst (λ o. IfSome o IsIntervalNear) (sym c.interval.ensures)
    (current_near (history_of s) (pos s.presentation.now) c.args.serial
    (subst (λ (h : History). AllNear h.diary) c.past-past.ensures c.possible.ensures.near))
