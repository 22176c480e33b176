use Rattle.std.proofs.Common.{sym, ap, subst}
use Rattle.std.specs.Prelude.{IfSome}
use Rattle.smil_model.specs.diary.Diary.{History}
use Rattle.smil_laws.specs.Near.{AllNear, IsIntervalNear}
use Rattle.smil_cells.specs.CellsState.{history_of}
use Rattle.smil_shown.proofs.PresentMoments.{current_near}
use Rattle.smil_shown.proofs.intervals.present_end.Goals as goal

pub end_shown-requires-clause-near : goal.end_shown-requires-clause-near
end_shown-requires-clause-near g c =
    let near = subst AllNear (ap (λ (h : History). h.diary) c.past.ensures) c.possible.ensures.near in
    (subst (λ o. IfSome o IsIntervalNear) (sym c.in-Some.ensures) (current_near (history_of c.args.cells.now) _ c.args.who near)).finish
