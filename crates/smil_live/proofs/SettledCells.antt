-- Settled cells: nothing comes up to their moment, and their views are those of the presentation.
use Rattle.std.proofs.Common.{List, ◌≡◌, sym, ap, subst, ℕ, ◌+◌, ℤ, arith}
use Rattle.std.specs.Prelude.{pos, nat_abs, ◌≤ℤ◌, ◌+ℤ◌}
use Rattle.smil_model.specs.declared.times.TheConstants.{HORIZON}
use Rattle.smil_model.specs.declared.view.View.{View}
use Rattle.smil_model.specs.shown.Orders.{IsState, Presentation, course_of, views_of, as_of}
use Rattle.smil_cells.specs.CellsState.{IsSettled, NothingBefore, CellsState}
use Rattle.smil_rounds.proofs.MomentEntries.{over}
use Rattle.smil_shown.specs.ShownViews.{IsShown, views_at}
use Rattle.smil_live.specs.Moves.{MayMove, made}
use Rattle.smil_live.specs.declared.moves.Move.{Move}
use Rattle.smil_live.specs.declared.moves.Move.TheVariants as move
use Rattle.smil_shown.proofs.SettledDiaries.{nothing_due}
use Rattle.smil_live.proofs.QuietViews.{HasDiary}
use Rattle.smil_live.proofs.ResolvedHistory.{views_are}
use Rattle.smil_live.proofs.StatesStay.{state_logged, state_moved}

-- nothing comes up to the moment at which cells are settled
pub nothing_before : (s : CellsState) → IsSettled s → NothingBefore s (pos s.presentation.now +ℤ pos 1)
nothing_before s settled c e = nothing_due (course_of s.presentation) s.diary settled c e

-- their views are those that are resolved from scratch
pub views_settled : (s : CellsState) → IsSettled s → views_at s ≡ views_of s.presentation
views_settled s settled = sym (views_are s.presentation s.diary settled)

-- the document and the log are as they may be, and the diary is that of the presentation
pub has_diary : (s : CellsState) (shown : List View) → IsShown s shown → HasDiary s.presentation s.diary
has_diary s shown is = record { numbered = is.state.document.numbered; logged = is.state.logged; settled = is.settled }

-- ---- moves

-- a move from a state leads to a state
pub state_then : (p : Presentation) (to : ℤ) → IsState p → pos p.now ≤ℤ to → to ≤ℤ HORIZON → IsState (as_of p (nat_abs to))
state_then p to state from within = by_number (over p.now to from)
  where
    by_number : (n : ℕ) × (to ≡ pos (p.now + n)) → IsState (as_of p (nat_abs to))
    by_number (n, e) =
        let there : IsState (as_of p (p.now + n)) = state_moved p (p.now + n) state (omega arith) (subst (λ (x : ℤ). x ≤ℤ HORIZON) e within) in
        subst (λ (m : ℕ). IsState (as_of p m)) (sym (ap nat_abs e)) there

pub made_is_state : (p : Presentation) (step : Move) → IsState p → MayMove p step → IsState (made p step)
made_is_state p (move.Pass to) state may = state_then p to state may.0 may.1
made_is_state p (move.Settle to) state may = state_then p to state may.0 may.1
made_is_state p (move.Hear entry) state may = state_logged p entry state may.0 may.1
