-- What orders make of a presentation.
use Rattle.std.specs.Prelude.{◌≡◌, ◌⊎◌, ℕ, ℤ, pos, nat_abs, ◌-◌, ◌≤◌, ◌≤ℤ◌, List, [], ◌∷◌, ◌++◌, take, drop, length, filter, int_le, None, Some, Ok, true}
use Rattle.smil_model.specs.declared.diary.Happening.{Happening}
use Rattle.smil_model.specs.declared.diary.LogEntry.{LogEntry}
use Rattle.smil_model.specs.declared.limits.TheConstants.{LOG_ENTRIES}
use Rattle.smil_model.specs.declared.times.TheConstants.{HORIZON}
use Rattle.smil_model.specs.declared.order.Refusal.{Refusal}
use Rattle.smil_model.specs.declared.order.Refusal.TheVariants as refusal
use Rattle.smil_model.specs.declared.view.View.{View}
use Rattle.smil_model.specs.document.Document.{Document}
use Rattle.smil_model.specs.document.Limits.{limits}
use Rattle.smil_model.specs.diary.Logs.{may_happen, moments_rise}
use Rattle.smil_model.specs.happening.Keys.{DueChange}
use Rattle.smil_model.specs.happening.Resolution.{diary_of}
use Rattle.smil_model.specs.shown.Answers.{IsRefusedBy}
use Rattle.smil_model.specs.shown.Orders.{Presentation, course_of, changes_between, changes_through, with_logged as logged_within, as_of}
use Rattle.smil_report.specs.Tellings.{Telling, changes_told}
use Rattle.smil_cells.specs.CellsState.{CellsState, IsSettled, first_at, with_logged}
use Rattle.smil_shown.specs.ShownViews.{IsShown}
use Rattle.smil_live.specs.declared.moves.Move.{Move}
use Rattle.smil_live.specs.declared.moves.Move.TheVariants as move

-- a move that may be made: to a later moment up to the horizon, or by an entry at the present
-- moment of a log with room
abbrev pub MayMove : Presentation → Move → Type 0
MayMove p (move.Pass to) = (pos p.now ≤ℤ to) × (to ≤ℤ HORIZON)
MayMove p (move.Settle to) = (pos p.now ≤ℤ to) × (to ≤ℤ HORIZON)
MayMove p (move.Hear entry) =
    (entry.moment ≡ pos p.now) × (may_happen entry.what ≡ true)
    × (length (p.log ++ entry ∷ []) ≤ LOG_ENTRIES)

-- the presentation behind a move
abbrev pub made : Presentation → Move → Presentation
made p (move.Pass to) = as_of p (nat_abs to)
made p (move.Settle to) = as_of p (nat_abs to)
made p (move.Hear entry) = with_logged p entry

-- what a move changes: each moment that it passes tells its own changes, or its end tells all
abbrev pub changes_by : Presentation → Move → List (ℕ × View)
changes_by p (move.Pass to) = changes_through p (nat_abs to - p.now)
changes_by p (move.Settle to) = changes_between p (made p (move.Settle to))
changes_by p (move.Hear entry) = changes_between p (made p (move.Hear entry))

-- what is told of changes
abbrev pub told_of : {Item : Type 0} → Telling Item → Presentation → List (ℕ × View) → List Item
told_of telling p changes = changes_told telling p.document.nodes changes

-- a state is refused since its diary has too many entries, or since memory ran out
abbrev pub IsTooFull : Presentation → Refusal → Type 0
IsTooFull p given =
    (given ≡ refusal.Memory) ⊎ ((given ≡ refusal.DiaryFull) × (diary_of (course_of p) ≡ None))

-- what comes first in a standing comes at this moment
pub record IsFirstDue (s : CellsState) (due : ℤ) : Type 0 where
  pub coming : DueChange
  pub first : first_at s ≡ Some coming
  pub due_is : coming.key.value ≡ due

-- ---- made anew

-- a document with a log, at a moment
abbrev pub replay_of : Document → List LogEntry → ℤ → Presentation
replay_of document log to = record { document = document; log = log; now = nat_abs to }

-- a presentation that has come to the moment of an entry, and has heard it
abbrev pub heard_at : Presentation → LogEntry → Presentation
heard_at p entry = with_logged (as_of p (nat_abs entry.moment)) entry

-- a presentation as it is after a seek: with the log entries that are not later
abbrev pub sought_of : Presentation → ℤ → Presentation
sought_of p to = record {
  document = p.document;
  log = filter (λ (entry : LogEntry). int_le entry.moment (pos (nat_abs to))) p.log;
  now = nat_abs to;
}

-- cells that are under way to a presentation: they have heard the entries before a place of its
-- log, and none of the others is before their moment
pub record IsUnderWay (p : Presentation) (place : ℕ) (s : CellsState) : Type 0 where
  pub document_is : s.presentation.document ≡ p.document
  pub log_is : s.presentation.log ≡ take place p.log
  pub rise : moments_rise (pos s.presentation.now) (drop place p.log) ≡ true
  pub until : s.presentation.now ≤ p.now
  pub sound : s.fault ≡ None
  pub unmarked : s.marked ≡ None

-- settled cells of a presentation
pub record IsReplayed (p : Presentation) (s : CellsState) : Type 0 where
  pub presentation_is : s.presentation ≡ p
  pub sound : s.fault ≡ None
  pub unmarked : s.marked ≡ None
  pub settled : IsSettled s

-- an edited document with the same log, at the same moment
abbrev pub edited_to : Presentation → Document → Presentation
edited_to p document = record { document = document; log = p.log; now = p.now }

-- ---- what calls give

-- settled cells of a presentation, with the views that they give
pub record IsShownAt (p : Presentation) (s : CellsState) (shown : List View) : Type 0 where
  pub presentation_is : s.presentation ≡ p
  pub shown_is : IsShown s shown

-- an entry at the present moment
abbrev pub entry_of : Presentation → Happening → LogEntry
entry_of p what = record { moment = pos p.now; what = what }

-- what came from outside was heard, and this was told
pub record IsHeardBy {Item : Type 0} (telling : Telling Item)
    (before : Presentation) (what : Happening) (after : Presentation) (told : List Item)
    : Type 0 where
  pub state : logged_within limits before what ≡ Ok after
  pub told_is : told ≡ told_of telling before (changes_between before after)

-- why it was not
abbrev pub IsNotHeard : Presentation → Happening → Refusal → Type 0
IsNotHeard before what given = IsRefusedBy (logged_within limits before what) given
