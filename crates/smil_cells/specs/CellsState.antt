-- What cells stand for, and what their calls come to.
use Rattle.std.specs.Prelude.{◌≡◌, ℕ, ◌+◌, ◌<◌, ◌≤◌, ℤ, pos, ◌≤ℤ◌, int_le, List, [], ◌∷◌, ◌++◌, length, take, drop, filter, Bool, true, false, not, ◌&&◌, Option, Some, None, is_some}
use Rattle.smil_model.specs.declared.diary.Entry.{Entry}
use Rattle.smil_model.specs.declared.diary.LogEntry.{LogEntry}
use Rattle.smil_model.specs.declared.limits.TheConstants.{DIARY_ENTRIES}
use Rattle.smil_model.specs.declared.interval.Interval.{Interval}
use Rattle.smil_model.specs.declared.document.Node.{Node}
use Rattle.smil_model.specs.Times.{time_eq}
use Rattle.smil_model.specs.document.Document.{Document, elements, node_at}
use Rattle.smil_model.specs.document.Valid.{IsValid}
use Rattle.smil_model.specs.document.Closure.{has}
use Rattle.smil_model.specs.document.Document.{serials}
use Rattle.smil_model.specs.diary.Diary.{History, last_moment}
use Rattle.smil_model.specs.interval.Current.{current_interval}
use Rattle.smil_model.specs.happening.Keys.{DueChange, coming, first_coming}
use Rattle.smil_model.specs.happening.Resolution.{Course, Progress, Reaches, next_step, diary_of}
use Rattle.smil_model.specs.reach.Bounds.{reaches}
use Rattle.smil_model.specs.shown.Orders.{Presentation, as_of, course_of}
use Rattle.smil_laws.specs.Agreement.{course_on}
use Rattle.smil_laws.specs.Cut.{logged}
use Rattle.smil_diary.specs.declared.fault.BookFault.{BookFault}
use Rattle.smil_laws.specs.Same.{view_at}
use Rattle.smil_laws.specs.Same.{IsSame}
use Rattle.smil_past.specs.Past.{logged_entry}

-- a presentation under way: its document, log and moment, the diary so far,
-- the refusal that is answered from now on, what a mark goes back to,
-- and the elements whose views the last call may have changed
pub record CellsState : Type 0 where
  pub presentation : Presentation
  pub diary : List Entry
  pub fault : Option BookFault
  pub marked : Option (Presentation × List Entry)
  pub touched : List ℕ

abbrev pub history_of : CellsState → History
history_of s =
    record { nodes = s.presentation.document.nodes; log = s.presentation.log; diary = s.diary }

abbrev pub interval_at : CellsState → ℕ → Option Interval
interval_at s serial = current_interval (history_of s) (pos s.presentation.now) serial

-- the diary is settled: it is that of the document and the log,
-- resolved from scratch up to the moment
abbrev pub IsSettled : CellsState → Type 0
IsSettled s = diary_of (course_of s.presentation) ≡ Some s.diary

abbrev pub with_logged : Presentation → LogEntry → Presentation
with_logged p entry = record { document = p.document; log = p.log ++ entry ∷ []; now = p.now }

-- ---- how far a resolution has come

abbrev pub progress_of : CellsState → Progress
progress_of s =
    record { moment = s.presentation.now; heard = length s.presentation.log; diary = s.diary }

abbrev pub IsReached : CellsState → Type 0
IsReached s = Reaches (course_of s.presentation) (progress_of s)

-- what is left of a log and a diary that is cut, and its moment: that of its last entry, or 0
abbrev pub cut_log : List LogEntry → List Entry → List LogEntry
cut_log log diary = take (logged diary) log

-- the first entries of the diary end between two groups,
-- and are what the resolution of a document comes to with the part of the log that they name
pub record MayRebuild (s : CellsState) (document : Document) (len : ℕ) : Type 0 where
  pub valid : IsValid document
  pub within : len ≤ length s.diary
  pub unmarked : s.marked ≡ None
  pub at : Progress
  pub diary_is : at.diary ≡ take len s.diary
  pub moment_is : pos at.moment ≡ last_moment at.diary
  pub reached :
      Reaches (course_on document.nodes (cut_log s.presentation.log at.diary) at.moment) at

-- the presentation rebuilt from the first entries
pub record IsRebuilt
    (old : CellsState) (document : Document) (len : ℕ) (new : CellsState) : Type 0 where
  pub document_is : new.presentation.document ≡ document
  pub diary_is : new.diary ≡ take len old.diary
  pub log_is : new.presentation.log ≡ cut_log old.presentation.log new.diary
  pub moment_is : pos new.presentation.now ≡ last_moment new.diary
  pub sound : new.fault ≡ None
  pub unmarked : new.marked ≡ None

-- ---- intervals that differ

abbrev pub is_same_interval : Option Interval → Option Interval → Bool
is_same_interval None None = true
is_same_interval (Some i) (Some j) =
    int_le i.begin j.begin && int_le j.begin i.begin && time_eq i.«end» j.«end»
is_same_interval _ _ = false

-- how many elements have an interval by the second that they had not by the first
abbrev pub fresh : List Node → (ℕ → Option Interval) → (ℕ → Option Interval) → ℕ
fresh nodes before after =
    length (filter (λ (e : Node). is_some (after e.serial)
    && not (is_same_interval (before e.serial) (after e.serial))) (elements nodes))

-- ---- what a call leaves as it was

-- the view of each element that is not touched stays
abbrev pub ViewsStay : CellsState → CellsState → Type 0
ViewsStay old new =
    (e : Node) → node_at (elements old.presentation.document.nodes) e.serial ≡ Some e
    → has new.touched e.serial ≡ false
    → view_at (history_of new) (pos new.presentation.now) e
    ≡ view_at (history_of old) (pos old.presentation.now) e

-- each element that is touched stays so
abbrev pub StayTouched : CellsState → CellsState → Type 0
StayTouched old new =
    (e : Node) → node_at (elements old.presentation.document.nodes) e.serial ≡ Some e
    → has old.touched e.serial ≡ true
    → has new.touched e.serial ≡ true

-- it goes on from the diary that was there, and the views of elements that are not touched are the
-- same
pub record GoesOn (old new : CellsState) : Type 0 where
  pub diary : (more : List Entry) × (new.diary ≡ old.diary ++ more)
  pub sound : new.fault ≡ None
  pub marked : new.marked ≡ old.marked
  pub touched :
      new.touched ≡ filter (has new.touched) (serials (elements old.presentation.document.nodes))
  pub views : ViewsStay old new

-- a refusal is answered from now on; the document and what the mark goes back to stay
pub record IsRefusing (old new : CellsState) (fault : BookFault) : Type 0 where
  pub fault_is : new.fault ≡ Some fault
  pub document : new.presentation.document ≡ old.presentation.document
  pub marked : new.marked ≡ old.marked

-- the diary is as much as may be of one that has too many entries
pub record IsFront (c : Course) (diary : List Entry) : Type 0 where
  pub at : Progress
  pub reached : Reaches c at
  pub front : diary ≡ take DIARY_ENTRIES at.diary
  pub many : DIARY_ENTRIES < length at.diary

-- ---- how often intervals were evaluated, where that is told

abbrev pub WhereTold : Bool → Type 0 → Type 0
WhereTold true fact = fact
WhereTold false fact = Unit {0}

-- the sum of the reaches of the entries that were appended
abbrev pub reached_since : CellsState → CellsState → ℕ
reached_since old new =
    reaches old.presentation.document.nodes new.presentation.log (drop (length old.diary) new.diary)

abbrev pub fresh_since : CellsState → CellsState → ℕ
fresh_since old new = fresh old.presentation.document.nodes (interval_at old) (interval_at new)

-- how many elements have an interval
abbrev pub any_interval : List Node → (ℕ → Option Interval) → ℕ
any_interval nodes intervals =
    length (filter (λ (e : Node). is_some (intervals e.serial)) (elements nodes))

-- ---- on the way

-- what comes first
abbrev pub first_at : CellsState → Option DueChange
first_at s = first_coming (coming (history_of s) (pos s.presentation.now))

abbrev pub NothingBefore : CellsState → ℤ → Type 0
NothingBefore s moment = (c : DueChange) → first_at s ≡ Some c → moment ≤ℤ c.key.value

-- settling has come from one standing to another, up to a moment at the most
pub record IsOnWay (old s : CellsState) (until : ℤ) : Type 0 where
  pub presentation_is : s.presentation ≡ as_of old.presentation s.presentation.now
  pub from : old.presentation.now ≤ s.presentation.now
  pub within : pos s.presentation.now ≤ℤ until
  pub diary : (more : List Entry) × (s.diary ≡ old.diary ++ more)
  pub sound : s.fault ≡ None
  pub marked : s.marked ≡ old.marked
  pub more : StayTouched old s
  pub views : ViewsStay old s

-- time has passed and nothing else
pub record IsPassed (old new : CellsState) : Type 0 where
  pub presentation_is : new.presentation ≡ as_of old.presentation new.presentation.now
  pub from : old.presentation.now ≤ new.presentation.now
  pub diary_is : new.diary ≡ old.diary
  pub sound : new.fault ≡ None
  pub marked : new.marked ≡ old.marked
  pub touched_is : new.touched ≡ old.touched
  pub same :
      IsSame (history_of old) (pos old.presentation.now) (history_of new) (pos new.presentation.now)

-- one step of the resolution, by which a group was appended
pub record IsNext (old new : CellsState) : Type 0 where
  pub presentation_is : new.presentation ≡ old.presentation
  pub step : next_step (course_of old.presentation) (progress_of old) ≡ Some (progress_of new)
  pub diary : (more : List Entry) × (new.diary ≡ old.diary ++ more)
  pub grows : length old.diary < length new.diary
  pub few : length new.diary ≤ DIARY_ENTRIES
  pub sound : new.fault ≡ None
  pub marked : new.marked ≡ old.marked
  pub more : StayTouched old new
  pub views : ViewsStay old new

-- a log entry was heard, and nothing settled yet
pub record IsHeard (old : CellsState) (entry : LogEntry) (new : CellsState) : Type 0 where
  pub presentation_is : new.presentation ≡ with_logged old.presentation entry
  pub diary_is :
      new.diary ≡ old.diary ++ logged_entry (length old.presentation.log) entry.moment ∷ []
  pub step : next_step (course_of new.presentation) (progress_of old) ≡ Some (progress_of new)
  pub sound : new.fault ≡ None
  pub marked : new.marked ≡ old.marked
  pub more : StayTouched old new
  pub views : ViewsStay old new
