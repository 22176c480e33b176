-- What cells keep.
use Rattle.std.specs.Prelude.{◌≡◌, ℕ, ◌≤◌, ℤ, ◌≤ℤ◌, pos, nat_abs, List, [], take, length, Bool, true, Option, Some, None, is_some}
use Rattle.smil_model.specs.declared.diary.Entry.{Entry}
use Rattle.smil_model.specs.diary.Diary.{History}
use Rattle.smil_model.specs.diary.Logs.{is_log}
use Rattle.smil_model.specs.shown.Orders.{Presentation, IsState}
use Rattle.smil_diary.specs.declared.fault.BookFault.{BookFault}
use Rattle.smil_past.specs.Past.{MarkedHistory, IsPresent}
use Rattle.smil_cells.specs.CellsState.{CellsState, history_of, IsReached}

-- the moment of a mark, with the lengths of log and diary there
abbrev pub marked_by :
    MarkedHistory → Option ℤ → Option (ℕ × ℕ) → Option (Presentation × List Entry)
marked_by past None lens = None
marked_by past (Some moment) None = None
marked_by past (Some moment) (Some lens) =
    Some (
      record {
        document = past.document;
        log = take lens.0 past.log;
        now = nat_abs moment;
      },
      take lens.1 past.diary,
    )

abbrev pub standing_of : MarkedHistory → ℤ → Option BookFault → Option ℤ → List ℕ → CellsState
standing_of past moment fault mark touched = record {
  presentation = record { document = past.document; log = past.log; now = nat_abs moment };
  diary = past.diary;
  fault = fault;
  marked = marked_by past mark past.marked;
  touched = touched;
}

-- what has happened, under way at a moment, with nothing marked or touched
abbrev pub begun : MarkedHistory → ℤ → CellsState
begun past moment = standing_of past moment None None []

-- a moment and what a resolution up to it comes to, with the whole log heard; no mark stands
pub record MayBegin (past : MarkedHistory) (moment : ℤ) : Type 0 where
  pub unmarked : past.marked ≡ None
  pub from : pos 0 ≤ℤ moment
  pub state : IsState (begun past moment).presentation
  pub reached : IsReached (begun past moment)

-- a standing that answers no refusal: it is a state, its diary is what the resolution comes to,
-- and the table is current
pub record IsSound (is_current : History → ℤ → Type 0) (s : CellsState) : Type 0 where
  pub state : IsState s.presentation
  pub reached : IsReached s
  pub current : is_current (history_of s) (pos s.presentation.now)

abbrev pub at_mark : List ℕ → Presentation × List Entry → CellsState
at_mark touched mark =
    record { presentation = mark.0; diary = mark.1; fault = None; marked = None; touched = touched }

-- so it is where the mark was made, by the table that `back` gives
abbrev pub WhereMarked :
    (History → ℤ → Type 0) → List ℕ → Option (Presentation × List Entry) → Type 0
WhereMarked is_marked touched None = Unit {0}
WhereMarked is_marked touched (Some mark) = IsSound is_marked (at_mark touched mark)

pub record IsSoundUnderMark
    (is_current is_marked : History → ℤ → Type 0) (has_mark : Bool) (past : MarkedHistory)
    (moment : ℤ) (fault : Option BookFault) (mark : Option ℤ) (touched : List ℕ) : Type 0 where
  pub present : IsPresent past moment
  pub log : is_log past.log ≡ true
  pub sound : fault ≡ None → IsSound is_current (standing_of past moment fault mark touched)
  pub marked : WhereMarked is_marked touched (marked_by past mark past.marked)
  pub table_mark : has_mark ≡ is_some mark
  pub past_mark : is_some past.marked ≡ is_some mark
  pub mark_from : (m : ℤ) → mark ≡ Some m → pos 0 ≤ℤ m
  pub lens : (lens : ℕ × ℕ) → past.marked ≡ Some lens
      → (lens.0 ≤ length past.log) × (lens.1 ≤ length past.diary)
