-- Elements evaluated in their order, in which each has a rank; those with listed ranks are left.
use Rattle.std.specs.Prelude.{◌≡◌, ◌⊎◌, ℕ, ◌<◌, ◌≤◌, ◌+◌, zero, suc, ℤ, List, [], ◌∷◌, nat_eq, Bool, true, false, Option, Some, slice_get, slice_index, length, if◌then◌else◌}
use Rattle.std.specs.List.{IsDistinct}
use Rattle.smil_model.specs.declared.diary.Entry.{Entry}
use Rattle.smil_model.specs.declared.diary.LogEntry.{LogEntry}
use Rattle.smil_model.specs.declared.interval.Interval.{Interval}
use Rattle.smil_model.specs.declared.document.Node.{Node}
use Rattle.smil_model.specs.document.Dependencies.{has_implicit_duration}
use Rattle.smil_model.specs.document.Document.{elements, time_parent}
use Rattle.smil_model.specs.document.Closure.{has}
use Rattle.smil_model.specs.diary.Diary.{History}
use Rattle.smil_laws.specs.Touched.{in_reaches}
use Rattle.smil_rounds.specs.declared.current_rows.CurrentRow.{CurrentRow}
use Rattle.smil_rounds.specs.Current.{interval_in}
use Rattle.smil_rounds.specs.Round.{AreOfElements, IsRowEvaluated, IsRowOf}
use Rattle.smil_cells.specs.Evaluated.{HasEvaluated, IsDue}

-- the interval of an element is the same
abbrev pub HasSame : ℕ → List CurrentRow → List CurrentRow → Type 0
HasSame serial before after = interval_in after serial ≡ interval_in before serial

-- the rows of the elements whose ranks are not listed are as the intervals of all rows give them
pub record AreSettled (h : History) (now : ℤ) (order : List ℕ) (listed : ℕ → Bool)
    (rows : List CurrentRow) : Type 0 where
  pub of_elements : AreOfElements h.nodes rows
  pub rows_are :
      (rank place : ℕ) (e : Node) (row : CurrentRow)
      → rank < length order → slice_index order rank ≡ e.serial → listed rank ≡ false
      → slice_get (elements h.nodes) place ≡ Some e → slice_get rows place ≡ Some row
      → IsRowOf h (interval_in rows) now place e row

-- an element has a rank below a number
pub record IsBelow (order : List ℕ) (next serial : ℕ) : Type 0 where
  pub rank : ℕ
  pub below : rank < next
  pub within : rank < length order
  pub at : slice_index order rank ≡ serial

-- an element has a rank that is not listed
pub record IsUnlisted (order : List ℕ) (listed : ℕ → Bool) (serial : ℕ) : Type 0 where
  pub rank : ℕ
  pub within : rank < length order
  pub at : slice_index order rank ≡ serial
  pub free : listed rank ≡ false

-- the container that the ending of an element is kept for has a rank that is not listed
pub record IsUnderUnlisted (nodes : List Node) (order : List ℕ) (listed : ℕ → Bool)
    (serial : ℕ) : Type 0 where
  pub container : Node
  pub above : time_parent nodes serial ≡ Some container
  pub implicit : has_implicit_duration container ≡ true
  pub unlisted : IsUnlisted order listed container.serial

-- the ending that is kept of an element is right where the element has a rank that is not listed,
-- or its container has
abbrev pub HasKeptEnding : List Node → List ℕ → (ℕ → Bool) → ℕ → Type 0
HasKeptEnding nodes order listed serial =
    IsUnlisted order listed serial ⊎ IsUnderUnlisted nodes order listed serial

-- some elements were evaluated, one behind the other, the last one first in the list
abbrev pub AreEvaluated : History → ℤ → List ℕ → List CurrentRow → List CurrentRow → Type 0
AreEvaluated h now [] before after = after ≡ before
AreEvaluated h now (who ∷ earlier) before after =
    (rows : List CurrentRow) × AreEvaluated h now earlier before rows
    × IsRowEvaluated h now who rows after

-- so many evaluations were made, of elements that are due, each once
pub record AreDueOnce (h : History) (now : ℤ) (nodes : List Node) (log : List LogEntry)
    (entries : List Entry) (old new : List CurrentRow) (before after : ℕ → Option Interval)
    (evaluations : ℕ) : Type 0 where
  pub told : HasEvaluated nodes log entries before after evaluations
  pub made : AreEvaluated h now told.evaluated old new

-- each step is of another element that was taken; those that were, and those that are listed,
-- are due and in the reaches of entries; the listed ranks are above those of the former
pub record IsCounted (h : History) (now : ℤ) (nodes : List Node) (log : List LogEntry)
    (entries : List Entry) (order : List ℕ) (listed : ℕ → Bool) (before rows : List CurrentRow)
    (start steps : ℕ) : Type 0 where
  pub next : ℕ
  pub taken : List ℕ
  pub made : AreEvaluated h now taken before rows
  pub steps_are : steps ≡ start + length taken
  pub distinct : IsDistinct nat_eq taken
  pub reached : (s : ℕ) → has taken s ≡ true → in_reaches nodes log entries s ≡ true
  pub due :
      (s : ℕ) → has taken s ≡ true
      → IsDue nodes log entries (interval_in before) (interval_in rows) s
  pub below : (s : ℕ) → has taken s ≡ true → IsBelow order next s
  pub others : (s : ℕ) → has taken s ≡ false → HasSame s before rows
  pub above : (rank : ℕ) → listed rank ≡ true → (next ≤ rank) × (rank < length order)
  pub listed_reached :
      (rank : ℕ) → listed rank ≡ true
      → in_reaches nodes log entries (slice_index order rank) ≡ true
  pub listed_due :
      (rank : ℕ) → listed rank ≡ true
      → IsDue nodes log entries (interval_in before) (interval_in rows) (slice_index order rank)

-- how far the least listed rank is below a number of ranks, from a rank on; 0 where none is listed
abbrev pub gap_from : (ℕ → Bool) → ℕ → ℕ → ℕ
gap_from listed zero rank = 0
gap_from listed (suc count) rank =
    if listed rank then suc count else gap_from listed count (suc rank)
