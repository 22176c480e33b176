-- How large the numbers of a resolved diary are.
use Rattle.std.specs.Prelude.{◌≡◌, ℕ, ℤ, pos, ◌≤ℤ◌, List, Option, Some}
use Rattle.std.specs.List.{AllByRecursion}
use Rattle.smil_model.specs.declared.times.TheConstants.{HORIZON}
use Rattle.smil_model.specs.declared.times.Time.{Time}
use Rattle.smil_model.specs.declared.times.Time.TheVariants.{At, Indefinite, Unresolved}
use Rattle.smil_model.specs.Times.{IsNear}
use Rattle.smil_model.specs.declared.diary.Entry.{Entry}
use Rattle.smil_model.specs.declared.diary.LogEntry.{LogEntry}
use Rattle.smil_model.specs.declared.diary.Step.{Step}
use Rattle.smil_model.specs.declared.diary.Step.TheVariants.{Began, Repeated, Ended, Deferred, Passed}
use Rattle.smil_model.specs.declared.interval.Interval.{Interval}
use Rattle.smil_model.specs.declared.document.Node.{Node}
use Rattle.smil_model.specs.document.Document.{Document}
use Rattle.smil_model.specs.diary.Diary.{History}
use Rattle.smil_model.specs.interval.Current.{interval_given}
use Rattle.smil_model.specs.happening.Keys.{Change, DueChange, begins, ends, repeats, coming, first_coming}
use Rattle.smil_laws.specs.Resolved.{history_after}

abbrev pub IsTimeNear : Time → Type 0
IsTimeNear (At number) = IsNear number
IsTimeNear Indefinite = Unit {0}
IsTimeNear Unresolved = Unit {0}

-- the number of a step, where it has one
abbrev pub HasNear : Step → Type 0
HasNear (Began who begin) = IsNear begin
HasNear (Repeated who start) = IsNear start
HasNear (Ended who end') = IsNear end'
HasNear (Deferred who begin) = IsNear begin
HasNear (Passed who begin) = IsNear begin
HasNear _ = Unit {0}

abbrev pub AllNear : List Entry → Type 0
AllNear diary = AllByRecursion (λ (x : Entry). HasNear x.step) diary

-- the numbers of a resolved diary are near
abbrev pub ResolvedIsNear : Type 0
ResolvedIsNear =
    (document : Document) (log : List LogEntry) (last steps : ℕ) → pos last ≤ℤ HORIZON
    → AllNear (history_after document log last steps).diary

-- so are those of each interval that such a diary gives
pub record IsIntervalNear (i : Interval) : Type 0 where
  pub begin : IsNear i.begin
  pub finish : IsTimeNear i.«end»

abbrev pub IntervalsAreNear : Type 0
IntervalsAreNear =
    (h : History) (intervals : ℕ → Option Interval) (now : ℤ) (e : Node) (i : Interval)
    → AllNear h.diary
    → interval_given h intervals now e ≡ Some i
    → IsIntervalNear i

-- and the number of what comes
abbrev pub value_in : Change → ℤ
value_in (begins value) = value
value_in (ends value) = value
value_in (repeats start) = start

abbrev pub ComingIsNear : Type 0
ComingIsNear =
    (h : History) (now : ℤ) (c : DueChange) → AllNear h.diary → first_coming (coming h now) ≡ Some c
    → IsNear (value_in c.change)
