-- Which elements an entry touches: those whose interval may change though the intervals that it
-- follows from do not.
use Rattle.std.specs.Prelude.{◌≡◌, ℕ, ℤ, List, [], ◌∷◌, ◌++◌, reverse, Bool, true, false, ◌&&◌, ◌||◌, Option, Some, None, is_some}
use Rattle.std.specs.List.{list_any}
use Rattle.smil_model.specs.declared.diary.Entry.{Entry}
use Rattle.smil_model.specs.declared.interval.Interval.{Interval}
use Rattle.smil_model.specs.declared.diary.LogEntry.{LogEntry}
use Rattle.smil_model.specs.declared.document.Node.{Node}
use Rattle.smil_model.specs.document.Document.{elements, node_at, is_within}
use Rattle.smil_model.specs.document.Closure.{has}
use Rattle.smil_model.specs.diary.Diary.{History, up_to}
use Rattle.smil_model.specs.interval.Current.{interval_given}
use Rattle.smil_model.specs.happening.Keys.{coming_of}
use Rattle.smil_model.specs.reach.Reach.{reads, waiters, subject_of, key_of, reach}
use Rattle.smil_laws.specs.Locality.{ParentsBefore}

-- the element itself, what is below it, and what reads one of these
abbrev pub is_touched : List Node → ℕ → ℕ → Bool
is_touched nodes x s =
    is_within nodes x s
    || list_any (λ (b : Node). is_within nodes x b.serial
    && reads nodes b.serial s) (elements nodes)

-- an entry on no element touches none of these
abbrev pub is_touched_from : List Node → Option ℕ → ℕ → Bool
is_touched_from nodes None s = false
is_touched_from nodes (Some x) s = is_some (node_at (elements nodes) x) && is_touched nodes x s

-- a press of a key touches the elements that wait for it
abbrev pub is_touched_through : List Node → Option ℕ → Option ℕ → ℕ → Bool
is_touched_through nodes (Some key) on s = has (waiters nodes key) s
is_touched_through nodes None on s = is_touched_from nodes on s

abbrev pub is_touched_by : List Node → List LogEntry → List Entry → ℕ → Bool
is_touched_by nodes log [] s = false
is_touched_by nodes log (y ∷ ys) s =
    is_touched_through nodes (key_of log y.step) (subject_of log y.step) s
    || is_touched_by nodes log ys s

-- what is given of an element by two histories is the same
pub record GivesSame
    (h k : History) (intervals : ℕ → Option Interval) (now : ℤ) (e : Node) : Type 0 where
  pub interval : interval_given k intervals now e ≡ interval_given h intervals now e
  pub coming : (place : ℕ) → coming_of k intervals now place e ≡ coming_of h intervals now place e

-- entries leave each element that they do not touch with the interval, and with what comes of it,
-- that it had, given the same intervals of the others
abbrev pub LeavesUntouched : Type 0
LeavesUntouched =
    (h : History) (entries : List Entry) (intervals : ℕ → Option Interval) (now : ℤ) (e : Node)
    → ParentsBefore (reverse h.nodes)
    → node_at (elements h.nodes) e.serial ≡ Some e
    → is_touched_by h.nodes h.log entries e.serial ≡ false
    → GivesSame h (up_to h (h.diary ++ entries)) intervals now e

-- whether an element is in the reach of one of the entries
abbrev pub in_reaches : List Node → List LogEntry → List Entry → ℕ → Bool
in_reaches nodes log entries s = list_any (λ y. has (reach nodes log y) s) entries

-- an element of the document is in one of the reaches
abbrev pub IsReached : List Node → List LogEntry → List Entry → Node → Type 0
IsReached nodes log entries e = in_reaches nodes log entries e.serial ≡ true

-- what is touched is reached, and what reads a reached element is reached
pub record ReachHolds
    (nodes : List Node) (log : List LogEntry) (entries : List Entry) : Type 0 where
  pub touched : (e : Node) → node_at (elements nodes) e.serial ≡ Some e
      → is_touched_by nodes log entries e.serial ≡ true
      → IsReached nodes log entries e
  pub readers : (s : ℕ) (e : Node) → node_at (elements nodes) e.serial ≡ Some e
      → in_reaches nodes log entries s ≡ true
      → reads nodes s e.serial ≡ true
      → IsReached nodes log entries e

abbrev pub ReachesHold : Type 0
ReachesHold =
    (nodes : List Node) (log : List LogEntry) (entries : List Entry) → ReachHolds nodes log entries
