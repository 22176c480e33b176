-- Which elements are evaluated after entries, where that is counted.
use Rattle.std.specs.Prelude.{◌≡◌, ℕ, nat_eq, ℤ, List, [], ◌∷◌, drop, length, sum_by, pos, Bool, true, false, not, ◌&&◌, ◌||◌, ◌==◌, ◌⊎◌, Option, Some, None, is_some}
use Rattle.std.specs.List.{IsDistinct, list_any}
use Rattle.std.specs.Ordering.{int_eq}
use Rattle.smil_model.specs.declared.diary.Entry.{Entry}
use Rattle.smil_model.specs.declared.diary.LogEntry.{LogEntry}
use Rattle.smil_model.specs.declared.diary.Step.{Step}
use Rattle.smil_model.specs.declared.diary.Step.TheVariants.{Cut, Ended}
use Rattle.smil_model.specs.declared.interval.Interval.{Interval}
use Rattle.smil_model.specs.declared.document.Node.{Node}
use Rattle.smil_model.specs.declared.times.Time.{Time}
use Rattle.smil_model.specs.declared.times.Time.TheVariants.{At}
use Rattle.smil_model.specs.document.Dependencies.{has_implicit_duration}
use Rattle.smil_model.specs.document.Document.{elements, node_at, time_parent}
use Rattle.smil_model.specs.document.Closure.{has}
use Rattle.smil_model.specs.reach.Reach.{key_of, reads, subject_of}
use Rattle.smil_model.specs.interval.Current.{current_interval}
use Rattle.smil_model.specs.happening.Resolution.{Progress, next_step}
use Rattle.smil_laws.specs.Agreement.{course_on}
use Rattle.smil_concern_laws.specs.Concerned.{is_concerned_through}
use Rattle.smil_cells.specs.CellsState.{CellsState, interval_at, progress_of}

-- of the element that a step is on, the time parent, where its duration follows from its time
-- children
abbrev pub is_container : Option Node → ℕ → Bool
is_container None s = false
is_container (Some p) s = (p.serial == s) && has_implicit_duration p

-- whether a time is this value
abbrev pub is_at : ℤ → Time → Bool
is_at value (At time) = int_eq time value
is_at value _ = false

-- whether there is an interval, and with this end
abbrev pub ends_at : ℤ → Option Interval → Bool
ends_at value None = false
ends_at value (Some i) = is_at value i.«end»

-- a step may change the ends that a container takes of its element: it ends or cuts an interval of
-- it, but for an end that this has already, or the element had none
abbrev pub may_end : (ℕ → Option Interval) → Step → ℕ → Bool
may_end before (Ended who end') x = not (ends_at end' (before x))
may_end before (Cut who) x = true
may_end before step x = not (is_some (before x))

-- the time parent of an element whose ends the step may change
abbrev pub is_moved_container : List Node → (ℕ → Option Interval) → Step → ℕ → ℕ → Bool
is_moved_container nodes before step x s =
    may_end before step x && is_container (time_parent nodes x) s

abbrev pub is_container_of : List Node → (ℕ → Option Interval) → Step → Option ℕ → ℕ → Bool
is_container_of nodes before step None s = false
is_container_of nodes before step (Some x) s =
    is_some (node_at (elements nodes) x) && is_moved_container nodes before step x s

-- a step that is no logged entry acts on its element
abbrev pub acts_on : Step → Option ℕ
acts_on step = subject_of [] step

-- an entry concerns the element, or may change the ends of a time child that its duration follows
-- from
abbrev pub is_noted_at :
    List Node → List LogEntry → (ℕ → Option Interval) → ℕ → Entry → Bool
is_noted_at nodes log before s y =
    is_concerned_through nodes log (key_of log y.step) (subject_of log y.step) y.step s
    || is_container_of nodes before y.step (acts_on y.step) s

abbrev pub is_noted_by :
    List Node → List LogEntry → (ℕ → Option Interval) → List Entry → ℕ → Bool
is_noted_by nodes log before entries s = list_any (is_noted_at nodes log before s) entries

-- an element is due where one of the entries concerns it, or may change the ends of a time child
-- from which its duration follows, or where one that it reads has another interval behind them
abbrev pub IsDue : List Node → List LogEntry → List Entry
    → (ℕ → Option Interval) → (ℕ → Option Interval) → ℕ → Type 0
IsDue nodes log entries before after s =
    (is_noted_by nodes log before entries s ≡ true)
    ⊎ ((x : ℕ) × (reads nodes x s ≡ true) × (after x ≡ before x → ⊥))

-- of the elements, these were evaluated behind the entries, each once and each due;
-- the others keep their intervals
pub record AreEvaluatedOnce (nodes : List Node) (log : List LogEntry) (entries : List Entry)
    (before after : ℕ → Option Interval) (evaluated : List ℕ) : Type 0 where
  pub distinct : IsDistinct nat_eq evaluated
  pub are_elements :
      (s : ℕ) → has evaluated s ≡ true → is_some (node_at (elements nodes) s) ≡ true
  pub due : (s : ℕ) → has evaluated s ≡ true → IsDue nodes log entries before after s
  pub others : (s : ℕ) → has evaluated s ≡ false → after s ≡ before s

-- so many evaluations were made
pub record HasEvaluated (nodes : List Node) (log : List LogEntry) (entries : List Entry)
    (before after : ℕ → Option Interval) (evaluations : ℕ) : Type 0 where
  pub evaluated : List ℕ
  pub as_many : evaluations ≡ length evaluated
  pub are : AreEvaluatedOnce nodes log entries before after evaluated

-- what is told besides what was has another interval than before
abbrev pub AreChanged : List ℕ → List ℕ → (ℕ → Option Interval) → (ℕ → Option Interval) → Type 0
AreChanged old new before after =
    (s : ℕ) → has new s ≡ true → (has old s ≡ true) ⊎ (after s ≡ before s → ⊥)

-- ---- one group of entries behind the other

-- the intervals where a resolution has come so far
abbrev pub intervals_by : List Node → List LogEntry → Progress → ℕ → Option Interval
intervals_by nodes log p serial =
    current_interval (record { nodes = nodes; log = log; diary = p.diary }) (pos p.moment) serial

-- so many evaluations were made behind the entries by which the diary has grown
abbrev pub HasEvaluatedBehind : CellsState → CellsState → ℕ → Type 0
HasEvaluatedBehind old new evaluations =
    HasEvaluated new.presentation.document.nodes new.presentation.log
    (drop (length old.diary) new.diary)
    (intervals_by new.presentation.document.nodes new.presentation.log (progress_of old))
    (interval_at new) evaluations

-- how far a resolution was before a group of entries and is behind it,
-- and the elements that were evaluated behind it
pub record Group : Type 0 where
  pub before : Progress
  pub after : Progress
  pub evaluated : List ℕ

-- the group comes next, and the evaluations behind it are of elements that are due
pub record IsGroup (nodes : List Node) (log : List LogEntry) (g : Group) : Type 0 where
  pub next : next_step (course_on nodes log g.before.moment) g.before ≡ Some g.after
  pub evaluated :
      AreEvaluatedOnce nodes log (drop (length g.before.diary) g.after.diary)
      (intervals_by nodes log g.before) (intervals_by nodes log g.after) g.evaluated

-- groups one behind the other lead from one diary to another
abbrev pub AreGroups :
    List Node → List LogEntry → List Entry → List Group → List Entry → Type 0
AreGroups nodes log diary [] last = last ≡ diary
AreGroups nodes log diary (g ∷ gs) last =
    (g.before.diary ≡ diary) × IsGroup nodes log g × AreGroups nodes log g.after.diary gs last

-- so many evaluations were made in all, behind the groups by which the diary has grown
pub record HasEvaluatedSince (old new : CellsState) (evaluations : ℕ) : Type 0 where
  pub groups : List Group
  pub are :
      AreGroups old.presentation.document.nodes new.presentation.log old.diary groups new.diary
  pub as_many : evaluations ≡ sum_by (λ (g : Group). length g.evaluated) groups
