-- Entries from an index on that are taken in at a moment.
use Rattle.std.specs.Prelude.{◌≡◌, ℕ, ℤ, ◌≤◌, List, drop, Bool, true, false, ◌⊎◌, Option, Some}
use Rattle.smil_model.specs.declared.document.Node.{Node}
use Rattle.smil_model.specs.declared.interval.Interval.{Interval}
use Rattle.smil_model.specs.document.Document.{elements, node_at}
use Rattle.smil_model.specs.document.Closure.{has}
use Rattle.smil_model.specs.interval.Current.{current_interval}
use Rattle.smil_model.specs.reach.Bounds.{reaches}
use Rattle.smil_past.specs.Past.{MarkedHistory, front, history_of}
use Rattle.smil_cells.specs.CellsState.{WhereTold, fresh}
use Rattle.smil_cells.specs.Evaluated.{HasEvaluated}
use Rattle.smil_cells.specs.Shown.{StayIn, any_shows, elements_at}

-- the current interval of an element before them, and behind them
abbrev pub interval_before : MarkedHistory → ℕ → ℤ → ℕ → Option Interval
interval_before past from moment s = current_interval (front past from) moment s

abbrev pub interval_behind : MarkedHistory → ℤ → ℕ → Option Interval
interval_behind past moment s = current_interval (history_of past) moment s

-- the view of an element may be another behind them: one of them shows there, or the interval is
-- another
abbrev pub MayDiffer : MarkedHistory → ℕ → ℤ → ℕ → Type 0
MayDiffer past from moment s =
    (any_shows (history_of past) (drop from past.diary) s ≡ true)
    ⊎ (interval_behind past moment s ≡ interval_before past from moment s → ⊥)

-- besides the places that were in, those of the elements are in whose views may be others
pub record ArePutBehind (past : MarkedHistory) (from : ℕ) (moment : ℤ) (old new : List ℕ) : Type 0
  where
    pub more : StayIn old new
    pub shown : (e : Node) → node_at (elements past.document.nodes) e.serial ≡ Some e
        → any_shows (history_of past) (drop from past.diary) e.serial ≡ true
        → has (elements_at past.document.nodes new) e.serial ≡ true
    pub others : (e : Node) → node_at (elements past.document.nodes) e.serial ≡ Some e
        → has (elements_at past.document.nodes new) e.serial ≡ false
        → interval_behind past moment e.serial ≡ interval_before past from moment e.serial
    pub only : (e : Node) → node_at (elements past.document.nodes) e.serial ≡ Some e
        → has (elements_at past.document.nodes new) e.serial ≡ true
        → (has (elements_at past.document.nodes old) e.serial ≡ true)
        ⊎ MayDiffer past from moment e.serial

-- how often intervals were evaluated behind them, where that is told
pub record IsCountedBehind (counts : Bool) (past : MarkedHistory) (from : ℕ) (moment : ℤ)
    (evaluations : ℕ) : Type 0 where
  pub most : WhereTold counts
      (evaluations ≤ reaches past.document.nodes past.log (drop from past.diary))
  pub least : WhereTold counts (fresh past.document.nodes (interval_before past from moment)
      (interval_behind past moment) ≤ evaluations)
  pub evaluated : WhereTold counts (HasEvaluated past.document.nodes past.log
      (drop from past.diary) (interval_before past from moment) (interval_behind past moment)
      evaluations)
