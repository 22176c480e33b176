-- What a plain table notes under a mark, and how far an evaluation of all its elements has come.
use Rattle.std.specs.Prelude.{◌≡◌, ◌==◌, ◌⊎◌, ◌<◌, ◌≤◌, ℕ, ℤ, List, Bool, true, false, Option, Some, None, length, slice_index}
use Rattle.std.specs.FinSet as set
use Rattle.smil_model.specs.document.Closure.{has}
use Rattle.smil_model.specs.diary.Diary.{History}
use Rattle.smil_due.specs.Order.{key_cmp}
use Rattle.smil_rounds.specs.declared.current_rows.CurrentRow.{CurrentRow}
use Rattle.smil_rounds.specs.Current.{IsCurrent, interval_in}
use Rattle.smil_rounds.specs.Round.{AreRowsEvaluated, StayUnchanged}
use Rattle.smil_cells.specs.Evaluated.{AreChanged}

-- what `back` gives where a mark stands: what was noted,
-- or what is there where nothing changed since
abbrev pub IsMarked :
    Bool → Option (List CurrentRow × set.FinSet key_cmp) → List CurrentRow → set.FinSet key_cmp
    → History → ℤ → Type 0
IsMarked false noted rows due h now = Unit {0}
IsMarked true None rows due h now = IsCurrent rows due h now
IsMarked true (Some noted) rows due h now = IsCurrent noted.0 noted.1 h now

-- what is noted where a mark stands
abbrev pub IsNoted :
    Bool → Option (List CurrentRow × set.FinSet key_cmp) → List CurrentRow → set.FinSet key_cmp
    → Option (List CurrentRow × set.FinSet key_cmp) → Type 0
IsNoted true None rows due noted = noted ≡ Some (rows, due)
IsNoted true (Some before) rows due noted = noted ≡ Some before
IsNoted false before rows due noted = noted ≡ before

-- the first elements of an order were evaluated
pub record IsUnderWay
    (h : History) (now : ℤ) (order : List ℕ) (count : ℕ) (before rows : List CurrentRow)
    (old changed : List ℕ) : Type 0 where
  pub taken : AreRowsEvaluated h now order count rows
  pub unchanged : StayUnchanged old changed before rows
  pub told : AreChanged old changed (interval_in before) (interval_in rows)
  pub later :
      (j : ℕ) → count ≤ j → j < length order
      → interval_in rows (slice_index order j) ≡ interval_in before (slice_index order j)

-- an element was evaluated, and it alone may be told, where its interval changed
pub record IsTold (who : ℕ) (old new : List ℕ) (before after : List CurrentRow) : Type 0 where
  pub others : (s : ℕ) → who == s ≡ false → interval_in after s ≡ interval_in before s
  pub told :
      (s : ℕ) → has new s ≡ true
      → (has old s ≡ true)
      ⊎ ((who == s ≡ true) × (interval_in after who ≡ interval_in before who → ⊥))
