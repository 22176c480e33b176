-- Rows of the elements by their current intervals: each element with its interval and what comes
-- of it, in document order; and the keys of all that comes in a queue.
use Rattle.std.specs.Prelude.{◌≡◌, ℕ, ℤ, List, map, find, ◌==◌, Option, option_and_then}
use Rattle.std.specs.FinSet as set
use Rattle.std.proofs.Common.{sym, ◌∙◌, ap}
use Rattle.smil_model.specs.declared.interval.Interval.{Interval}
use Rattle.smil_model.specs.document.Document.{elements}
use Rattle.smil_model.specs.diary.Diary.{History}
use Rattle.smil_model.specs.interval.Current.{current_table}
use Rattle.smil_model.specs.happening.Keys.{keys}
use Rattle.smil_due.specs.Order.{key_cmp}
use Rattle.smil_laws.specs.Same.{IsSame}
use Rattle.smil_element.specs.Comings.{HaveDueChanges, comings_stay, keys_stay}
use Rattle.smil_rounds.specs.declared.current_rows.CurrentRow.{CurrentRow}

abbrev pub interval_in : List CurrentRow → ℕ → Option Interval
interval_in rows serial = option_and_then (λ (r : CurrentRow). r.interval)
    (find (λ (r : CurrentRow). r.serial == serial) rows)

-- the rows are those of all elements by their current intervals, with what comes of them
pub record AreCurrent (rows : List CurrentRow) (h : History) (now : ℤ) : Type 0 where
  pub rows_are : map (λ (r : CurrentRow). (r.serial, r.interval)) rows ≡ current_table h now
  pub comings_are :
      HaveDueChanges h now 0 (elements h.nodes) (map (λ (r : CurrentRow). r.comings) rows)

-- they are current by another history by which the same is
pub stay_current : (rows : List CurrentRow) (h k : History) (m n : ℤ)
    → IsSame h m k n → AreCurrent rows h m → AreCurrent rows k n
stay_current rows h k m n same are = record {
  rows_are = are.rows_are ∙ sym same.table;
  comings_are =
      comings_stay h k m n same (map (λ (r : CurrentRow). r.comings) rows) are.comings_are;
}

-- the rows are current, and the queue has the keys of what comes, and no other
pub record IsCurrent
    (rows : List CurrentRow) (due : set.FinSet key_cmp) (h : History) (now : ℤ) : Type 0 where
  pub current : AreCurrent rows h now
  pub due_is : due ≡ set.from_list (keys h now)

-- it is current by another history by which the same is
pub stays_current : (rows : List CurrentRow) (due : set.FinSet key_cmp) (h k : History) (m n : ℤ)
    → IsSame h m k n → IsCurrent rows due h m → IsCurrent rows due k n
stays_current rows due h k m n same is = record {
  current = stay_current rows h k m n same is.current;
  due_is = is.due_is ∙ sym (ap set.from_list (keys_stay h k m n same));
}
