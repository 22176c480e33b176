-- An evaluation of all elements, in an order in which the dependencies that are not looped go
-- forward.
use Rattle.std.specs.Prelude.{◌≡◌, ℕ, ◌<◌, ℤ, List, [], ◌∷◌, ◌++◌, map, flat_map, fold, true, false, Option, Some, None, slice_get, slice_index, slice_set}
use Rattle.std.specs.FinSet as set
use Rattle.smil_model.specs.declared.interval.Interval.{Interval}
use Rattle.smil_model.specs.declared.document.Node.{Node}
use Rattle.smil_model.specs.declared.happening.Key.{Key}
use Rattle.smil_model.specs.document.Document.{elements, serials}
use Rattle.smil_model.specs.document.Closure.{has}
use Rattle.smil_model.specs.diary.Diary.{History}
use Rattle.smil_model.specs.interval.Current.{interval_given, simple_of}
use Rattle.smil_model.specs.happening.Keys.{coming_by}
use Rattle.smil_due.specs.Order.{key_cmp}
use Rattle.smil_element.specs.declared.happening.change.DueChange.{DueChange}
use Rattle.smil_element.specs.Element.{both}
use Rattle.smil_rounds.specs.declared.current_rows.CurrentRow.{CurrentRow}
use Rattle.smil_rounds.specs.Current.{interval_in}

-- the row of an element, given the intervals of all
pub record IsRowOf (h : History) (intervals : ℕ → Option Interval) (now : ℤ) (place : ℕ) (e : Node)
    (row : CurrentRow) : Type 0 where
  pub serial : row.serial ≡ e.serial
  pub interval : row.interval ≡ interval_given h intervals now e
  pub comings : both row.comings.moved row.comings.repeat
      ≡ coming_by h row.interval (simple_of h intervals e) now place e

-- one element was evaluated by the rows as they were
pub record IsRowEvaluated
    (h : History) (now : ℤ) (who : ℕ) (before after : List CurrentRow) : Type 0 where
  pub place : ℕ
  pub element : Node
  pub row : CurrentRow
  pub here : slice_get (elements h.nodes) place ≡ Some element
  pub is_who : element.serial ≡ who
  pub made : IsRowOf h (interval_in before) now place element row
  pub after_is : after ≡ slice_set before place row

-- the rows are of the elements, in document order
abbrev pub AreOfElements : List Node → List CurrentRow → Type 0
AreOfElements nodes rows = map (λ (r : CurrentRow). r.serial) rows ≡ serials (elements nodes)

-- the rows of the first elements of an order are as the intervals of all rows give them
pub record AreRowsEvaluated
    (h : History) (now : ℤ) (order : List ℕ) (count : ℕ) (rows : List CurrentRow) : Type 0 where
  pub of_elements : AreOfElements h.nodes rows
  pub rows_are :
      (k place : ℕ) (e : Node) (row : CurrentRow) → k < count → slice_index order k ≡ e.serial
      → slice_get (elements h.nodes) place ≡ Some e → slice_get rows place ≡ Some row
      → IsRowOf h (interval_in rows) now place e row

-- ---- keys

abbrev pub key_in : Option DueChange → List Key
key_in None = []
key_in (Some c) = c.key ∷ []

abbrev pub keys_in : List CurrentRow → List Key
keys_in rows = flat_map (λ (r : CurrentRow). key_in r.comings.moved ++ key_in r.comings.repeat) rows

abbrev pub with_key : set.FinSet key_cmp → Option DueChange → set.FinSet key_cmp
with_key due None = due
with_key due (Some c) = set.insert due c.key

-- the keys of what comes of an element are put in
abbrev pub with_keys : set.FinSet key_cmp → CurrentRow → set.FinSet key_cmp
with_keys due row = with_key (with_key due row.comings.moved) row.comings.repeat

abbrev pub due_in : List CurrentRow → set.FinSet key_cmp
due_in rows = fold with_keys set.empty rows

-- ---- what was appended

-- elements that were appended stay so, and each that is not has the interval that it had
pub record StayUnchanged (old new : List ℕ) (before after : List CurrentRow) : Type 0 where
  pub more : (s : ℕ) → has old s ≡ true → has new s ≡ true
  pub others : (s : ℕ) → has new s ≡ false → interval_in after s ≡ interval_in before s
