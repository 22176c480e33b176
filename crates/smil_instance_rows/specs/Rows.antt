-- The instance times that are kept of an element, item by item,
-- each with the place of the entry that gave it.
use Rattle.std.specs.Prelude.{ℕ, List, filter, map, Option, Some, None, nat_le, nat_lt}
use Rattle.smil_instance_rows.specs.declared.item_times.InstanceTime.{InstanceTime}
use Rattle.smil_model.specs.declared.times.Time.{Time}

abbrev pub instance_at : ℕ → Time → InstanceTime
instance_at place t = record { place = place; time = t }

abbrev pub at_place : ℕ → Option Time → Option InstanceTime
at_place place None = None
at_place place (Some t) = Some (instance_at place t)

-- those from a place on
abbrev pub from_place : ℕ → List InstanceTime → List InstanceTime
from_place place kept = filter (λ (k : InstanceTime). nat_le place k.place) kept

-- those before a place
abbrev pub before_place : ℕ → List InstanceTime → List InstanceTime
before_place place kept = filter (λ (k : InstanceTime). nat_lt k.place place) kept

-- of an element: for each item of its begin list and of its end list, what is kept
pub record ElementTimes : Type 0 where
  pub serial : ℕ
  pub begins : List (List InstanceTime)
  pub ends : List (List InstanceTime)

-- of all items what is of places before this one
abbrev pub row_before : ℕ → ElementTimes → ElementTimes
row_before place row = record {
  serial = row.serial;
  begins = map (before_place place) row.begins;
  ends = map (before_place place) row.ends;
}

abbrev pub rows_before : ℕ → List ElementTimes → List ElementTimes
rows_before place rows = map (row_before place) rows
