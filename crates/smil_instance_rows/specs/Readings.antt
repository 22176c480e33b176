-- What the calls on kept instance times answer, in terms of the value: a row for each element.
use Rattle.std.specs.Prelude.{ℕ, suc, ℤ, List, [], ◌∷◌, find, map, ◌==◌, not, if◌then◌else◌, Option, Some, None}
use Rattle.std.specs.Option.{option_map, option_map_or, unwrap_or}
use Rattle.smil_model.specs.declared.times.Time.{Time}
use Rattle.smil_model.specs.declared.times.Time.TheVariants.{At, Unresolved}
use Rattle.smil_model.specs.declared.document.Edge.{Edge}
use Rattle.smil_model.specs.declared.document.Edge.TheVariants.{Begin, End}
use Rattle.smil_model.specs.Times.{time_le}
use Rattle.smil_instance_rows.specs.Rows.{ElementTimes}
use Rattle.smil_instance_rows.specs.Values.{begins_of, ends_of}

-- the first of rising times from a value on, unresolved where there is none
abbrev pub first_from : ℤ → List Time → Time
first_from value times = unwrap_or (find (time_le (At value)) times) Unresolved

-- the first of rising times after a value, unresolved where there is none
abbrev pub first_after : ℤ → List Time → Time
first_after value times = unwrap_or (find (λ t. not (time_le t (At value))) times) Unresolved

-- the begins or the ends of a row
abbrev pub row_times : ElementTimes → Edge → List Time
row_times row Begin = map At (begins_of row.begins)
row_times row End = ends_of row.ends

-- ---- by element

-- the index of the first row of an element
abbrev pub index_in : List ElementTimes → ℕ → Option ℕ
index_in [] who = None
index_in (r ∷ rs) who =
    let rest = index_in rs who in if r.serial == who then Some 0 else option_map suc rest

abbrev pub row_in : List ElementTimes → ℕ → Option ElementTimes
row_in rows who = find (λ (r : ElementTimes). r.serial == who) rows

abbrev pub begins_in : List ElementTimes → ℕ → List ℤ
begins_in rows who = option_map_or (λ (r : ElementTimes). begins_of r.begins) (row_in rows who) []

abbrev pub ends_in : List ElementTimes → ℕ → List Time
ends_in rows who = option_map_or (λ (r : ElementTimes). ends_of r.ends) (row_in rows who) []

abbrev pub times_in : List ElementTimes → ℕ → Edge → List Time
times_in rows who side = option_map_or (λ (r : ElementTimes). row_times r side) (row_in rows who) []
