-- The values that the instance times of several items give together, in rising order.
use Rattle.std.specs.Prelude.{ℤ, ℕ, List, [], ◌++◌, map, filter_map, flat_map, replicate, Bool, Option, Some, None}
use Rattle.smil_model.specs.declared.times.Time.{Time}
use Rattle.smil_model.specs.Times.{numbers, rising, rising_times}
use Rattle.smil_instance_rows.specs.declared.item_times.InstanceTime.{InstanceTime}
use Rattle.smil_model.specs.Rising.{put_in, taken_out, poured}

abbrev pub times_of : List InstanceTime → List Time
times_of kept = map (λ (k : InstanceTime). k.time) kept

-- lists of items, and so many more items for which nothing is kept
abbrev pub with_idle : ℕ → List (List InstanceTime) → List (List InstanceTime)
with_idle count lists = lists ++ replicate count []

-- the begins of items, in rising order
abbrev pub begins_of : List (List InstanceTime) → List ℤ
begins_of items = rising (numbers (flat_map times_of items))

-- the ends of items, in rising order
abbrev pub ends_of : List (List InstanceTime) → List Time
ends_of items = rising_times (flat_map times_of items)

-- ---- by any order, and any choice of the values that times give

abbrev pub values_of : {A : Type 0} → (Time → Option A) → List InstanceTime → List A
values_of choose kept = filter_map (λ (k : InstanceTime). choose k.time) kept

abbrev pub merged :
    {A : Type 0} → (A → A → Bool) → (Time → Option A) → List (List InstanceTime) → List A
merged le choose items = poured le (flat_map (values_of choose) items) []

-- with a value put in its place, where there is one
abbrev pub with_value : {A : Type 0} → (A → A → Bool) → Option A → List A → List A
with_value le None into = into
with_value le (Some x) into = put_in le x into

-- without a value, where there is one
abbrev pub without_value : {A : Type 0} → (A → A → Bool) → Option A → List A → List A
without_value le None from = from
without_value le (Some x) from = taken_out le x from
