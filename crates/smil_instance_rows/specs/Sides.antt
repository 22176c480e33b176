-- What a side keeps, as a list for each item.
use Rattle.std.specs.Prelude.{ℕ, ◌<◌, List, [], ◌∷◌, set, replicate}
use Rattle.smil_model.specs.declared.times.Time.{Time}
use Rattle.smil_instance_rows.specs.declared.item_times.InstanceTime.{InstanceTime}
use Rattle.smil_instance_rows.specs.declared.side.Kept.{Kept}
use Rattle.smil_instance_rows.specs.declared.side.Kept.TheVariants.{Nothing, Single, Several}
use Rattle.smil_instance_rows.specs.Rows.{instance_at}

-- so many items, of which one has a single instance time
abbrev pub single_in : ℕ → ℕ → InstanceTime → List (List InstanceTime)
single_in items item kept = set (replicate items []) item (kept ∷ [])

abbrev pub lists_of : {A : Type 0} → (A → Time) → Kept A → List (List InstanceTime)
lists_of given (Nothing items) = replicate items []
lists_of given (Single s) = single_in s.items s.item (instance_at s.place (given s.value))
lists_of given (Several lists) = lists.value

-- a single instance time is of one of the items
abbrev pub IsWithin : {A : Type 0} → Kept A → Type 0
IsWithin (Single s) = s.item < s.items
IsWithin kept = Unit {0}
