-- A row with one item's list changed.
use Rattle.std.specs.Prelude.{ℕ, List, [], ◌∷◌, ◌++◌, get_or, set}
use Rattle.smil_model.specs.declared.document.Edge.{Edge}
use Rattle.smil_model.specs.declared.document.Edge.TheVariants.{Begin, End}
use Rattle.smil_instance_rows.specs.declared.item_times.InstanceTime.{InstanceTime}
use Rattle.smil_instance_rows.specs.Rows.{ElementTimes}

abbrev pub side_of : ElementTimes → Edge → List (List InstanceTime)
side_of row Begin = row.begins
side_of row End = row.ends

abbrev pub list_of : ElementTimes → Edge → ℕ → List InstanceTime
list_of row side item = get_or (side_of row side) item []

abbrev pub with_list : ElementTimes → Edge → ℕ → List InstanceTime → ElementTimes
with_list row Begin item kept =
    record { serial = row.serial; begins = set row.begins item kept; ends = row.ends }
with_list row End item kept =
    record { serial = row.serial; begins = row.begins; ends = set row.ends item kept }

-- with one more item, for which nothing is kept
abbrev pub with_item : ElementTimes → Edge → ElementTimes
with_item row Begin =
    record { serial = row.serial; begins = row.begins ++ [] ∷ []; ends = row.ends }
with_item row End = record { serial = row.serial; begins = row.begins; ends = row.ends ++ [] ∷ [] }
