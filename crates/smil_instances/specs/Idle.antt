-- The rows of a document to which nothing has happened yet.
use Rattle.std.specs.Prelude.{◌≡◌, ℕ, List, [], ◌∷◌, ◌++◌, Option, Some, None, slice_get}
use Rattle.smil_model.specs.declared.times.Time.{Time}
use Rattle.smil_model.specs.declared.document.Node.{Node}
use Rattle.smil_model.specs.declared.document.Edge.{Edge}
use Rattle.smil_model.specs.declared.document.Edge.TheVariants.{Begin, End}
use Rattle.smil_model.specs.declared.document.Item.{Item}
use Rattle.smil_model.specs.document.Document.{elements, node_at}
use Rattle.smil_instance_rows.specs.declared.item_times.InstanceTime.{InstanceTime}
use Rattle.smil_instance_rows.specs.Rows.{ElementTimes, instance_at}
use Rattle.smil_model.specs.document.Defaults.{items_of}

-- what is kept where a time is known before the first entry
abbrev pub idle_kept : Option Time → List InstanceTime
idle_kept None = []
idle_kept (Some t) = instance_at 0 t ∷ []

-- the row with the instance times of more items
abbrev pub with_items : ElementTimes → Edge → List (List InstanceTime) → ElementTimes
with_items row Begin items =
    record { serial = row.serial; begins = row.begins ++ items; ends = row.ends }
with_items row End items =
    record { serial = row.serial; begins = row.begins; ends = row.ends ++ items }

-- e is the element at a place among the elements of a document,
-- and these are the items of one of its lists
pub record IsListOf
    (nodes : List Node) (place : ℕ) (e : Node) (side : Edge) (items : List Item) : Type 0 where
  pub here : slice_get (elements nodes) place ≡ Some e
  pub same : items ≡ items_of nodes side e

-- the element at a place among the elements of a document has this serial
pub record IsElementAt (nodes : List Node) (place serial : ℕ) : Type 0 where
  pub element : Node
  pub here : slice_get (elements nodes) place ≡ Some element
  pub known : node_at nodes serial ≡ Some element
  pub same : element.serial ≡ serial
