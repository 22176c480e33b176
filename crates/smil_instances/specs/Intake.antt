-- What the last entry of a diary gives to the items that it concerns,
-- and what is still kept for these after it.
use Rattle.std.specs.Prelude.{◌≡◌, ℕ, List, [], fold, map, filter_map, length, Bool, false, true, Option, Some, None, slice_get, is_some, All, pos}
use Rattle.smil_model.specs.declared.diary.Entry.{Entry}
use Rattle.smil_model.specs.declared.diary.LogEntry.{LogEntry}
use Rattle.smil_model.specs.declared.document.Node.{Node}
use Rattle.smil_model.specs.declared.document.Edge.{Edge}
use Rattle.smil_model.specs.declared.document.Item.{Item}
use Rattle.smil_model.specs.declared.document.Item.TheVariants.{Offset, Indefinite}
use Rattle.smil_model.specs.document.Document.{Document, elements, node_at}
use Rattle.smil_model.specs.document.Defaults.{begin_list, end_list, items_of, stated_list}
use Rattle.smil_model.specs.diary.Diary.{History}
use Rattle.smil_instance_rows.specs.declared.item_times.InstanceTime.{InstanceTime}
use Rattle.smil_instances.specs.declared.source.Source.{Source}
use Rattle.smil_instances.specs.declared.source.Source.TheVariants as source
use Rattle.smil_instance_rows.specs.declared.cell.Add.{Add}
use Rattle.smil_instance_rows.specs.declared.cell.Cell.{Cell}
use Rattle.smil_instance_rows.specs.Rows.{ElementTimes}
use Rattle.smil_instances.specs.Sources.{item_at, source_at}
use Rattle.smil_instance_rows.specs.Changes.{cell_of, with_cell}
use Rattle.smil_instances.specs.Updates.{concerned_by, remaining}
use Rattle.smil_instances.specs.Contribution.{given_at}
use Rattle.smil_instances.specs.Dependents.{DocumentDependents, keyed_in}
use Rattle.smil_instances.specs.declared.history.DocumentHistory.{DocumentHistory}

abbrev pub history_of : Document → List LogEntry → List Entry → History
history_of document log diary = record { nodes = document.nodes; log = log; diary = diary }

-- what has happened to a document with this diary in place of its own
abbrev pub history_with : DocumentHistory → List Entry → History
history_with history diary = history_of history.tree.now history.log.now diary

-- ---- which items

abbrev pub concerned_under : List Node → Bool → Option ℕ → Option ℕ → Cell → Option Node → Bool
concerned_under nodes is_birth on key cell None = false
concerned_under nodes is_birth on key cell (Some e) =
    concerned_by nodes is_birth on key e.serial (source_at nodes cell)

-- whether an entry, which is on an element, or a press of a key, or neither, concerns a cell's item
abbrev pub is_concerned_cell : List Node → Bool → Option ℕ → Option ℕ → Cell → Bool
is_concerned_cell nodes is_birth on key cell =
    concerned_under nodes is_birth on key cell (slice_get (elements nodes) cell.row)

-- the cells that wait for a key, if there is one
abbrev pub keyed_by : DocumentDependents → Option ℕ → List Cell
keyed_by dependents None = []
keyed_by dependents (Some key) = keyed_in dependents.keys key

-- the cell has an item
abbrev pub HasItem : List Node → Cell → Type 0
HasItem nodes cell = is_some (item_at nodes cell) ≡ true

-- each of the cells has one
abbrev pub HaveItems : List Node → List Cell → Type 0
HaveItems nodes cells = All (HasItem nodes) cells

-- the cell is of the element with this serial, and its item has this source
pub record IsCellOf (nodes : List Node) (cell : Cell) (who : ℕ) (source : Source) : Type 0 where
  pub element : Node
  pub here : slice_get (elements nodes) cell.row ≡ Some element
  pub known : node_at nodes who ≡ Some element
  pub alone : node_at (elements nodes) who ≡ Some element
  pub serial : element.serial ≡ who
  pub source_is : source ≡ source_at nodes cell

-- ---- what is given

abbrev pub stated_in : Option Node → Edge → Option (List Item)
stated_in None side = None
stated_in (Some e) side = stated_list e.attrs side

-- the element does not state the list
abbrev pub IsUnstated : List Node → ℕ → Edge → Type 0
IsUnstated nodes who side = stated_in (node_at nodes who) side ≡ None

-- the item of an element without `begin`, by its source: `indefinite` in an excl,
-- and else the offset 0
abbrev pub default_of : Source → Item
default_of source.Nothing = Indefinite
default_of _ = Offset (pos 0)

abbrev pub given_item : History → Entry → Node → Edge → Option Item → Option InstanceTime
given_item h y e side None = None
given_item h y e side (Some item) = given_at h y e side item

abbrev pub given_under : History → Entry → Cell → Option Node → Option InstanceTime
given_under h y cell None = None
given_under h y cell (Some e) =
    given_item h y e cell.side (slice_get (items_of h.nodes cell.side e) cell.item)

-- what the entry gives to a cell's item; nothing where there is no such item
abbrev pub given_to : History → Entry → Cell → Option InstanceTime
given_to h y cell = given_under h y cell (slice_get (elements h.nodes) cell.row)

abbrev pub add_to : Cell → Option InstanceTime → Option Add
add_to cell None = None
add_to cell (Some kept) = Some (record { cell = cell; kept = kept })

-- what the entry gives to the items of these cells
abbrev pub adds_to : History → Entry → List Cell → List Add
adds_to h y cells = filter_map (λ cell. add_to cell (given_to h y cell)) cells

-- ---- what is still kept

abbrev pub remaining_under : History → Cell → Option Node → List InstanceTime → List InstanceTime
remaining_under h cell None kept = kept
remaining_under h cell (Some e) kept = remaining h e.serial (source_at h.nodes cell) kept

-- what is still kept for a cell's item, by the births in the history
abbrev pub remaining_at : History → Cell → List InstanceTime → List InstanceTime
remaining_at h cell kept = remaining_under h cell (slice_get (elements h.nodes) cell.row) kept

abbrev pub with_remainder : History → List ElementTimes → Cell → List ElementTimes
with_remainder h rows cell = with_cell rows cell (remaining_at h cell (cell_of rows cell))

-- the rows with each of these cells trimmed in turn
abbrev pub with_remainders : History → List ElementTimes → List Cell → List ElementTimes
with_remainders h rows cells = fold (with_remainder h) rows cells

-- ---- rows of a document

-- an element's serial, and how many items its lists have
pub record ItemCounts : Type 0 where
  pub serial : ℕ
  pub begins : ℕ
  pub ends : ℕ

abbrev pub shape_of : ElementTimes → ItemCounts
shape_of row = record { serial = row.serial; begins = length row.begins; ends = length row.ends }

abbrev pub shape_in : List Node → Node → ItemCounts
shape_in nodes e = record {
  serial = e.serial;
  begins = length (begin_list nodes e);
  ends = length (end_list e);
}

-- there is a row for each element, with a list for each of its items
abbrev pub AreRowsOf : List Node → List ElementTimes → Type 0
AreRowsOf nodes rows = map shape_of rows ≡ map (shape_in nodes) (elements nodes)
