-- What the times of each item follow from, and whose entries concern it.
use Rattle.std.specs.Prelude.{◌≡◌, ℕ, List, count_by, Bool, true, false, ◌&&◌, ◌||◌, ◌==◌, if◌then◌else◌, Option, Some, None, slice_get}
use Rattle.smil_model.specs.declared.document.Node.{Node}
use Rattle.smil_model.specs.declared.document.Edge.{Edge}
use Rattle.smil_model.specs.declared.document.Edge.TheVariants.{Begin, End}
use Rattle.smil_model.specs.declared.document.Item.{Item}
use Rattle.smil_model.specs.declared.document.Item.TheVariants.{Offset, Sync, Event, Repeat, Key, Indefinite}
use Rattle.smil_model.specs.document.Document.{elements, element_named, previous_in_seq, target}
use Rattle.smil_model.specs.document.Defaults.{items_of}
use Rattle.smil_model.specs.happening.Queue.{is_child_of}
use Rattle.smil_model.specs.reach.Reach.{is_option}
use Rattle.smil_instances.specs.declared.source.Source.{Source}
use Rattle.smil_instances.specs.declared.source.Source.TheVariants as source
use Rattle.smil_instance_rows.specs.declared.cell.Cell.{Cell}

-- ---- the source of an item

-- the begin or the end of an element, or another source where there is no element
abbrev pub syncbase_or : Source → Edge → Option Node → Source
syncbase_or without edge None = without
syncbase_or without edge (Some x) = source.Syncbase x.serial edge

-- the events or repeats of an element
abbrev pub eventbase : Option ℕ → Source
eventbase None = source.Nothing
eventbase (Some x) = source.Eventbase x

-- what the times of an item of e follow from: an offset alone counts from the end of the child
-- before in a seq, and else from the start of the time parent's iteration
abbrev pub source_of : List Node → ℕ → Item → Source
source_of nodes e (Offset offset) = syncbase_or source.Start End (previous_in_seq nodes e)
source_of nodes e (Sync who edge offset) = syncbase_or source.Nothing edge (element_named nodes who)
source_of nodes e (Event who name offset) = eventbase (target nodes e who)
source_of nodes e (Repeat who n offset) = eventbase (target nodes e who)
source_of nodes e (Key key offset) = source.Key key
source_of nodes e Indefinite = source.Nothing

-- ---- whose entries concern an item

-- the element whose begins and ends, or whose events, the source names
abbrev pub base_of : Source → Option ℕ
base_of source.Start = None
base_of (source.Syncbase x edge) = Some x
base_of (source.Eventbase x) = Some x
base_of (source.Key key) = None
base_of source.Nothing = None

-- whether a birth of the time children of p can change what is kept for an item of e with this
-- source
abbrev pub is_reset_with : List Node → ℕ → ℕ → Source → Bool
is_reset_with nodes p e source.Start = is_child_of nodes p e
is_reset_with nodes p e (source.Syncbase x edge) = is_child_of nodes p e || is_child_of nodes p x
is_reset_with nodes p e (source.Eventbase x) = is_child_of nodes p e
is_reset_with nodes p e (source.Key key) = is_child_of nodes p e
is_reset_with nodes p e source.Nothing = false

-- whether an entry on x, which is a birth of the time children of x or not,
-- can change what is kept for an item of e with this source
abbrev pub is_concerned : List Node → Bool → ℕ → ℕ → Source → Bool
is_concerned nodes is_birth x e s =
    is_option x (base_of s) || (is_birth && is_reset_with nodes x e s)

-- whether a press of this key can change what is kept for an item with this source
abbrev pub is_keyed : Option ℕ → Source → Bool
is_keyed (Some key) (source.Key own) = own == key
is_keyed _ s = false

-- ---- by cells

abbrev pub item_under : List Node → Cell → Option Node → Option Item
item_under nodes cell None = None
item_under nodes cell (Some e) = slice_get (items_of nodes cell.side e) cell.item

-- the item of a cell
abbrev pub item_at : List Node → Cell → Option Item
item_at nodes cell = item_under nodes cell (slice_get (elements nodes) cell.row)

abbrev pub source_by : List Node → ℕ → Option Item → Source
source_by nodes e None = source.Nothing
source_by nodes e (Some item) = source_of nodes e item

abbrev pub source_under : List Node → Cell → Option Node → Source
source_under nodes cell None = source.Nothing
source_under nodes cell (Some e) = source_by nodes e.serial (item_at nodes cell)

-- the source of a cell's item; nothing where there is no such item
abbrev pub source_at : List Node → Cell → Source
source_at nodes cell = source_under nodes cell (slice_get (elements nodes) cell.row)

abbrev pub concerns_under : List Node → Bool → ℕ → Cell → Option Node → Bool
concerns_under nodes is_birth x cell None = false
concerns_under nodes is_birth x cell (Some e) =
    is_concerned nodes is_birth x e.serial (source_at nodes cell)

-- whether an entry on x can change what is kept for a cell's item
abbrev pub concerns_cell : List Node → Bool → ℕ → Cell → Bool
concerns_cell nodes is_birth x cell =
    concerns_under nodes is_birth x cell (slice_get (elements nodes) cell.row)

abbrev pub is_same_edge : Edge → Edge → Bool
is_same_edge Begin Begin = true
is_same_edge End End = true
is_same_edge _ _ = false

abbrev pub is_cell : Cell → Cell → Bool
is_cell c d = (c.row == d.row) && (is_same_edge c.side d.side && (c.item == d.item))

-- these are exactly the cells that pass, each once
abbrev pub AreThose : (Cell → Bool) → List Cell → Type 0
AreThose test cells = (c : Cell) → count_by (is_cell c) cells ≡ (if test c then 1 else 0)
