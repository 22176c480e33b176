-- How what is kept of each element grows, cell by cell.
use Rattle.std.specs.Prelude.{◌≡◌, ℕ, ◌+◌, List, [], ◌∷◌, ◌++◌, length, map, count_by, Bool, true, false, ◌&&◌, ◌||◌, ◌==◌, nat_lt, if◌then◌else◌, Option, Some, None, slice_get}
use Rattle.smil_model.specs.declared.document.Node.{Node}
use Rattle.smil_model.specs.declared.document.Edge.{Edge}
use Rattle.smil_model.specs.document.Document.{elements, is_element, serial_of, time_parent}
use Rattle.smil_model.specs.document.Defaults.{begin_list, end_list}
use Rattle.smil_model.specs.declared.order.Who.{Who}
use Rattle.smil_model.specs.shown.Orders.{node_of}
use Rattle.smil_model.specs.reach.Reach.{is_option}
use Rattle.smil_instances.specs.declared.source.Source.{Source}
use Rattle.smil_instance_rows.specs.declared.cell.Cell.{Cell}
use Rattle.smil_instances.specs.Sources.{concerns_cell, is_cell, is_same_edge, source_at, source_of}
use Rattle.smil_instances.specs.Dependents.{ElementDependents, cells_in, source_in, sources_of}

-- ---- rows

-- a row with one more cell that a birth can concern, and any entry where the cell names the element
abbrev pub with_cell : ElementDependents → Bool → Cell → ElementDependents
with_cell row true cell =
    record row { readers = row.readers ++ cell ∷ []; births = row.births ++ cell ∷ [] }
with_cell row false cell = record row { births = row.births ++ cell ∷ [] }

-- a row with these sources, and no cell yet
abbrev pub without_cells : List Source → List Source → ElementDependents
without_cells begins ends = record { begins = begins; ends = ends; readers = []; births = [] }

-- the sources of an element's items, and no cell yet
abbrev pub fresh_row : List Node → Node → ElementDependents
fresh_row nodes e =
    without_cells (map (source_of nodes e.serial) (begin_list nodes e))
    (map (source_of nodes e.serial) (end_list e))

abbrev pub fresh_rows : List Node → List ElementDependents
fresh_rows nodes = map (fresh_row nodes) (elements nodes)

abbrev pub sources_under : Edge → Option ElementDependents → List Source
sources_under side None = []
sources_under side (Some row) = sources_of row side

abbrev pub sources_at : List ElementDependents → ℕ → Edge → List Source
sources_at rows row side = sources_under side (slice_get rows row)

abbrev pub AreSourcesOf : List Node → List ElementDependents → Type 0
AreSourcesOf nodes rows = (cell : Cell) → source_in rows cell ≡ source_at nodes cell

-- ---- serials

-- the index leads from each serial to its place in the list
abbrev pub IsIndex : List ℕ → (ℕ → Option ℕ) → Type 0
IsIndex whos index = (row who : ℕ) → is_option row (index who) ≡ is_option who (slice_get whos row)

abbrev pub only_element : Option Node → Option Node
only_element None = None
only_element (Some n) = if is_element n then Some n else None

-- the node, if it is an element
abbrev pub element_of : List Node → Who → Option Node
element_of nodes who = only_element (node_of nodes who)

-- there is an element at this place, and this is the serial of its time parent
abbrev pub IsParentAt : List Node → Option ℕ → ℕ → Type 0
IsParentAt nodes above row =
    (x : Node) × (slice_get (elements nodes) row ≡ Some x)
    × (above ≡ serial_of (time_parent nodes x.serial))

-- ---- places

-- cells that pass: of the first items of one side, of one side, of one element,
-- and of the first elements
abbrev pub is_of_side : ℕ → Edge → Cell → Bool
is_of_side row side d = (d.row == row) && is_same_edge d.side side

abbrev pub first_of_side : ℕ → Edge → ℕ → (Cell → Bool) → Cell → Bool
first_of_side row side count test d = (is_of_side row side d && nat_lt d.item count) && test d

abbrev pub of_side : ℕ → Edge → (Cell → Bool) → Cell → Bool
of_side row side test d = is_of_side row side d && test d

abbrev pub of_row : ℕ → (Cell → Bool) → Cell → Bool
of_row row test d = (d.row == row) && test d

abbrev pub of_first_rows : ℕ → (Cell → Bool) → Cell → Bool
of_first_rows count test d = nat_lt d.row count && test d

-- ---- growth

abbrev pub one_if : Bool → ℕ
one_if test = if test then 1 else 0

-- the sources stay, and each list has once more exactly the cells that pass
pub record Takes (nodes : List Node) (test : Bool → ℕ → Cell → Bool)
    (old new : List ElementDependents) : Type 0 where
  pub sources : (row : ℕ) (side : Edge) → sources_at new row side ≡ sources_at old row side
  pub rows : length new ≡ length old
  pub cells :
      (row : ℕ) (x : Node) (is_birth : Bool) (d : Cell) → slice_get (elements nodes) row ≡ Some x
      → count_by (is_cell d) (cells_in new row is_birth)
      ≡ count_by (is_cell d) (cells_in old row is_birth) + one_if (test is_birth x.serial d)

-- the cell goes to the births of one element, if there is one, and where it names that element
-- to all its entries
abbrev pub goes_to : Option ℕ → Bool → Cell → Bool → ℕ → Cell → Bool
goes_to who is_named cell b x d = (b || is_named) && is_option x who && is_cell d cell

-- the cell goes to the lists of the elements that can concern it
abbrev pub goes_to_all : List Node → Cell → Bool → ℕ → Cell → Bool
goes_to_all nodes cell b x d = is_cell d cell && concerns_cell nodes b x d

-- so do the first items of one side, all of one side, all of one element,
-- and those of the first elements
abbrev pub first_items : List Node → ℕ → Edge → ℕ → Bool → ℕ → Cell → Bool
first_items nodes row side count b x d = first_of_side row side count (concerns_cell nodes b x) d

abbrev pub side_items : List Node → ℕ → Edge → Bool → ℕ → Cell → Bool
side_items nodes row side b x d = of_side row side (concerns_cell nodes b x) d

abbrev pub row_items : List Node → ℕ → Bool → ℕ → Cell → Bool
row_items nodes row b x d = of_row row (concerns_cell nodes b x) d

abbrev pub first_rows : List Node → ℕ → Bool → ℕ → Cell → Bool
first_rows nodes count b x d = of_first_rows count (concerns_cell nodes b x) d
