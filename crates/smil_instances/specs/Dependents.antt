-- What is kept of a document: for each element the sources of its items,
-- and the cells of the items that an entry on it can concern;
-- for each access key the cells of the items that wait for it.
use Rattle.std.specs.Prelude.{◌≡◌, ℕ, List, [], Bool, true, false, Option, Some, None, slice_get}
use Rattle.smil_model.specs.declared.document.Node.{Node}
use Rattle.smil_model.specs.declared.document.Edge.{Edge}
use Rattle.smil_model.specs.declared.document.Edge.TheVariants.{Begin, End}
use Rattle.smil_model.specs.document.Document.{elements}
use Rattle.smil_instances.specs.declared.source.Source.{Source}
use Rattle.smil_instances.specs.declared.source.Source.TheVariants as source
use Rattle.smil_instance_rows.specs.declared.cell.Cell.{Cell}
use Rattle.smil_instances.specs.Sources.{AreThose, concerns_cell, is_keyed, source_at}

-- of an element: the sources of its begin and end items, the items that name it,
-- and the items that its begin or repeat can concern,
-- which are those that name it and those for which it is a birth
pub record ElementDependents : Type 0 where
  pub begins : List Source
  pub ends : List Source
  pub readers : List Cell
  pub births : List Cell

abbrev pub sources_of : ElementDependents → Edge → List Source
sources_of row Begin = row.begins
sources_of row End = row.ends

abbrev pub source_or : Option Source → Source
source_or None = source.Nothing
source_or (Some s) = s

abbrev pub source_under : Cell → Option ElementDependents → Source
source_under cell None = source.Nothing
source_under cell (Some row) = source_or (slice_get (sources_of row cell.side) cell.item)

-- the source of a cell's item; nothing where there is no such item
abbrev pub source_in : List ElementDependents → Cell → Source
source_in dependents cell = source_under cell (slice_get dependents cell.row)

abbrev pub cells_of : Bool → Option ElementDependents → List Cell
cells_of is_birth None = []
cells_of true (Some row) = row.births
cells_of false (Some row) = row.readers

-- the cells that an entry on the element at a place can concern
abbrev pub cells_in : List ElementDependents → ℕ → Bool → List Cell
cells_in dependents row is_birth = cells_of is_birth (slice_get dependents row)

abbrev pub keyed_under : Option (List Cell) → List Cell
keyed_under None = []
keyed_under (Some cells) = cells

-- the cells of the items that wait for a key
abbrev pub keyed_in : List (List Cell) → ℕ → List Cell
keyed_in keys key = keyed_under (slice_get keys key)

-- what is kept of each element, and of each key from 0
pub record DocumentDependents : Type 0 where
  pub rows : List ElementDependents
  pub keys : List (List Cell)

-- whether a press of this key can change what is kept for a cell's item
abbrev pub keys_cell : List Node → ℕ → Cell → Bool
keys_cell nodes key cell = is_keyed (Some key) (source_at nodes cell)

-- these are the sources and the cells of a document
pub record AreDependentsOf (nodes : List Node) (dependents : DocumentDependents) : Type 0 where
  pub sources : (cell : Cell) → source_in dependents.rows cell ≡ source_at nodes cell
  pub cells :
      (row : ℕ) (x : Node) (is_birth : Bool) → slice_get (elements nodes) row ≡ Some x
      → AreThose (concerns_cell nodes is_birth x.serial) (cells_in dependents.rows row is_birth)
  pub keyed : (key : ℕ) → AreThose (keys_cell nodes key) (keyed_in dependents.keys key)
