-- How the cells of each access key grow, cell by cell.
use Rattle.std.specs.Prelude.{◌≡◌, ℕ, ◌+◌, List, count_by, Bool, ◌&&◌, Some}
use Rattle.smil_model.specs.declared.document.Edge.{Edge}
use Rattle.smil_instances.specs.declared.source.Source.{Source}
use Rattle.smil_instance_rows.specs.declared.cell.Cell.{Cell}
use Rattle.smil_instances.specs.Sources.{is_cell, is_keyed}
use Rattle.smil_instances.specs.Dependents.{ElementDependents, keyed_in, source_in}
use Rattle.smil_instances.specs.Spread.{first_of_side, of_first_rows, of_row, of_side, one_if}

-- each list has once more exactly the cells that pass
pub record TakesKeys (test : ℕ → Cell → Bool) (old new : List (List Cell)) : Type 0 where
  pub cells :
      (key : ℕ) (d : Cell)
      → count_by (is_cell d) (keyed_in new key)
      ≡ count_by (is_cell d) (keyed_in old key) + one_if (test key d)

-- the cell goes to the list of the key that is its source, if it is one
abbrev pub goes_to_key : Source → Cell → ℕ → Cell → Bool
goes_to_key source cell key d = is_cell d cell && is_keyed (Some key) source

-- whether a cell's item waits for this key, by the sources in the rows
abbrev pub is_for_key : List ElementDependents → ℕ → Cell → Bool
is_for_key rows key cell = is_keyed (Some key) (source_in rows cell)

-- so do the first items of one side, all of one side, all of one element,
-- and those of the first elements
abbrev pub first_keys : List ElementDependents → ℕ → Edge → ℕ → ℕ → Cell → Bool
first_keys rows row side count key d = first_of_side row side count (is_for_key rows key) d

abbrev pub side_keys : List ElementDependents → ℕ → Edge → ℕ → Cell → Bool
side_keys rows row side key d = of_side row side (is_for_key rows key) d

abbrev pub row_keys : List ElementDependents → ℕ → ℕ → Cell → Bool
row_keys rows row key d = of_row row (is_for_key rows key) d

abbrev pub first_row_keys : List ElementDependents → ℕ → ℕ → Cell → Bool
first_row_keys rows count key d = of_first_rows count (is_for_key rows key) d
