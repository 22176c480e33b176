-- Rows with one cell changed, and with many.
use Rattle.std.specs.Prelude.{◌≡◌, ℕ, ◌<◌, take, List, [], ◌∷◌, ◌++◌, get_or, set, length, fold}
use Rattle.smil_instance_rows.specs.declared.item_times.InstanceTime.{InstanceTime}
use Rattle.smil_instance_rows.specs.declared.cell.Cell.{Cell}
use Rattle.smil_instance_rows.specs.declared.cell.Add.{Add}
use Rattle.smil_instance_rows.specs.Rows.{ElementTimes}
use Rattle.smil_instance_rows.specs.Cells.{side_of, list_of, with_list}
use Rattle.smil_instance_rows.specs.Places.{IsNotAfter}

abbrev pub no_row : ElementTimes
no_row = record { serial = 0; begins = []; ends = [] }

abbrev pub row_at : List ElementTimes → ℕ → ElementTimes
row_at rows row = get_or rows row no_row

pub record HasCell (rows : List ElementTimes) (cell : Cell) : Type 0 where
  pub row : cell.row < length rows
  pub item : cell.item < length (side_of (row_at rows cell.row) cell.side)

abbrev pub cell_of : List ElementTimes → Cell → List InstanceTime
cell_of rows cell = list_of (row_at rows cell.row) cell.side cell.item

abbrev pub with_cell : List ElementTimes → Cell → List InstanceTime → List ElementTimes
with_cell rows cell kept =
    set rows cell.row (with_list (row_at rows cell.row) cell.side cell.item kept)

-- each cell in turn with its instance time added
abbrev pub with_add : List ElementTimes → Add → List ElementTimes
with_add rows add = with_cell rows add.cell (cell_of rows add.cell ++ add.kept ∷ [])

abbrev pub with_adds : List ElementTimes → List Add → List ElementTimes
with_adds rows adds = fold with_add rows adds

-- each add has its cell, and is of no earlier place than what is kept there
abbrev pub Fits : List ElementTimes → List Add → Type 0
Fits rows [] = Unit {0}
Fits rows (add ∷ adds) =
    HasCell rows add.cell × IsNotAfter add.kept.place (cell_of rows add.cell)
    × Fits (with_add rows add) adds

-- the rows are some others with the first adds made
pub record IsMade (rows : List ElementTimes) (adds : List Add) (made : ℕ)
    (before : List ElementTimes) : Type 0 where
  pub fit : Fits before adds
  pub are : rows ≡ with_adds before (take made adds)

abbrev pub SomeMade : List ElementTimes → List Add → ℕ → Type 0
SomeMade rows adds made = (before : List ElementTimes) × IsMade rows adds made before

-- whatever the rows were before the first adds, they are so again
abbrev pub IsAsBefore : List ElementTimes → List Add → ℕ → List ElementTimes → Type 0
IsAsBefore rows adds made new =
    (before : List ElementTimes) → IsMade rows adds made before → new ≡ before
