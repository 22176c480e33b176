-- Rows as they were before they changed, by which all go back to a mark.
use Rattle.std.specs.Prelude.{◌≡◌, ◌⊎◌, ℕ, zero, suc, ◌≤◌, List, [], ◌∷◌, ◌==◌, Bool, true, false, Option, Some, None, slice_index_or}
use Rattle.std.specs.List.{AllByRecursion, list_any}
use Rattle.smil_instance_rows.specs.declared.cell.Add.{Add}
use Rattle.smil_instance_rows.specs.declared.notes.RowNote.{RowNote}
use Rattle.smil_instance_rows.specs.Rows.{ElementTimes, rows_before}

-- the row with the instance times of another
abbrev pub row_with_times : ElementTimes → ElementTimes → ElementTimes
row_with_times row other =
    record { serial = row.serial; begins = other.begins; ends = other.ends }

-- the instance times of a row in the place of those of the row with an index
abbrev pub times_put : List ElementTimes → ℕ → ElementTimes → List ElementTimes
times_put [] index row = []
times_put (r ∷ rs) zero row = row_with_times r row ∷ rs
times_put (r ∷ rs) (suc index) row = r ∷ times_put rs index row

-- rows that were noted, the last one at the end, and, where a mark stands, the place from which on
-- instance times came after it
pub record MarkedRows : Type 0 where
  pub notes : List RowNote
  pub mark : Option ℕ

abbrev pub no_mark : MarkedRows
no_mark = record { notes = []; mark = None }

-- all that was noted is put back, from the last to the first
abbrev pub all_put : List ElementTimes → List RowNote → List ElementTimes
all_put rows [] = rows
all_put rows (note ∷ later) = times_put (all_put rows later) note.index note.row

-- what came after the mark is taken out
abbrev pub cut_to : Option ℕ → List ElementTimes → List ElementTimes
cut_to None rows = rows
cut_to (Some place) rows = rows_before place rows

-- the rows after going back to the mark
abbrev pub rows_back : List ElementTimes → MarkedRows → List ElementTimes
rows_back rows noted = cut_to noted.mark (all_put rows noted.notes)

-- whether the row with this index is noted
abbrev pub is_noted : List RowNote → ℕ → Bool
is_noted notes index = list_any (λ (n : RowNote). n.index == index) notes

-- each row that is marked by its index is noted
abbrev pub AreMarked : List Bool → List RowNote → Type 0
AreMarked marks notes =
    (index : ℕ) → slice_index_or marks index false ≡ true → is_noted notes index ≡ true

-- where there is a mark, which stays, going back gives the same
pub record GoesBackTheSame (before : List ElementTimes) (noted : MarkedRows)
    (after : List ElementTimes) (now : MarkedRows) : Type 0 where
  pub mark : now.mark ≡ noted.mark
  pub back : (place : ℕ) → noted.mark ≡ Some place → rows_back after now ≡ rows_back before noted

-- rows were noted, and none is noted no longer
pub record HasNoted (rows : List ElementTimes) (noted now : MarkedRows) : Type 0 where
  pub same : GoesBackTheSame rows noted rows now
  pub still : (index : ℕ) → is_noted noted.notes index ≡ true → is_noted now.notes index ≡ true

-- an added time goes where all go back: it is of a place after the mark, or its row is noted
abbrev pub Goes : List RowNote → ℕ → Add → Type 0
Goes notes place add = (place ≤ add.kept.place) ⊎ (is_noted notes add.cell.row ≡ true)

-- so does each, where there is a mark
abbrev pub EachGoes : MarkedRows → List Add → Type 0
EachGoes noted adds =
    (place : ℕ) → noted.mark ≡ Some place → AllByRecursion (Goes noted.notes place) adds
