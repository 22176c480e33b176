-- Items whose rows are noted, so that all can go back to a mark.
use Rattle.std.specs.Prelude.{◌≡◌, ◌⊎◌, List, true}
use Rattle.std.specs.List.{AllByRecursion}
use Rattle.smil_model.specs.diary.Diary.{History}
use Rattle.smil_instance_rows.specs.declared.cell.Cell.{Cell}
use Rattle.smil_instance_rows.specs.declared.item_times.InstanceTime.{InstanceTime}
use Rattle.smil_instance_rows.specs.declared.notes.RowNote.{RowNote}
use Rattle.smil_instance_rows.specs.Rows.{ElementTimes, from_place}
use Rattle.smil_instance_rows.specs.Places.{last_alone}
use Rattle.smil_instance_rows.specs.Changes.{cell_of}
use Rattle.smil_instance_rows.specs.Notes.{is_noted}
use Rattle.smil_instances.specs.declared.remainder.Remainder.{Remainder}
use Rattle.smil_instances.specs.declared.remainder.Remainder.TheVariants.{Last, From, All}
use Rattle.smil_instances.specs.Intake.{remaining_at}

-- the instance times that are kept
abbrev pub kept_by : Remainder → List InstanceTime → List InstanceTime
kept_by Last kept = last_alone kept
kept_by (From place) kept = from_place place kept
kept_by All kept = kept

-- all is still kept for the item
abbrev pub KeepsAll : History → List ElementTimes → Cell → Type 0
KeepsAll h rows cell = remaining_at h cell (cell_of rows cell) ≡ cell_of rows cell

abbrev pub KeepAll : History → List ElementTimes → List Cell → Type 0
KeepAll h rows cells = AllByRecursion (KeepsAll h rows) cells

-- the row of the item is noted, or all is still kept for it
abbrev pub IsNoted : History → List ElementTimes → List RowNote → Cell → Type 0
IsNoted h rows notes cell = (is_noted notes cell.row ≡ true) ⊎ KeepsAll h rows cell

abbrev pub AreNoted : History → List ElementTimes → List RowNote → List Cell → Type 0
AreNoted h rows notes cells = AllByRecursion (IsNoted h rows notes) cells
