-- Elements as they were before they changed, by which a table goes back to its mark.
use Rattle.std.specs.Prelude.{◌≡◌, ◌⊎◌, ℕ, ◌+◌, List, [], ◌∷◌, ◌++◌, ◌==◌, Bool, false, IfSome, if◌then◌else◌, slice_index_or}
use Rattle.std.specs.List.{AllByRecursion, list_any}
use Rattle.smil_laws.specs.Near.{IsIntervalNear}
use Rattle.smil_rounds.specs.declared.current_rows.CurrentRow.{CurrentRow}
use Rattle.smil_nodes.specs.declared.undo.Note.{Note}
use Rattle.smil_nodes.specs.Endings.{KeptEnds, ending_in, put_ending}
use Rattle.smil_nodes.specs.Schedule.{row_put}

-- the rows of the elements, and the ends of the time children of each
pub record Kept : Type 0 where
  pub rows : List CurrentRow
  pub ends : KeptEnds

-- what was noted of an element is put back
abbrev pub note_put : Kept → Note → Kept
note_put kept noted = record {
  rows = row_put kept.rows noted.index noted.interval noted.comings;
  ends = put_ending kept.ends noted.index noted.ending;
}

-- all notes are put back, from the last to the first
abbrev pub all_back : Kept → List Note → Kept
all_back kept [] = kept
all_back kept (noted ∷ later) = note_put (all_back kept later) noted

-- the numbers of each noted interval are near
abbrev pub AreNearNotes : List Note → Type 0
AreNearNotes notes = AllByRecursion (λ (n : Note). IfSome n.interval IsIntervalNear) notes

-- whether one of the notes is of the element whose row has this index
abbrev pub has_note : List Note → ℕ → Bool
has_note notes index = list_any (λ (n : Note). n.index == index) notes

-- how many of the notes are of the element whose row has this index
abbrev pub note_count : List Note → ℕ → ℕ
note_count [] index = 0
note_count (n ∷ ns) index = (if n.index == index then 1 else 0) + note_count ns index

-- each element that is marked by the index of its row has one of the notes, and no other has any
abbrev pub AreMarked : List Bool → List Note → Type 0
AreMarked marks notes =
    (index : ℕ) → note_count notes index ≡ (if slice_index_or marks index false then 1 else 0)

-- an element as it is: the index of its row, with the row, and its ending
abbrev pub note_of : ℕ → CurrentRow → KeptEnds → Note
note_of index row ends = record {
  index = index;
  interval = row.interval;
  comings = row.comings;
  ending = ending_in ends index;
}

-- a note is put behind the others, or none
abbrev pub MayGrow : List Note → Note → List Note → Type 0
MayGrow old note new = (new ≡ old) ⊎ (new ≡ old ++ note ∷ [])
