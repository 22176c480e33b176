-- Chronicles, and how they go back to a mark.
use Rattle.std.specs.Prelude.{◌≡◌, ℕ, ◌≤◌, max, List, [], length, take, Option, Some}
use Rattle.smil_model.specs.declared.diary.Entry.{Entry}
use Rattle.smil_model.specs.declared.diary.LogEntry.{LogEntry}
use Rattle.smil_model.specs.document.Document.{Document}
use Rattle.smil_instance_rows.specs.Notes.{MarkedRows, rows_back}
use Rattle.smil_instances.specs.Intake.{history_of}
use Rattle.smil_instances.specs.SettledTimes.{settled_rows}
use Rattle.smil_past.specs.declared.chronicle.Chronicle.{Chronicle}
use Rattle.smil_past.specs.declared.readings.Readings.{Readings}
use Rattle.smil_past.specs.Past.{IsPossible}
use Rattle.smil_past.specs.Readings.{Holds, AreReadingsOf}

-- its diary is possible with this document and this log, and its readings are of these
abbrev pub Tells : Document → List LogEntry → Chronicle → Type 0
Tells document log c = Holds document log c.book c.readings

-- nothing has happened to the document yet
pub record TellsNothing (document : Document) (log : List LogEntry) (c : Chronicle) : Type 0 where
  pub nothing : c.book ≡ []
  pub readings_are : AreReadingsOf c.readings document log []

-- it has the first entries of a diary
pub record Lags
    (document : Document) (log : List LogEntry) (diary : List Entry) (c : Chronicle) : Type 0 where
  pub within : length c.book ≤ length diary
  pub first : c.book ≡ take (length c.book) diary
  pub tells : Tells document log c

-- the place from which on instance times came after a mark behind so many entries: what is given
-- before the first entry is of place 0 too
abbrev pub place_after : ℕ → ℕ
place_after len = max len 1

-- what had happened when the mark was made was possible, and going back by the notes gives the
-- instance times of that
pub record HoldsAt (document : Document) (log : List LogEntry) (diary : List Entry)
    (readings : Readings) (noted : MarkedRows) (mark : ℕ × ℕ) : Type 0 where
  pub log_within : mark.0 ≤ length log
  pub diary_within : mark.1 ≤ length diary
  pub possible : IsPossible document (take mark.0 log) (take mark.1 diary)
  pub place : noted.mark ≡ Some (place_after mark.1)
  pub rows : rows_back readings.instances.rows noted
      ≡ settled_rows (history_of document (take mark.0 log) (take mark.1 diary))

-- what is needed to go back, where there is a mark
abbrev pub BacksUp : Document → List LogEntry → List Entry → Readings → MarkedRows
    → Option (ℕ × ℕ) → Type 0
BacksUp document log diary readings noted marked =
    (mark : ℕ × ℕ) → marked ≡ Some mark → HoldsAt document log diary readings noted mark
