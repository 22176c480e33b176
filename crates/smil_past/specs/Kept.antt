-- Readings of the first entries of a diary that are kept.
use Rattle.std.specs.Prelude.{◌≡◌, ℕ, ◌≤◌, List, All, length, take, Option}
use Rattle.smil_model.specs.declared.diary.Entry.{Entry}
use Rattle.smil_model.specs.declared.diary.LogEntry.{LogEntry}
use Rattle.smil_model.specs.document.Document.{Document}
use Rattle.smil_past.specs.declared.chronicle.Chronicle.{Chronicle}
use Rattle.smil_past.specs.declared.kept.KeptReadings.{KeptReadings}
use Rattle.smil_instance_rows.specs.Notes.{MarkedRows}
use Rattle.smil_past.specs.Readings.{Holds}
use Rattle.smil_past.specs.Chronicle.{BacksUp, Tells}

-- these are the readings of first entries of a diary
pub record IsKept (document : Document) (log : List LogEntry) (diary : List Entry)
    (kept : KeptReadings) : Type 0 where
  pub within : kept.len ≤ length diary
  pub holds : Holds document log (take kept.len diary) kept.readings

abbrev pub AreKept : Document → List LogEntry → List Entry → List KeptReadings → Type 0
AreKept document log diary kept = All (IsKept document log diary) kept

-- none of these readings are of more entries than there are
abbrev pub AreWithin : ℕ → List KeptReadings → Type 0
AreWithin most kept = All (λ (k : KeptReadings). k.len ≤ most) kept

-- the chronicle has all entries, and what is kept is of them
pub record IsBroughtUp (document : Document) (log : List LogEntry) (entries : List Entry)
    (c : Chronicle) (kept : List KeptReadings) : Type 0 where
  pub book_is : c.book ≡ entries
  pub tells : Tells document log c
  pub kept_are : AreKept document log entries kept

-- a document with its log, a chronicle, notes to go back by, a mark, and the readings of first
-- entries that are kept
pub record KeepsPast
    (document : Document) (log : List LogEntry) (c : Chronicle) (noted : MarkedRows)
    (mark : Option (ℕ × ℕ)) (kept : List KeptReadings) : Type 0 where
  pub tells : Tells document log c
  pub backs_up : BacksUp document log c.book c.readings noted mark
  pub kept_are : AreKept document log c.book kept
