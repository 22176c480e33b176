-- What has happened in a presentation, and what is read off it.
use Rattle.std.specs.Prelude.{◌≡◌, ℕ, ◌≤◌, ℤ, pos, ◌≤ℤ◌, List, ◌∷◌, [], ◌++◌, length, take, Option, None}
use Rattle.smil_model.specs.declared.times.TheConstants.{HORIZON}
use Rattle.smil_model.specs.declared.limits.TheConstants.{DIARY_ENTRIES}
use Rattle.smil_model.specs.declared.diary.Entry.{Entry}
use Rattle.smil_model.specs.declared.diary.LogEntry.{LogEntry}
use Rattle.smil_model.specs.declared.diary.Step.TheVariants.{Logged}
use Rattle.smil_model.specs.document.Document.{Document}
use Rattle.smil_model.specs.document.Valid.{IsValid}
use Rattle.smil_model.specs.diary.Diary.{History}
use Rattle.smil_model.specs.diary.Lawful.{IsLawful}
use Rattle.smil_model.specs.diary.Clocks.{until}
use Rattle.smil_model.specs.diary.Diary.{with_entry}
use Rattle.smil_laws.specs.Near.{AllNear, HasNear}
use Rattle.smil_laws.specs.Cut.{IsNamedBelow, NamesBelow}

-- a document, its log and its diary; and, where there is a mark,
-- how long log and diary were when it was made
pub record MarkedHistory : Type 0 where
  pub document : Document
  pub log : List LogEntry
  pub diary : List Entry
  pub marked : Option (ℕ × ℕ)

abbrev pub history_of : MarkedHistory → History
history_of past = record { nodes = past.document.nodes; log = past.log; diary = past.diary }

-- what has happened, where there is no mark
abbrev pub unmarked : Document → List LogEntry → List Entry → MarkedHistory
unmarked document log diary =
    record { document = document; log = log; diary = diary; marked = None }

-- the past without what came after its first entries
abbrev pub front : MarkedHistory → ℕ → History
front past len = record { nodes = past.document.nodes; log = past.log; diary = take len past.diary }

-- what can have happened to a document: a lawful diary with numbers near 0,
-- which names entries of the log
pub record IsPossible
    (document : Document) (log : List LogEntry) (diary : List Entry) : Type 0 where
  pub valid : IsValid document
  pub lawful : IsLawful (record { nodes = document.nodes; log = log; diary = diary })
  pub near : AllNear diary
  pub named : NamesBelow (length log) diary
  pub few : length diary ≤ DIARY_ENTRIES

-- an entry that may follow
pub record MayFollow (past : MarkedHistory) (entry : Entry) : Type 0 where
  pub lawful : IsLawful (with_entry (history_of past) entry)
  pub near : HasNear entry.step
  pub named : IsNamedBelow (length past.log) entry.step

-- a moment that is not before the last entry, up to the horizon
pub record IsPresent (past : MarkedHistory) (now : ℤ) : Type 0 where
  pub past_is : until now past.diary ≡ past.diary
  pub from : pos 0 ≤ℤ now
  pub within : now ≤ℤ HORIZON

abbrev pub logged_entry : ℕ → ℤ → Entry
logged_entry place moment = record { moment = moment; step = Logged place }

-- a log entry that may be heard
pub record MayHear (past : MarkedHistory) (entry : LogEntry) : Type 0 where
  pub lawful : IsLawful (record {
    nodes = past.document.nodes;
    log = past.log
        ++ entry ∷ [];
    diary = past.diary ++ logged_entry (length past.log) entry.moment ∷ [];
  })
  pub near : AllNear past.diary
  pub named : NamesBelow (length past.log) past.diary

abbrev pub with_diary : MarkedHistory → List Entry → MarkedHistory
with_diary past diary =
    record { document = past.document; log = past.log; diary = diary; marked = past.marked }

-- the log entry was heard
abbrev pub with_heard : MarkedHistory → LogEntry → MarkedHistory
with_heard past entry = record {
  document = past.document;
  log = past.log ++ entry ∷ [];
  diary = past.diary ++ logged_entry (length past.log) entry.moment ∷ [];
  marked = past.marked;
}

-- the past at the mark
abbrev pub at_mark : MarkedHistory → ℕ × ℕ → MarkedHistory
at_mark past mark = record {
  document = past.document;
  log = take mark.0 past.log;
  diary = take
      mark.1 past.diary;
  marked = None;
}
