-- What was read of an audit's input, in words that laws of other crates can name.
use Rattle.std.specs.Prelude.{ℤ, List, [], Option, Result}
use Rattle.smil_model.specs.declared.diary.Entry.{Entry}
use Rattle.smil_model.specs.declared.diary.LogEntry.{LogEntry}
use Rattle.smil_model.specs.document.Document.{Document}
use Rattle.smil_grammar.specs.Outlines.{Outline}
use Rattle.smil_top.specs.declared.audit.AuditInput.{AuditInput}
use Rattle.smil_top.specs.declared.audit.AuditInput.TheVariants as input
use Rattle.smil_top.specs.declared.audit.RecordedDiary.{RecordedDiary}
use Rattle.smil_top.specs.declared.fault.Fault.{Fault}

abbrev pub Input : Type 0
Input = AuditInput

-- an input, or its first fault
abbrev pub Reading : Type 0
Reading = Result AuditInput Fault

-- a document, with what was read of its log, of its diary and of its last moment
abbrev pub Recording : Type 0
Recording = RecordedDiary

abbrev pub recording : Document → List LogEntry → List Entry → Option ℤ → Recording
recording document log entries last =
    record { doc = document; log = log; entries = entries; last = last }

-- an input up to a line of its outline, and up to one behind it
abbrev pub in_outline : Outline → Input
in_outline outline = input.Outline outline

abbrev pub in_diary : Recording → Input
in_diary diary = input.Diary diary

-- the log and the entries so far
abbrev pub log_of : Input → List LogEntry
log_of (input.Outline outline) = []
log_of (input.Diary diary) = diary.log

abbrev pub entries_of : Input → List Entry
entries_of (input.Outline outline) = []
entries_of (input.Diary diary) = diary.entries
