-- The answer of an audit to its input: the first fault of a line, or the verdict on the diary.
use Rattle.std.specs.Prelude.{◌≡◌, ◌≢◌, ◌⊎◌, ℕ, suc, ℤ, nat_abs, ◌≤◌, List, [], ◌∷◌, ◌++◌, length, Bool, true, false, not, ◌||◌, ◌&&◌, Option, Some, None, Result, Ok, Err, IfOk, IfErr, IfSome, nat_lt, max, codes, is_ok, is_some, if◌then◌else◌}
use Rattle.smil_model.specs.declared.diary.Entry.{Entry}
use Rattle.smil_model.specs.declared.diary.LogEntry.{LogEntry}
use Rattle.smil_model.specs.declared.diary.Step.TheVariants.{Logged}
use Rattle.smil_model.specs.declared.limits.TheConstants.{DIARY_ENTRIES}
use Rattle.smil_model.specs.declared.order.Refusal.{Refusal}
use Rattle.smil_model.specs.declared.order.Refusal.TheVariants.{LongLine, BadOutline, NotACommand, UnfinishedLoad, DiaryFull, Memory}
use Rattle.smil_model.specs.document.Document.{Document}
use Rattle.smil_model.specs.document.Valid.{IsValid}
use Rattle.smil_model.specs.document.Values.{is_clock}
use Rattle.smil_model.specs.shown.Lines.{refusal_line}
use Rattle.smil_grammar.specs.Results.{◌>>=◌}
use Rattle.smil_grammar.specs.Scripts.{is_blank}
use Rattle.smil_grammar.specs.Outlines.{Outline, no_lines, header_of, with_line, ended}
use Rattle.smil_script.specs.declared.entries.DiaryLine.{DiaryLine}
use Rattle.smil_script.specs.declared.entries.DiaryLine.TheVariants.{Happened, Heard, Now}
use Rattle.smil_script.specs.Entries.{diary_line_of}
use Rattle.smil_script.specs.Loads.{ends_load}
use Rattle.smil_audit.specs.Verdict.{first_wrong}
use Rattle.smil_top.specs.declared.audit.AuditInput.{AuditInput}
use Rattle.smil_top.specs.declared.audit.AuditInput.TheVariants as input
use Rattle.smil_top.specs.declared.audit.RecordedDiary.{RecordedDiary}
use Rattle.smil_top.specs.declared.audit.Told.{Told}
use Rattle.smil_top.specs.declared.fault.Fault.{Fault}
use Rattle.smil_top.specs.declared.status.Status.{Status}
use Rattle.smil_top.specs.declared.status.Status.TheVariants as status
use Rattle.smil_top.specs.Cut.{is_short}
use Rattle.smil_top.specs.Answers.{at_line}
use Rattle.smil_top.specs.Summary.{count_line}

-- ---- one line

-- behind the outline of a document, before the first line of its diary
abbrev pub unrecorded : Document → RecordedDiary
unrecorded document = record { doc = document; log = []; entries = []; last = None }

-- a line of the outline: its header first, then node lines up to `%%`
abbrev pub outline_line : Outline → List ℕ → Result AuditInput Refusal
outline_line outline line =
    if is_some outline.next && ends_load line
    then (ended outline >>= λ document. Ok (input.Diary (unrecorded document)))
    else (if is_some outline.next || is_some (header_of line)
    then (with_line outline line >>= λ more. Ok (input.Outline more))
    else Err BadOutline)

-- the diary with one entry more, while there is room
abbrev pub with_entry : RecordedDiary → List LogEntry → Entry → Result RecordedDiary Refusal
with_entry diary log entry =
    if nat_lt (length diary.entries) DIARY_ENTRIES
    then Ok (record diary { log = log; entries = diary.entries ++ entry ∷ [] })
    else Err DiaryFull

-- with what a line says: what came from outside goes into the log, and its entry names its place
abbrev pub recorded : RecordedDiary → DiaryLine → Result RecordedDiary Refusal
recorded diary (Happened entry) = with_entry diary diary.log entry
recorded diary (Heard entry) =
    with_entry diary (diary.log ++ entry ∷ [])
    (record { moment = entry.moment; step = Logged (length diary.log) })
recorded diary (Now moment) = Ok (record diary { last = Some moment })

-- a line of the diary; nothing stands behind the last moment
abbrev pub diary_line : RecordedDiary → Option ℤ → List ℕ → Result RecordedDiary Refusal
diary_line diary (Some now) line = Err NotACommand
diary_line diary None line = diary_line_of line >>= recorded diary

-- a line that says something
abbrev pub said_line : AuditInput → List ℕ → Result AuditInput Refusal
said_line (input.Outline outline) line = outline_line outline line
said_line (input.Diary diary) line =
    diary_line diary diary.last line >>= λ more. Ok (input.Diary more)

-- a long line is refused whatever it says, and one that has no answer is passed over
abbrev pub audit_line : AuditInput → List ℕ → Result AuditInput Refusal
audit_line before line =
    if is_short line then (if is_blank line then Ok before else said_line before line)
    else Err LongLine

-- ---- all lines

-- with one more line, of this number; past a fault it stays
abbrev pub read_on : ℕ → List ℕ → Result AuditInput Fault → Result AuditInput Fault
read_on number line reading = reading >>= λ before. at_line number (audit_line before line)

-- line by line, after so many lines
abbrev pub audit_lines : ℕ → Result AuditInput Fault → List (List ℕ) → Result AuditInput Fault
audit_lines count reading [] = reading
audit_lines count reading (line ∷ lines) =
    audit_lines (suc count) (read_on (suc count) line reading) lines

-- what these lines say, or their first fault
abbrev pub audit_input : List (List ℕ) → Result AuditInput Fault
audit_input lines = audit_lines 0 (Ok (input.Outline no_lines)) lines

-- how many entries a diary has, and the first place that is wrong
pub record Verdict : Type 0 where
  pub entries : ℕ
  pub wrong : Option ℕ

-- the verdict on a diary up to its last moment
abbrev pub verdict_on : RecordedDiary → ℤ → Verdict
verdict_on diary now = record {
  entries = length diary.entries;
  wrong = first_wrong diary.doc.nodes diary.log diary.entries (nat_abs now);
}

-- the number of the last of so many lines, or 1 where there is none
abbrev pub last_of : ℕ → ℕ
last_of count = max count 1

-- an input of so many lines ends without a last moment
abbrev pub unfinished : ℕ → Fault
unfinished count = record { line = last_of count; refusal = UnfinishedLoad }

abbrev pub verdict_by : ℕ → RecordedDiary → Option ℤ → Result Verdict Fault
verdict_by count diary None = Err (unfinished count)
verdict_by count diary (Some now) = Ok (verdict_on diary now)

-- the verdict on an input of so many lines
abbrev pub verdict_of : ℕ → AuditInput → Result Verdict Fault
verdict_of count (input.Outline outline) = Err (unfinished count)
verdict_of count (input.Diary diary) = verdict_by count diary diary.last

-- what is told of such an input, or its first fault
abbrev pub told_by : ℕ → Result AuditInput Fault → Result Verdict Fault
told_by count reading = reading >>= verdict_of count

-- what is told of an input with these lines
abbrev pub audit_of : List (List ℕ) → Result Verdict Fault
audit_of lines = told_by (length lines) (audit_input lines)

-- ---- for which lines memory is taken

-- a line that says something: not for one that stands where a header is due and is none, and not
-- for one behind the last moment
abbrev pub said_takes : AuditInput → List ℕ → Bool
said_takes (input.Outline outline) line = is_some outline.next || is_some (header_of line)
said_takes (input.Diary diary) line = not (is_some diary.last)

-- not for one that is too long, and not for one that has no answer
abbrev pub line_takes : AuditInput → List ℕ → Bool
line_takes before line = is_short line && not (is_blank line) && said_takes before line

-- past a fault for none
abbrev pub reading_takes : Result AuditInput Fault → List ℕ → Bool
reading_takes (Ok before) line = line_takes before line
reading_takes (Err fault) line = false

-- whether it is taken for one of these lines, after so many lines
abbrev pub lines_take : ℕ → Result AuditInput Fault → List (List ℕ) → Bool
lines_take count reading [] = false
lines_take count reading (line ∷ lines) =
    reading_takes reading line || lines_take (suc count) (read_on (suc count) line reading) lines

-- for one of the lines of an input
abbrev pub input_takes : List (List ℕ) → Bool
input_takes lines = lines_take 0 (Ok (input.Outline no_lines)) lines

-- for an input with these lines, or for the verdict on it
abbrev pub takes_memory : List (List ℕ) → Bool
takes_memory lines = input_takes lines || is_ok (audit_of lines)

-- ---- what is told

-- `yes` and how many entries there are, or `no` and the first wrong place
abbrev pub verdict_line : ℕ → Option ℕ → List ℕ
verdict_line entries None = count_line (codes "yes") entries
verdict_line entries (Some place) = count_line (codes "no") place

abbrev pub audit_text_by : Result Verdict Fault → List ℕ
audit_text_by (Ok verdict) = verdict_line verdict.entries verdict.wrong
audit_text_by (Err fault) = refusal_line fault.line fault.refusal

-- the one line of an audit of an input with these lines, if memory suffices
abbrev pub audit_text : List (List ℕ) → List ℕ
audit_text lines = audit_text_by (audit_of lines)

-- how an audit ends: clean exactly with `yes`
abbrev pub verdict_status : Option ℕ → Status
verdict_status None = status.Clean
verdict_status (Some place) = status.Refused

abbrev pub audit_status_by : Result Verdict Fault → Status
audit_status_by (Ok verdict) = verdict_status verdict.wrong
audit_status_by (Err fault) = status.Refused

abbrev pub audit_status : List (List ℕ) → Status
audit_status lines = audit_status_by (audit_of lines)

-- the line of an audit for which memory ran out
abbrev pub memory_line : List ℕ
memory_line = refusal_line 1 Memory

-- ---- what calls give

-- want of memory stands at the first line, wherever it came
abbrev pub no_memory : Fault
no_memory = record { line = 1; refusal = Memory }

-- a diary that `check` takes, whose log has at most as many entries
pub record IsRecorded (diary : RecordedDiary) : Type 0 where
  pub valid : IsValid diary.doc
  pub few : length diary.entries ≤ DIARY_ENTRIES
  pub logged : length diary.log ≤ length diary.entries
  pub last : IfSome diary.last (λ moment. is_clock moment ≡ true)

abbrev pub IsSound : AuditInput → Type 0
IsSound (input.Outline outline) = Unit {0}
IsSound (input.Diary diary) = IsRecorded diary

-- what was read is this reading, whose fault isn't want of memory; or memory ran out that is taken
abbrev pub ReadsAs : Bool → Result AuditInput Fault → Result AuditInput Fault → Type 0
ReadsAs takes given reading =
    ((takes ≡ true) × (given ≡ Err no_memory))
    ⊎ ((reading ≡ given) × IfErr given (λ fault. fault.refusal ≢ Memory))

-- what is told is this line, with this status
pub record Tells (told : Told) (line : List ℕ) (ended : Status) : Type 0 where
  pub line_is : told.line ≡ line
  pub status_is : told.status ≡ ended

-- it is the answer, or that memory ran out that is taken
abbrev pub TellsOf : Bool → Told → Result Verdict Fault → Type 0
TellsOf takes told answer =
    ((takes ≡ true) × Tells told memory_line status.Memory)
    ⊎ Tells told (audit_text_by answer) (audit_status_by answer)
