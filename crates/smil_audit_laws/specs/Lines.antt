-- What the lines of a diary say: each is read again as the entry that it was written for.
use Rattle.std.specs.Prelude.{◌≡◌, ℕ, ◌<◌, ◌^◌, ℤ, nat_abs, List, [], ◌∷◌, map, All, true, Option, Some, None, slice_get, Ok}
use Rattle.std.specs.Str.Lines.{lines}
use Rattle.smil_model.specs.declared.diary.Entry.{Entry}
use Rattle.smil_model.specs.declared.diary.LogEntry.{LogEntry}
use Rattle.smil_model.specs.declared.diary.Step.{Step}
use Rattle.smil_model.specs.declared.diary.Step.TheVariants.{Began, Repeated, Ended, Cut, Paused, Resumed, Deferred, Passed, Logged}
use Rattle.smil_model.specs.diary.Logs.{is_serial, may_happen}
use Rattle.smil_model.specs.document.Values.{is_clock}
use Rattle.smil_model.specs.happening.Resolution.{diary_of}
use Rattle.smil_model.specs.shown.Lines.{entry_line, now_line}
use Rattle.smil_model.specs.shown.Orders.{IsState, Presentation, course_of}
use Rattle.smil_script.specs.declared.entries.DiaryLine.{DiaryLine}
use Rattle.smil_script.specs.declared.entries.DiaryLine.TheVariants.{Happened, Heard, Now}
use Rattle.smil_script.specs.declared.entries.TheConstants.{VALUE_DIGITS}
use Rattle.smil_script.specs.Entries.{diary_line_of}

-- ---- what can be written and read again

-- an element with its value on its clock: a serial, and a value of at most so many digits
pub record HasValue (who : ℕ) (value : ℤ) : Type 0 where
  pub serial : is_serial who ≡ true
  pub size : nat_abs value < 10 ^ VALUE_DIGITS

-- a step by its element and its value; one that names a log entry by what came from outside
abbrev pub IsPlainStep : List LogEntry → Step → Type 0
IsPlainStep log (Began who begin) = HasValue who begin
IsPlainStep log (Repeated who start) = HasValue who start
IsPlainStep log (Ended who end') = HasValue who end'
IsPlainStep log (Cut who) = is_serial who ≡ true
IsPlainStep log (Paused who) = is_serial who ≡ true
IsPlainStep log (Resumed who) = is_serial who ≡ true
IsPlainStep log (Deferred who begin) = HasValue who begin
IsPlainStep log (Passed who begin) = HasValue who begin
IsPlainStep log (Logged place) =
    (named : LogEntry) × (slice_get log place ≡ Some named) × (may_happen named.what ≡ true)

pub record IsPlain (log : List LogEntry) (entry : Entry) : Type 0 where
  pub moment : is_clock entry.moment ≡ true
  pub step : IsPlainStep log entry.step

-- each entry of the diary of a presentation is so
abbrev pub DiariesArePlain : Type 0
DiariesArePlain =
    (p : Presentation) (diary : List Entry) → IsState p → diary_of (course_of p) ≡ Some diary
    → All (IsPlain p.log) diary

-- ---- what a line says

-- the log entry that a step names
abbrev pub named_by : List LogEntry → Step → Option LogEntry
named_by log (Logged place) = slice_get log place
named_by log _ = None

-- what came from outside has the moment of the entry that names it
abbrev pub said_by : Entry → Option LogEntry → DiaryLine
said_by entry None = Happened entry
said_by entry (Some named) = Heard (record { moment = entry.moment; what = named.what })

abbrev pub said : List LogEntry → Entry → DiaryLine
said log entry = said_by entry (named_by log entry.step)

-- ---- the laws

-- what is written for an entry is one line, which says that entry
abbrev pub EntryLinesAreReadAgain : Type 0
EntryLinesAreReadAgain =
    (log : List LogEntry) (entry : Entry) → IsPlain log entry
    → map diary_line_of (lines (entry_line log entry)) ≡ Ok (said log entry) ∷ []

abbrev pub NowLinesAreReadAgain : Type 0
NowLinesAreReadAgain =
    (now : ℤ) → is_clock now ≡ true → map diary_line_of (lines (now_line now)) ≡ Ok (Now now) ∷ []
