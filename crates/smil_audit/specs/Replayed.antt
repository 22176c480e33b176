-- A resolution made anew, as far as a diary agrees with it.
use Rattle.std.specs.Prelude.{◌≡◌, ℕ, suc, ◌<◌, pos, ℤ, ◌≤ℤ◌, ◌<ℤ◌, int_le, List, length, take, Bool, true, false, ◌&&◌, nat_le, Option, Some, None, slice_get, if◌then◌else◌}
use Rattle.smil_model.specs.declared.diary.Entry.{Entry}
use Rattle.smil_model.specs.declared.diary.LogEntry.{LogEntry}
use Rattle.smil_model.specs.document.Document.{Document}
use Rattle.smil_model.specs.diary.Diary.{History}
use Rattle.smil_model.specs.happening.Keys.{DueChange, coming, first_coming}
use Rattle.smil_model.specs.happening.Resolution.{Course, Progress, Reaches, history_at, next_step, outset}
use Rattle.smil_laws.specs.Agreement.{course_on}
use Rattle.smil_audit.specs.Entries.{agreed}

-- a document with its log up to a last moment, and how far its resolution has come
pub record Replayed : Type 0 where
  pub document : Document
  pub log : List LogEntry
  pub last : ℕ
  pub at : Progress

abbrev pub course_of : Replayed → Course
course_of r = course_on r.document.nodes r.log r.last

abbrev pub history_of : Replayed → History
history_of r = history_at (course_of r) r.at

-- nothing has happened yet
abbrev pub begun : Document → List LogEntry → ℕ → Replayed
begun document log last = record { document = document; log = log; last = last; at = outset }

-- it has come to another moment, or further
abbrev pub with_progress : Replayed → Progress → Replayed
with_progress r p = record { document = r.document; log = r.log; last = r.last; at = p }

abbrev pub at_moment : Replayed → ℕ → Replayed
at_moment r moment =
    with_progress r (record { moment = moment; heard = r.at.heard; diary = r.at.diary })

-- what comes first
abbrev pub first_at : Replayed → Option DueChange
first_at r = first_coming (coming (history_of r) (pos r.at.moment))

-- the log entry that is heard next
abbrev pub next_logged : Replayed → Option LogEntry
next_logged r = slice_get r.log r.at.heard

-- what comes, if anything, comes later than a moment
abbrev pub IsLate : Option DueChange → ℤ → Type 0
IsLate None moment = Unit {0}
IsLate (Some next) moment = moment <ℤ next.key.value

-- nothing that comes is due
abbrev pub NothingDue : Replayed → Type 0
NothingDue r = IsLate (first_at r) (pos r.at.moment)

-- time has passed and nothing else
pub record IsPassed (old new : Replayed) : Type 0 where
  pub same : new ≡ with_progress old new.at
  pub diary_is : new.at.diary ≡ old.at.diary

-- nothing comes, and nothing is logged, before a moment
pub record IsQuietUntil (r : Replayed) (moment : ℤ) : Type 0 where
  pub coming : (next : DueChange) → first_at r ≡ Some next → moment ≤ℤ next.key.value
  pub log : (entry : LogEntry) → next_logged r ≡ Some entry → moment ≤ℤ entry.moment

-- the diary is so far what is given
abbrev pub Follows : Replayed → List Entry → Type 0
Follows r given = take (length r.at.diary) given ≡ r.at.diary

-- the resolution comes to entries of which the first that differs from what is given is at this
-- index
pub record DiffersAt (r : Replayed) (given : List Entry) (index : ℕ) : Type 0 where
  pub at : Progress
  pub reached : Reaches (course_of r) at
  pub index_is : agreed given at.diary ≡ index
  pub within : index < length at.diary

-- the resolution ends with as many entries, which the diary has at its front
pub record EndsAt (r : Replayed) (given : List Entry) (same : ℕ) : Type 0 where
  pub at : Progress
  pub reached : Reaches (course_of r) at
  pub ended : next_step (course_of r) at ≡ None
  pub same_is : length at.diary ≡ same
  pub follows : take (length at.diary) given ≡ at.diary

abbrev pub AgreesBy : Replayed → List Entry → ℕ → Bool → Type 0
AgreesBy r given same true = EndsAt r given same
AgreesBy r given same false = DiffersAt r given same

-- the place behind so many entries that agree; none where these are all, and the resolution has ended
abbrev pub place_after : Bool → ℕ → ℕ → Option ℕ
place_after ended same entries = if ended && nat_le entries same then None else Some (suc same)

-- ---- the moment up to which nothing is logged

-- where the next log entry is later than a moment, that is the last one
abbrev pub IsLastOr : ℕ → ℤ → Option LogEntry → Type 0
IsLastOr last moment None = moment ≡ pos last
IsLastOr last moment (Some entry) = int_le entry.moment moment ≡ false → moment ≡ pos last

pub record IsUntil (r : Replayed) (moment : ℤ) : Type 0 where
  pub from : pos r.at.moment ≤ℤ moment
  pub within : moment ≤ℤ pos r.last
  pub quiet : (entry : LogEntry) → next_logged r ≡ Some entry → pos r.at.moment <ℤ moment → moment ≤ℤ entry.moment
  pub edge : IsLastOr r.last moment (next_logged r)
