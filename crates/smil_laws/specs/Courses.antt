-- What courses come to: their diary, and the same by a longer log, up to a later last moment,
-- and at an earlier one.
use Rattle.std.specs.Prelude.{◌≡◌, ◌<◌, ◌≤◌, length, Some, None, ℕ, pos, int_le, List, ◌++◌, true, ◌+◌}
use Rattle.smil_model.specs.declared.limits.TheConstants.{DIARY_ENTRIES}
use Rattle.smil_model.specs.happening.Resolution.{Course, Progress, next_step, Reaches, diary_of}
use Rattle.std.specs.List.{AllByRecursion}
use Rattle.smil_model.specs.declared.diary.LogEntry.{LogEntry}
use Rattle.smil_model.specs.document.Document.{Document}
use Rattle.smil_model.specs.document.Valid.{IsNumberedTree}
use Rattle.smil_model.specs.diary.Clocks.{until}
use Rattle.smil_model.specs.diary.Diary.{History}
use Rattle.smil_laws.specs.Agreement.{course_on}
use Rattle.smil_laws.specs.Cut.{NamesBelow, logged}
use Rattle.smil_model.specs.declared.diary.Entry.{Entry}
use Rattle.smil_model.specs.happening.Keys.{DueChange, coming, first_coming}

-- a resolution that has ended with no more entries than may be has given the diary
abbrev pub EndedIsDiary : Type 0
EndedIsDiary =
    (c : Course) (p : Progress) → Reaches c p → next_step c p ≡ None
    → length p.diary ≤ DIARY_ENTRIES
    → diary_of c ≡ Some p.diary

-- one that comes to more entries gives none
abbrev pub TooLongIsFull : Type 0
TooLongIsFull =
    (c : Course) (p : Progress) → Reaches c p → DIARY_ENTRIES < length p.diary → diary_of c ≡ None

-- what a course comes to, a course with more log entries,
-- none of them before the moment that it came to, and with a later last moment comes to as well
abbrev pub ReachesFurther : Type 0
ReachesFurther =
    (document : Document) (log more : List LogEntry) (last later : ℕ) (p : Progress)
    → IsNumberedTree document
    → Reaches (course_on document.nodes log last) p
    → AllByRecursion (λ (x : LogEntry). int_le (pos p.moment) x.moment ≡ true) more
    → last ≤ later
    → Reaches (course_on document.nodes (log ++ more) later) p

-- of what a course comes to no entry is later than its moment,
-- and the log entries that it names are those that were heard
pub record IsPast (p : Progress) : Type 0 where
  pub entries : until (pos p.moment) p.diary ≡ p.diary
  pub named : NamesBelow p.heard p.diary
  pub count : logged p.diary ≡ p.heard

abbrev pub ReachedIsPast : Type 0
ReachedIsPast =
    (document : Document) (log : List LogEntry) (last : ℕ) (p : Progress)
    → Reaches (course_on document.nodes log last) p → IsPast p

-- what a course comes to, it came to at each earlier moment with the entries up to that moment
abbrev pub ReachesBack : Type 0
ReachesBack =
    (document : Document) (log : List LogEntry) (last earlier : ℕ) (p : Progress)
    → Reaches (course_on document.nodes log last) p
    → earlier ≤ p.moment
    → (r : Progress) × (r.moment ≡ earlier) × (r.diary ≡ until (pos earlier) p.diary)
    × Reaches (course_on document.nodes log last) r

-- the whole log heard by a moment
abbrev pub heard_by : List LogEntry → List Entry → ℕ → Progress
heard_by log diary moment = record { moment = moment; heard = length log; diary = diary }

-- nothing comes before a later moment
abbrev pub IsQuietUntil : History → ℕ → ℕ → Type 0
IsQuietUntil h now later =
    (c : DueChange) → first_coming (coming h (pos now)) ≡ Some c
    → int_le (pos later) c.key.value ≡ true

-- then the course up to that moment comes to it with the same diary
abbrev pub ReachesOverQuiet : Type 0
ReachesOverQuiet =
    (document : Document) (log : List LogEntry) (now n : ℕ) (diary : List Entry)
    → IsNumberedTree document
    → Reaches (course_on document.nodes log now) (heard_by log diary now)
    → IsQuietUntil (record { nodes = document.nodes; log = log; diary = diary }) now (now + n)
    → Reaches (course_on document.nodes log (now + n)) (heard_by log diary (now + n))
