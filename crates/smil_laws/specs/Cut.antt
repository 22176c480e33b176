-- What a course reaches does not depend on what is logged later, nor on the moments that come later.
use Rattle.std.specs.Prelude.{◌≡◌, ℕ, ◌<◌, pos, List, take, filter, length, Bool, true, false}
use Rattle.std.specs.List.{AllByRecursion}
use Rattle.smil_model.specs.declared.diary.Entry.{Entry}
use Rattle.smil_model.specs.declared.diary.LogEntry.{LogEntry}
use Rattle.smil_model.specs.declared.diary.Step.{Step}
use Rattle.smil_model.specs.declared.diary.Step.TheVariants.{Logged}
use Rattle.smil_model.specs.document.Document.{Document}
use Rattle.smil_model.specs.document.Valid.{IsNumberedTree}
use Rattle.smil_model.specs.happening.Resolution.{Progress, Reaches}
use Rattle.smil_laws.specs.Agreement.{course_on}
use Rattle.smil_model.specs.diary.Diary.{last_moment}

-- the course with the part of the log that was heard by then, up to that moment, comes as far
abbrev pub ReachesWhenCut : Type 0
ReachesWhenCut =
    (document : Document) (log : List LogEntry) (last : ℕ) (q : Progress) → IsNumberedTree document
    → Reaches (course_on document.nodes log last) q
    → Reaches (course_on document.nodes (take q.heard log) q.moment) q

-- a step names no log entry from this place on, and nor does any step of the diary
abbrev pub IsNamedBelow : ℕ → Step → Type 0
IsNamedBelow place (Logged named) = named < place
IsNamedBelow place _ = Unit {0}

abbrev pub NamesBelow : ℕ → List Entry → Type 0
NamesBelow place diary = AllByRecursion (λ (x : Entry). IsNamedBelow place x.step) diary

-- how many log entries the diary names
abbrev pub is_logged : Step → Bool
is_logged (Logged place) = true
is_logged _ = false

abbrev pub logged : List Entry → ℕ
logged diary = length (filter (λ (x : Entry). is_logged x.step) diary)

-- so a diary that is reached is reached by the part of the log that it names,
-- up to the moment of its last entry
abbrev pub ReachesByItsLog : Type 0
ReachesByItsLog =
    (document : Document) (log : List LogEntry) (last : ℕ) (q : Progress) → IsNumberedTree document
    → Reaches (course_on document.nodes log last) q
    → (r : Progress) × (r.diary ≡ q.diary) × (pos r.moment ≡ last_moment r.diary)
    × Reaches (course_on document.nodes (take (logged r.diary) log) r.moment) r
