-- Laws of resolved diaries, and of the groups of entries that they are made of.
use Rattle.std.specs.Prelude.{◌≡◌, ℕ, ℤ, pos, ◌<◌, ◌≤ℤ◌, List, [], ◌∷◌, ◌++◌, length, Bool, true, false}
use Rattle.smil_model.specs.declared.diary.Entry.{Entry}
use Rattle.smil_model.specs.declared.diary.LogEntry.{LogEntry}
use Rattle.smil_model.specs.declared.diary.Step.{Step}
use Rattle.smil_model.specs.declared.diary.Step.TheVariants.{Began, Repeated}
use Rattle.smil_model.specs.declared.times.TheConstants.{HORIZON}
use Rattle.smil_model.specs.document.Document.{Document}
use Rattle.smil_model.specs.document.Valid.{IsNumberedTree}
use Rattle.smil_model.specs.diary.Diary.{History, is_active, is_alive}
use Rattle.smil_model.specs.diary.Lawful.{IsLawful}
use Rattle.smil_model.specs.happening.Keys.{Change}
use Rattle.smil_model.specs.happening.Groups.{group}
use Rattle.smil_model.specs.happening.Resolution.{outset, history_at, after_steps}
use Rattle.smil_laws.specs.Agreement.{course_on}

-- the history after so many steps of the resolution of a document and a log, up to a last moment
abbrev pub history_after : Document → List LogEntry → ℕ → ℕ → History
history_after document log last steps =
    history_at (course_on document.nodes log last)
    (after_steps (course_on document.nodes log last) steps outset)

-- the diary is lawful after each step of each resolution whose last moment is not above the horizon
abbrev pub ResolvedIsLawful : Type 0
ResolvedIsLawful =
    (document : Document) (log : List LogEntry) (last steps : ℕ) → IsNumberedTree document
    → pos last ≤ℤ HORIZON
    → IsLawful (history_after document log last steps)

-- and each active element is alive, so its time parent is active
abbrev pub ResolvedChildrenLive : Type 0
ResolvedChildrenLive =
    (document : Document) (log : List LogEntry) (last steps : ℕ) (serial : ℕ)
    → IsNumberedTree document
    → is_active (history_after document log last steps).diary serial ≡ true
    → is_alive (history_after document log last steps) serial ≡ true

-- a group has at least one entry
abbrev pub GroupHasEntry : Type 0
GroupHasEntry =
    (h : History) (moment : ℤ) (serial : ℕ) (change : Change)
    → 0 < length (group h moment serial change)

-- whether the step is a begin or a repeat
abbrev pub is_opening : Step → Bool
is_opening (Began who begin) = true
is_opening (Repeated who start) = true
is_opening _ = false

-- no entry of a group follows a begin or a repeat in it
abbrev pub GroupEndsWithBegin : Type 0
GroupEndsWithBegin =
    (h : History) (moment : ℤ) (serial : ℕ) (change : Change) (before : List Entry) (entry : Entry)
    (after : List Entry)
    → group h moment serial change ≡ before ++ entry ∷ after
    → is_opening entry.step ≡ true
    → after ≡ []
