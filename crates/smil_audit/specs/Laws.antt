-- What is accepted: the diary of a presentation, and no other list of entries.
use Rattle.std.specs.Prelude.{◌≡◌, ℕ, List, Some, None}
use Rattle.smil_model.specs.declared.diary.Entry.{Entry}
use Rattle.smil_model.specs.declared.diary.LogEntry.{LogEntry}
use Rattle.smil_model.specs.declared.document.Node.{Node}
use Rattle.smil_model.specs.happening.Resolution.{diary_of}
use Rattle.smil_model.specs.shown.Orders.{IsState, Presentation, course_of}
use Rattle.smil_laws.specs.Cut.{logged}
use Rattle.smil_audit.specs.Verdict.{first_wrong}

-- nothing is wrong in the diary of a presentation
abbrev pub OwnDiaryIsAccepted : Type 0
OwnDiaryIsAccepted =
    (p : Presentation) (diary : List Entry) → IsState p → diary_of (course_of p) ≡ Some diary
    → first_wrong p.document.nodes p.log diary p.now ≡ None

-- for a document, a log and a last moment there is one list of entries at the most
-- that names so many log entries and in which nothing is wrong
abbrev pub NoOtherIsAccepted : Type 0
NoOtherIsAccepted =
    (nodes : List Node) (log : List LogEntry) (last : ℕ) (one other : List Entry)
    → logged one ≡ logged other
    → first_wrong nodes log one last ≡ None
    → first_wrong nodes log other last ≡ None
    → one ≡ other
