-- What is accepted: of the entries that an input gives for a document, a log and a last moment, the
-- diary to which these are resolved, and no other list.
use Rattle.std.specs.Prelude.{◌≡◌, ℕ, ℤ, pos, List, Some, None, Ok}
use Rattle.smil_model.specs.declared.diary.Entry.{Entry}
use Rattle.smil_model.specs.declared.diary.LogEntry.{LogEntry}
use Rattle.smil_model.specs.document.Document.{Document}
use Rattle.smil_model.specs.happening.Resolution.{diary_of}
use Rattle.smil_model.specs.shown.Orders.{IsState, Presentation, course_of}
use Rattle.smil_top.specs.AuditInputs.{in_diary, recording}
use Rattle.smil_top.specs.Auditing.{audit_input, audit_text, verdict_line}

-- the answer to an input with these lines is `yes`
abbrev pub IsAccepted : List (List ℕ) → Type 0
IsAccepted lines = (entries : ℕ) × (audit_text lines ≡ verdict_line entries None)

-- the lines are those of a document, of entries that name this log, and of a last moment
abbrev pub IsReadAs : List (List ℕ) → Document → List LogEntry → List Entry → ℤ → Type 0
IsReadAs lines document log entries now =
    audit_input lines ≡ Ok (in_diary (recording document log entries (Some now)))

-- of two inputs with one document, one log and one last moment that are accepted, the entries are
-- the same
abbrev pub NoOtherDiaryIsAccepted : Type 0
NoOtherDiaryIsAccepted =
    (document : Document) (log : List LogEntry) (now : ℤ) (one other : List (List ℕ))
    (entries others : List Entry)
    → IsReadAs one document log entries now
    → IsReadAs other document log others now
    → IsAccepted one
    → IsAccepted other
    → entries ≡ others

-- of an input with the document, the log and the moment of a presentation that is accepted,
-- the entries are the presentation's diary
abbrev pub OnlyOwnDiaryIsAccepted : Type 0
OnlyOwnDiaryIsAccepted =
    (p : Presentation) (diary : List Entry) (lines : List (List ℕ)) (entries : List Entry)
    → IsState p
    → diary_of (course_of p) ≡ Some diary
    → IsReadAs lines p.document p.log entries (pos p.now)
    → IsAccepted lines
    → entries ≡ diary
