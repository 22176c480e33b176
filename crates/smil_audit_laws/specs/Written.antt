-- What the order `diary` writes: an audit reads it again, and accepts it.
use Rattle.std.specs.Prelude.{◌≡◌, ℕ, ◌≤◌, pos, List, length, All, Some, None, Ok}
use Rattle.std.specs.Str.Lines.{lines}
use Rattle.smil_model.specs.declared.diary.Entry.{Entry}
use Rattle.smil_model.specs.declared.limits.TheConstants.{LINE_BYTES}
use Rattle.smil_model.specs.declared.order.Order.TheVariants as order
use Rattle.smil_model.specs.happening.Resolution.{diary_of}
use Rattle.smil_model.specs.shown.Answers.{answer_text}
use Rattle.smil_model.specs.shown.Orders.{IsState, Presentation, course_of}
use Rattle.smil_grammar.specs.Formats.{formats}
use Rattle.smil_top.specs.AuditInputs.{Recording, in_diary, recording}
use Rattle.smil_top.specs.Auditing.{audit_input, audit_of, audit_text, verdict_line}

-- what the order `diary` writes before its last line
abbrev pub written : Presentation → List ℕ
written p = answer_text formats p p order.Diary

-- a presentation in a state with this diary, of whose lines none is too long
pub record IsWritten (p : Presentation) (diary : List Entry) : Type 0 where
  pub state : IsState p
  pub resolved : diary_of (course_of p) ≡ Some diary
  pub short : All (λ (line : List ℕ). length line ≤ LINE_BYTES) (lines (written p))

-- its document, its log, its diary and its moment
abbrev pub recorded_as : Presentation → List Entry → Recording
recorded_as p diary = recording p.document p.log diary (Some (pos p.now))

-- what is written is read as the document, the log, the diary and the moment
abbrev pub WrittenDiariesAreReadAgain : Type 0
WrittenDiariesAreReadAgain =
    (p : Presentation) (diary : List Entry) → IsWritten p diary
    → audit_input (lines (written p)) ≡ Ok (in_diary (recorded_as p diary))

-- nothing is wrong in it, so the audit ends clean
abbrev pub WrittenDiariesAreRight : Type 0
WrittenDiariesAreRight =
    (p : Presentation) (diary : List Entry) → IsWritten p diary
    → audit_of (lines (written p)) ≡ Ok (record { entries = length diary; wrong = None })

-- and the answer is `yes` and the number of entries
abbrev pub WrittenDiariesAreAccepted : Type 0
WrittenDiariesAreAccepted =
    (p : Presentation) (diary : List Entry) → IsWritten p diary
    → audit_text (lines (written p)) ≡ verdict_line (length diary) None
