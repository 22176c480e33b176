-- Loads and closes that are given by calls, and where a call was refused.
use Rattle.std.specs.Prelude.{◌≡◌, ◌⊎◌, ◌<◌, ◌==◌, ℕ, ℤ, negsuc, List, ◌++◌, length, codes, Option, None, Some, unwrap_or, Result, if◌then◌else◌}
use Rattle.smil_model.specs.declared.limits.TheConstants.{LINE_BYTES}
use Rattle.smil_model.specs.shown.Lines.{refusal_column}
use Rattle.smil_top.specs.declared.fault.Fault.{Fault}
use Rattle.smil_top.specs.declared.held.CallRefusal.{CallRefusal}
use Rattle.smil_top.specs.declared.held.Held.{Held}
use Rattle.smil_top.specs.Answers.{close_answer}
use Rattle.smil_top.specs.Cut.{CutLines}
use Rattle.smil_top.specs.GivenLoads.{IsLikeLoad, LoadsInto, load_behind}
use Rattle.smil_top.specs.Held.{IsHeld}
use Rattle.smil_top.specs.Recorded.{ClosesIn, HasPresentations, IsLikeLine, SaysClose, SaysWhetherTaken}
use Rattle.smil_top.specs.Session.{Session}
use Rattle.smil_top.specs.Transcript.{TranscriptState}
use Rattle.tenphsar.specs.Orders.{RunsOut, code_given}
use Rattle.tenphsar.specs.declared.faults.FaultRecord.{FaultRecord}

-- the line that opens the load of a name, at an instant where its text isn't empty
abbrev pub head_of : List ℕ → List ℕ → List ℕ
head_of name start =
    if length start == 0 then codes "load " ++ name
    else ((codes "load " ++ name) ++ codes " at ") ++ start

-- the load was given to the session
pub record IsLoaded (code : ℤ) (head outline : List ℕ) (before after : Held) : Type 0 where
  pub answered : Result (Unit {0}) CallRefusal
  pub code_is : code ≡ code_given answered
  pub loaded : (session : Session) → HasPresentations before session
      → LoadsInto answered before after session (load_behind before.number head outline)
  pub like : (cut : CutLines) (told : TranscriptState) → IsHeld before cut told
      → IsLikeLoad answered before after cut told head outline

-- it was given, or its line is longer than a line may be; unless memory ran out before
abbrev pub Loads : ℤ → List ℕ → List ℕ → Held → Held → Type 0
Loads code head outline before after =
    IsLoaded code head outline before after
    ⊎ (((code ≡ negsuc 2) × (after ≡ before) × (LINE_BYTES < length head))
    ⊎ RunsOut code before after)

-- the presentation of this name was closed, or there is none
pub record Unloads (code : ℤ) (name : List ℕ) (before after : Held) : Type 0 where
  pub answered : Result (Unit {0}) CallRefusal
  pub code_is : code ≡ code_given answered
  pub closed : (session : Session) (number : ℕ) → HasPresentations before session
      → ClosesIn answered before after session (close_answer session number name)
  pub like : (cut : CutLines) (told : TranscriptState) (line : List ℕ) → IsHeld before cut told
      → SaysClose line name → IsLikeLine answered before after cut told line
  pub taken : SaysWhetherTaken answered before after

-- where the last call was refused: the line and the column, 0 where there is none
abbrev pub fault_record : Option Fault → FaultRecord
fault_record None = record { line = 0; column = 0 }
fault_record (Some fault) =
    record { line = fault.line; column = unwrap_or (refusal_column fault.refusal) 0 }
