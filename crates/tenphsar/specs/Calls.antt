-- What each call does with the session of a handle.
use Rattle.std.specs.Prelude.{◌≡◌, ◌⊎◌, ℕ, ℤ, pos, negsuc, ◌≤◌, ◌==◌, IfSome, List, [], ◌++◌, drop, length, min, take, Option, None, Some, option_and_then, option_map, slice_get, unwrap_or, if◌then◌else◌}
use Rattle.smil_model.specs.shown.Orders.{Presentation}
use Rattle.smil_house.specs.Next.{NothingChangesBefore, next_of}
use Rattle.smil_top.specs.declared.held.Held.{Held}
use Rattle.smil_top.specs.Cut.{CutLines, cut_of, with_line}
use Rattle.smil_top.specs.Held.{HasTaken, IsHeld, answer_of, last_number}
use Rattle.smil_top.specs.Session.{presentation_of}
use Rattle.smil_top.specs.Transcript.{TranscriptState, untold}

-- the byte that a refusal's line begins with, `!`
abbrev pub refused_byte : ℕ
refused_byte = 33

-- by the first byte of an answer: 0 where it is empty, 2 where it is a refusal's line, and else 1
abbrev pub code_by : Option ℕ → ℤ
code_by None = pos 0
code_by (Some byte) = if byte == refused_byte then pos 2 else pos 1

-- the code of an answer
abbrev pub code_of : List ℕ → ℤ
code_of answer = code_by (slice_get answer 0)

-- a session is opened, or memory ran out
abbrev pub Opens : ℤ → Option Held → Type 0
Opens code (Some held) = (code ≡ pos 0) × IsHeld held (cut_of []) untold
Opens code None = code ≡ negsuc 0

-- a line is taken in; or it was one too many, and all is as before
abbrev pub Takes : ℤ → List ℕ → Held → CutLines → TranscriptState → Held → Type 0
Takes code line before cut told after =
    (HasTaken after (with_line cut line) told × (code ≡ code_of (answer_of after)))
    ⊎ ((code ≡ negsuc 1) × (after ≡ before) × (last_number ≤ cut.count))

-- the same, whatever was told so far
abbrev pub TakesIn : ℤ → List ℕ → Held → Held → Type 0
TakesIn code line before after =
    (cut : CutLines) (told : TranscriptState)
    → IsHeld before cut told
    → Takes code line before cut told after

-- as much of a list is copied as there is room for, and what stands behind it stays
pub record Copies {A : Type 0} (copied : ℕ) (given old new : List A) : Type 0 where
  pub as_fits : copied ≡ min (length given) (length old)
  pub new_is : new ≡ take copied given ++ drop copied old

-- the moment of the presentation of this name, -1 where there is none
abbrev pub TellsMoment : ℤ → List ℕ → Held → Type 0
TellsMoment moment name held =
    (cut : CutLines) (told : TranscriptState)
    → IsHeld held cut told
    → moment ≡ unwrap_or (option_map (λ (p : Presentation). pos p.now)
    (presentation_of name told.session)) (negsuc 0)

-- the moment at which something comes next in it, before which nothing changes;
-- -1 where nothing comes, or there is none
abbrev pub TellsNext : ℤ → List ℕ → Held → Type 0
TellsNext moment name held =
    (cut : CutLines) (told : TranscriptState)
    → IsHeld held cut told
    → (moment ≡ unwrap_or (option_and_then next_of (presentation_of name told.session)) (negsuc 0))
    × IfSome (presentation_of name told.session) (λ p. NothingChangesBefore (next_of p) p)
