-- What the answers of a reader say together: they are the lines of the bytes that were taken.
use Rattle.std.specs.Prelude.{◌≡◌, ℕ, ◌<◌, ◌≤◌, List, [], ◌∷◌, ◌++◌, length, Option, None, Some}
use Rattle.std.specs.Str.Lines.{lines}
use Rattle.smil_outside.specs.declared.line.TheConstants.{INPUT_BYTES}
use Rattle.smil_model.specs.declared.limits.TheConstants.{LINE_BYTES}
use Rattle.smil_outside.specs.declared.line.Line.{Line}
use Rattle.smil_outside.specs.declared.line.Line.TheVariants.{Bytes, LongLine, End, InputTooLong, ReadFault}
use Rattle.smil_outside.specs.declared.line.Ending.{Ending}
use Rattle.smil_outside.specs.declared.line.Ending.TheVariants as ending
use Rattle.smil_outside.specs.Lines.{whole_lines}
use Rattle.smil_outside.specs.ReaderState.{ReaderState, within_limit}

-- `answered` are the lines of the bytes that came, by how the input ended; before its end, they are
-- the first lines of what came, whatever comes next
abbrev pub AreLines : Option Ending → List ℕ → List ℕ → List (List ℕ) → Type 0
AreLines None came pending answered =
    (more : List ℕ) → (lines (within_limit 0 came ++ more) ≡ answered ++ lines (pending ++ more))
    × (whole_lines (within_limit 0 came ++ more) ≡ answered ++ whole_lines (pending ++ more))
AreLines (Some ending.End) came pending answered =
    (lines came ≡ answered) × (length came ≤ INPUT_BYTES)
AreLines (Some ending.InputTooLong) came pending answered =
    (whole_lines (within_limit 0 came) ≡ answered) × (INPUT_BYTES < length came)
AreLines (Some ending.ReadFault) came pending answered =
    (whole_lines (within_limit 0 came) ≡ answered) × (length came ≤ INPUT_BYTES)

-- the reader has taken `came` in all, and answered these lines
pub record HasAnswered
    (reader : ReaderState) (came : List ℕ) (answered : List (List ℕ)) : Type 0 where
  pub taken : reader.taken ≡ length came
  pub numbered : reader.number ≡ length answered
  pub lines : AreLines reader.closed came reader.pending answered

-- the lines that one answer is for: the one that the reader shows,
-- one that is too long to be shown, or none
abbrev pub IsAnswerFor : Line → ReaderState → List (List ℕ) → Type 0
IsAnswerFor Bytes reader answered =
    (answered ≡ reader.line ∷ []) × (length reader.line ≤ LINE_BYTES)
IsAnswerFor LongLine reader answered =
    (line : List ℕ) × (answered ≡ line ∷ []) × (LINE_BYTES < length line)
IsAnswerFor End reader answered = answered ≡ []
IsAnswerFor InputTooLong reader answered = answered ≡ []
IsAnswerFor ReadFault reader answered = answered ≡ []
