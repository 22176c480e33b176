-- What a line reader has read, and what it answers.
use Rattle.std.specs.Prelude.{◌≡◌, ℕ, ◌+◌, ◌-◌, ◌<◌, ◌≤◌, ◌⊎◌, List, [], ◌++◌, length, take, Option, None, Some}
use Rattle.std.specs.Io.KnownBytes.{Consumes, IsAtEnd}
use Rattle.smil_outside.specs.declared.line.TheConstants.{INPUT_BYTES}
use Rattle.smil_model.specs.declared.limits.TheConstants.{LINE_BYTES}
use Rattle.smil_outside.specs.declared.line.Line.{Line}
use Rattle.smil_outside.specs.declared.line.Line.TheVariants.{Bytes, LongLine, End, InputTooLong, ReadFault}
use Rattle.smil_outside.specs.declared.line.Ending.{Ending}
use Rattle.smil_outside.specs.declared.line.Ending.TheVariants as ending
use Rattle.smil_outside.specs.Lines.{HasNoLineFeed, StartsWithLine, IsUnendedLine}

-- what is known of a line reader between calls
pub record ReaderState : Type 0 where
  -- the bytes taken that no answer has covered
  pub pending : List ℕ
  -- how many bytes were taken
  pub taken : ℕ
  -- the last line, empty after an answer other than `Bytes`
  pub line : List ℕ
  -- the number of the last line answered, 0 before the first
  pub number : ℕ
  -- how the input ended, which every later call answers
  pub closed : Option Ending

-- a reader that has read nothing
abbrev pub fresh_reading : ReaderState
fresh_reading = record { pending = []; taken = 0; line = []; number = 0; closed = None }

-- the answer once the input has ended
abbrev pub answer_of : Ending → Line
answer_of ending.End = End
answer_of ending.InputTooLong = InputTooLong
answer_of ending.ReadFault = ReadFault

-- how many lines an answer is for
abbrev pub line_count : Line → ℕ
line_count Bytes = 1
line_count LongLine = 1
line_count End = 0
line_count InputTooLong = 0
line_count ReadFault = 0

-- those of the bytes that came which count: what stands past the limit is part of no line
abbrev pub within_limit : ℕ → List ℕ → List ℕ
within_limit taken came = take (INPUT_BYTES - taken) came

-- `line` is the text's next line: a line feed ends it,
-- or it is all that is left at the end of the input
abbrev pub IsNextLine : List ℕ → List ℕ → ReaderState → Type 0 → Type 0
IsNextLine text line new at_end =
    (StartsWithLine text line new.pending × (new.closed ≡ None))
    ⊎ (IsUnendedLine text line × at_end × (new.pending ≡ []) × (new.closed ≡ Some ending.End))

-- the reader has ended, and holds nothing more
pub record Closes (new : ReaderState) (how : Ending) : Type 0 where
  pub closed : new.closed ≡ Some how
  pub pending : new.pending ≡ []
  pub line : new.line ≡ []

-- what an answer says of the bytes taken and not yet answered
abbrev pub Answers : Line → List ℕ → ReaderState → Type 0 → Type 0
Answers Bytes text new at_end = IsNextLine text new.line new at_end × (length new.line ≤ LINE_BYTES)
Answers LongLine text new at_end =
    ((line : List ℕ) × IsNextLine text line new at_end × (LINE_BYTES < length line))
    × (new.line ≡ [])
Answers End text new at_end = (text ≡ []) × at_end × Closes new ending.End
Answers InputTooLong text new at_end =
    HasNoLineFeed text × (INPUT_BYTES < new.taken) × Closes new ending.InputTooLong
Answers ReadFault text new at_end =
    HasNoLineFeed text × (new.taken ≤ INPUT_BYTES) × Closes new ending.ReadFault

-- a call of `next` took `came` from the source, and answered
pub record Reads
    (old new : ReaderState) (answer : Line) (before after : Option (List ℕ)) : Type 0 where
  pub came : List ℕ
  pub took : Consumes before after came
  pub counted : new.taken ≡ old.taken + length came
  pub numbered : new.number ≡ old.number + line_count answer
  pub answered : Answers answer (old.pending ++ within_limit old.taken came) new (IsAtEnd after
      × (new.taken ≤ INPUT_BYTES))
