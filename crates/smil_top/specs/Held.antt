-- A session that a host holds, and gives one line after another.
use Rattle.std.specs.Prelude.{◌≡◌, ℕ, ◌≤◌, false, List, [], ◌∷◌, ◌++◌, None, length}
use Rattle.std.specs.Str.Lines.{lines, strip_carriage_return}
use Rattle.smil_model.specs.document.Words.{line_feed}
use Rattle.smil_outside.specs.Lines.{HasNoLineFeed}
use Rattle.smil_outside.specs.declared.line.TheConstants.{INPUT_BYTES}
use Rattle.smil_top.specs.declared.counts.Counts.{Counts}
use Rattle.smil_top.specs.declared.held.Held.{Held}
use Rattle.smil_top.specs.declared.status.Status.{Status}
use Rattle.smil_top.specs.Answers.{answer_of as order_answer}
use Rattle.smil_top.specs.Cut.{CutLines, cut_of}
use Rattle.smil_top.specs.Running.{IsRunning, text_of}
use Rattle.smil_top.specs.Serving.{IsWholeTranscript, status_of}
use Rattle.smil_top.specs.Transcript.{TranscriptState}

-- the number of the last line that can be numbered
abbrev pub last_number : ℕ
last_number = 4294967295

-- the answer to the last line
abbrev pub answer_of : Held → List ℕ
answer_of held = text_of held.run.answer

-- what is counted of it
abbrev pub counts_of : Held → Counts
counts_of held = held.run.counts

-- it was given these lines, and this was told of them
pub record IsHeld (held : Held) (cut : CutLines) (told : TranscriptState) : Type 0 where
  pub running : IsRunning false held.run cut told
  pub number : held.number ≡ cut.count

-- the last of these lines was taken in: more was told, and it is the answer
pub record HasTaken (held : Held) (cut : CutLines) (told : TranscriptState) : Type 0 where
  pub more : TranscriptState
  pub held_is : IsHeld held cut more
  pub answer_is : more.text ≡ told.text ++ answer_of held

-- ---- an input of the same lines

-- a line that an input can show as it is
abbrev pub IsInputLine : List ℕ → Type 0
IsInputLine line = HasNoLineFeed line × (strip_carriage_return line ≡ line)

-- lines that an input can show
abbrev pub AreInputLines : List (List ℕ) → Type 0
AreInputLines [] = Unit {0}
AreInputLines (line ∷ given) = IsInputLine line × AreInputLines given

-- the input of these lines, each with a line feed behind it
abbrev pub input_of : List (List ℕ) → List ℕ
input_of [] = []
input_of (line ∷ given) = line ++ line_feed ∷ input_of given

-- what a session was told of lines, none of which leaves a load open, is the whole transcript of
-- the input of these lines, as it is served
abbrev pub HeldIsServed : Type 0
HeldIsServed =
    (held : Held) (given : List (List ℕ)) (told : TranscriptState)
    → IsHeld held (cut_of given) told
    → (cut_of given).«open» ≡ None
    → AreInputLines given
    → length (input_of given) ≤ INPUT_BYTES
    → IsWholeTranscript order_answer (status_of told) (input_of given) told.text

-- and where memory suffices in both, that is the text which is served
abbrev pub ServedIsHeld : Type 0
ServedIsHeld =
    (held : Held) (given : List (List ℕ)) (told : TranscriptState)
    → IsHeld held (cut_of given) told
    → (cut_of given).«open» ≡ None
    → AreInputLines given
    → told.memory ≡ false
    → (ended : Status) (text : List ℕ)
    → (whole : IsWholeTranscript order_answer ended (input_of given) text)
    → whole.told.memory ≡ false
    → (text ≡ told.text) × (ended ≡ status_of told)
