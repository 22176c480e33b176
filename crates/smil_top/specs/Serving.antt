-- What a call of `serve` has read and written, by its status.
use Rattle.std.specs.Prelude.{◌≡◌, ◌⊎◌, ℕ, ◌<◌, ◌≤◌, Bool, true, false, nat_lt, List, [], ◌++◌, length, take, Option, Some, None}
use Rattle.std.specs.Io.KnownBytes.{Appends, Consumes, IsAtEnd}
use Rattle.std.specs.Str.Lines.{lines}
use Rattle.smil_outside.specs.declared.line.TheConstants.{INPUT_BYTES}
use Rattle.smil_outside.specs.Lines.{whole_lines}
use Rattle.smil_words.specs.declared.mode.Mode.{Mode}
use Rattle.smil_words.specs.declared.mode.Mode.TheVariants as mode
use Rattle.smil_top.specs.declared.status.Status.{Status}
use Rattle.smil_top.specs.declared.status.Status.TheVariants as status
use Rattle.smil_top.specs.Cut.{OrderLines, orders, whole_orders}
use Rattle.smil_top.specs.Answers.{answer_of, check_of}
use Rattle.smil_top.specs.Transcript.{Answering, TranscriptState, IsTranscriptBy}
use Rattle.smil_top.specs.Summary.{session_told, summary}
use Rattle.smil_top.specs.Auditing.{ReadsAs, TellsOf, audit_input, audit_of, audit_text, audit_status, input_takes, memory_line, takes_memory}
use Rattle.smil_top.specs.declared.audit.Told.{Told}
use Rattle.smil_top.specs.declared.audit.WholeInput.{WholeInput}
use Rattle.smil_top.specs.Words.{usage_line}

-- how a call ends in which orders were refused for faults or not,
-- and one since memory ran out or not
abbrev pub status_by : Bool → Bool → Status
status_by refused true = status.Memory
status_by true false = status.Refused
status_by false false = status.Clean

-- how a call ends that has told all
abbrev pub status_of : TranscriptState → Status
status_of told = status_by (nat_lt 0 told.refused) told.memory

-- ---- a session is read

-- the bytes of an input that count: what stands past the limit is part of no line
abbrev pub counted_bytes : List ℕ → List ℕ
counted_bytes came = take INPUT_BYTES came

-- the whole transcript of a whole input, with which a call ends so
pub record IsWholeTranscript
    (answering : Answering) (ended : Status) (came text : List ℕ) : Type 0 where
  pub told : TranscriptState
  pub transcript : IsTranscriptBy answering (orders (lines came)) told
  pub text_is : text ≡ told.text
  pub ended_is : ended ≡ status_of told
  pub within : length came ≤ INPUT_BYTES

-- the transcript of the orders that are whole in the whole lines of what counts
abbrev pub IsCutShort : Answering → List ℕ → List ℕ → Type 0
IsCutShort answering came text =
    (told : TranscriptState)
    × IsTranscriptBy answering (whole_orders (whole_lines (counted_bytes came))) told
    × (text ≡ told.text)

-- a part of the text from its front, and not all of it; the sink had no sure room for all of it
pub record IsPart (text whole : List ℕ) (room : ℕ) : Type 0 where
  pub rest : List ℕ
  pub split : whole ≡ text ++ rest
  pub some : 0 < length rest
  pub more_than_room : room < length whole

-- orders that were read first: they are whole in the whole lines of what counts,
-- or the input has ended
abbrev pub AreFirst : List OrderLines → Option (List ℕ) → List ℕ → Type 0
AreFirst first rest came =
    ((later : List OrderLines) × (whole_orders (whole_lines (counted_bytes came)) ≡ first ++ later))
    ⊎ (IsAtEnd rest × (length came ≤ INPUT_BYTES)
    × ((later : List OrderLines) × (orders (lines came) ≡ first ++ later)))

-- a part of the transcript of the orders that were read first
abbrev pub IsBroken : Answering → Option (List ℕ) → List ℕ → List ℕ → ℕ → Type 0
IsBroken answering rest came text room =
    (first : List OrderLines) × (told : TranscriptState) × AreFirst first rest came
    × IsTranscriptBy answering first told
    × IsPart text told.text room

-- these bytes came, and this text was written to a sink with so much sure room
abbrev pub Runs : Answering → Status → Option (List ℕ) → List ℕ → List ℕ → ℕ → Type 0
Runs answering status.Clean rest came text room =
    IsAtEnd rest × IsWholeTranscript answering status.Clean came text
Runs answering status.Refused rest came text room =
    IsAtEnd rest × IsWholeTranscript answering status.Refused came text
Runs answering status.Words rest came text room = ⊥
Runs answering status.ReadFault rest came text room =
    (length came ≤ INPUT_BYTES) × IsCutShort answering came text
Runs answering status.WriteFault rest came text room = IsBroken answering rest came text room
Runs answering status.Memory rest came text room =
    ((came ≡ []) × (text ≡ []))
    ⊎ (IsAtEnd rest × IsWholeTranscript answering status.Memory came text)
Runs answering status.InputTooLong rest came text room =
    (INPUT_BYTES < length came) × IsCutShort answering came text

-- ---- nothing is read

-- the session of a number is told of; where memory ran out in it, nothing is
abbrev pub Generates : ℕ → Status → List ℕ → ℕ → Type 0
Generates number status.Clean text room =
    (text ≡ summary number) × ((session_told number).refused ≡ 0)
Generates number status.Refused text room =
    (text ≡ summary number) × (0 < (session_told number).refused)
Generates number status.Words text room = ⊥
Generates number status.ReadFault text room = ⊥
Generates number status.WriteFault text room = IsPart text (summary number) room
Generates number status.Memory text room = text ≡ []
Generates number status.InputTooLong text room = ⊥

-- the words are faulty, and the usage line is written
abbrev pub Explains : Status → List ℕ → ℕ → Type 0
Explains status.Words text room = text ≡ usage_line
Explains status.WriteFault text room = IsPart text usage_line room
Explains _ text room = ⊥

-- ---- a diary is audited

-- an input that was read to its end: what its lines say, or that memory ran out
pub record IsWholeInput (whole : WholeInput) (before after : Option (List ℕ)) : Type 0 where
  pub came : List ℕ
  pub read : Consumes before after came
  pub at_end : IsAtEnd after
  pub within : length came ≤ INPUT_BYTES
  pub said : ReadsAs (input_takes (lines came)) whole.said (audit_input (lines came))
  pub lines : whole.lines ≡ length (lines came)

-- what is told of such an input
pub record Audited (told : Told) (before after : Option (List ℕ)) : Type 0 where
  pub came : List ℕ
  pub read : Consumes before after came
  pub at_end : IsAtEnd after
  pub within : length came ≤ INPUT_BYTES
  pub tells : TellsOf (takes_memory (lines came)) told (audit_of (lines came))

-- an audit that stops without a line: a read failed, the input is too long,
-- or there was no memory to begin with
abbrev pub StopsBy : Status → List ℕ → Type 0
StopsBy status.ReadFault came = length came ≤ INPUT_BYTES
StopsBy status.InputTooLong came = INPUT_BYTES < length came
StopsBy status.Memory came = came ≡ []
StopsBy _ came = ⊥

abbrev pub StopsAudit : Status → Option (List ℕ) → Option (List ℕ) → Type 0
StopsAudit ended before after = (came : List ℕ) × Consumes before after came × StopsBy ended came

-- the whole answer to a whole input, with which an audit ends so
pub record IsWholeAudit (ended : Status) (came text : List ℕ) : Type 0 where
  pub text_is : text ≡ audit_text (lines came)
  pub ended_is : ended ≡ audit_status (lines came)
  pub within : length came ≤ INPUT_BYTES

-- these bytes came, and this text was written: the one line, once the input was read to its end;
-- or a part of it; or that memory ran out that is taken
abbrev pub Audits : Status → Option (List ℕ) → List ℕ → List ℕ → ℕ → Type 0
Audits status.Clean rest came text room = IsAtEnd rest × IsWholeAudit status.Clean came text
Audits status.Refused rest came text room = IsAtEnd rest × IsWholeAudit status.Refused came text
Audits status.Words rest came text room = ⊥
Audits status.ReadFault rest came text room = (length came ≤ INPUT_BYTES) × (text ≡ [])
Audits status.WriteFault rest came text room =
    IsAtEnd rest × (length came ≤ INPUT_BYTES)
    × (IsPart text (audit_text (lines came)) room
    ⊎ ((takes_memory (lines came) ≡ true) × IsPart text memory_line room))
Audits status.Memory rest came text room =
    ((came ≡ []) × (text ≡ []))
    ⊎ (IsAtEnd rest × (length came ≤ INPUT_BYTES)
    × (takes_memory (lines came) ≡ true) × (text ≡ memory_line))
Audits status.InputTooLong rest came text room = (INPUT_BYTES < length came) × (text ≡ [])

-- ---- by what the words ask for

-- by the words: the session is run or checked, or that of a number is told of,
-- or a diary is audited, or the words are faulty
abbrev pub ServesBy : Option Mode → Status → Option (List ℕ) → List ℕ → List ℕ → ℕ → Type 0
ServesBy (Some mode.Run) status rest came text room = Runs answer_of status rest came text room
ServesBy (Some mode.Check) status rest came text room = Runs check_of status rest came text room
ServesBy (Some (mode.Gen number)) status rest came text room =
    (came ≡ []) × Generates number status text room
ServesBy (Some mode.Audit) status rest came text room = Audits status rest came text room
ServesBy None status rest came text room = (came ≡ []) × Explains status text room

-- whether they ask for an input that is read
abbrev pub reads : Option Mode → Bool
reads (Some mode.Run) = true
reads (Some mode.Check) = true
reads (Some mode.Audit) = true
reads _ = false

-- what came from the source and went to the sink, where they tell their bytes
pub record Serves (asked : Option Mode) (status : Status)
    (before after taken_before taken_after : Option (List ℕ)) (room : ℕ) : Type 0 where
  pub came : List ℕ
  pub text : List ℕ
  pub read : Consumes before after came
  pub written : Appends taken_before taken_after text
  pub served : ServesBy asked status after came text room
