-- What stands between two lines of a session.
use Rattle.std.specs.Prelude.{Bool, true, false, ◌||◌, ◌≡◌, ◌⊎◌, ℕ, List, [], min, ◌<◌, ◌≤◌, ◌+◌, ◌-◌, length, take, nat_lt, ◌++◌, Option, Some, None, Result, Ok, Err, OnOk, OnErr, if◌then◌else◌}
use Rattle.std.specs.Result.{result_unwrap_or}
use Rattle.std.specs.Io.KnownBytes.{Appends, Consumes, IsAtEnd}
use Rattle.std.specs.Str.Lines.{lines}
use Rattle.smil_outside.specs.declared.line.TheConstants.{INPUT_BYTES}
use Rattle.smil_model.specs.declared.limits.TheConstants.{LINE_BYTES, NAME_BYTES}
use Rattle.smil_model.specs.declared.order.Refusal.{Refusal}
use Rattle.smil_model.specs.declared.order.Refusal.TheVariants.{Memory}
use Rattle.smil_model.specs.document.Limits.{limits}
use Rattle.smil_model.specs.shown.Answers.{IsRefusedBy, MayEvaluate}
use Rattle.smil_model.specs.shown.Lines.{refusal_line}
use Rattle.smil_outside.specs.declared.failed.Failed.{Failed}
use Rattle.smil_outside.specs.Faults.{HasRisen, last_count}
use Rattle.smil_grammar.specs.declared.read.Read.{Read}
use Rattle.smil_grammar.specs.declared.read.Read.TheVariants.{Blank, Load, LoadAt, Prefer, Close, To}
use Rattle.smil_grammar.specs.Results.{◌>>=◌}
use Rattle.smil_grammar.specs.Scripts.{line_of}
use Rattle.smil_grammar.specs.Outlines.{Outline, ended, version_of}
use Rattle.smil_report.specs.Words.{checked_line}
use Rattle.smil_switch.specs.Preferences.{Wanted}
use Rattle.smil_words.specs.declared.mode.Mode.{Mode}
use Rattle.smil_words.specs.declared.mode.Mode.TheVariants as mode
use Rattle.smil_top.specs.declared.answer.Answer.{Answer as AnswerText}
use Rattle.smil_top.specs.declared.counts.Counts.{Counts}
use Rattle.smil_top.specs.declared.fault.Fault.{Fault}
use Rattle.smil_top.specs.declared.loaded.LoadedDoc.{LoadedDoc as GivenDoc}
use Rattle.smil_top.specs.declared.load.Load.{Load as LoadSoFar}
use Rattle.smil_top.specs.declared.loaded.NamedLines.{NamedLines}
use Rattle.smil_top.specs.declared.run.Run.{Run}
use Rattle.smil_top.specs.declared.session.Session.{Session as SessionSoFar}
use Rattle.smil_top.specs.declared.status.Status.{Status}
use Rattle.smil_top.specs.declared.status.Status.TheVariants as status
use Rattle.smil_top.specs.Cut.{NumberedLine, LoadLines, OrderLines, CutLines, unended, orders}
use Rattle.smil_top.specs.Session.{Session}
use Rattle.smil_top.specs.Loading.{Loading, unread, loading_within}
use Rattle.smil_top.specs.Houses.{Keeps}
use Rattle.smil_top.specs.Answers.{AcceptedOrder, LoadedDocument, LoadHead, at_line, head_of, loading_from, said_within, check_said, loaded_within, checked, outline_in, answer_of, check_of}
use Rattle.smil_top.specs.Transcript.{Answering, MayAnswer, TranscriptState, IsTranscriptBy, is_memory}
use Rattle.smil_top.specs.declared.generated.Summary.{Summary}
use Rattle.smil_top.specs.Summary.{line_count, session_told, summary}
use Rattle.smil_top.specs.Serving.{Runs, status_of, status_by}
use Rattle.smil_top.specs.Evaluations.{Bound, most, least, has_full_diary, IsBounded, EvaluatesBy}

-- ---- answers

-- the text of an answer
abbrev pub text_of : AnswerText → List ℕ
text_of answer = answer.told ++ answer.last

-- no text
abbrev pub no_text : AnswerText
no_text = record { told = []; last = [] }

-- after a refusal its line stands in place of the text
abbrev pub finished : Result (Unit {0}) Fault → AnswerText → AnswerText
finished (Ok done) text = text
finished (Err fault) text = record { told = []; last = refusal_line fault.line fault.refusal }

-- what is told of an order
abbrev pub said : Result (Unit {0}) Fault → AnswerText → List ℕ
said answered text = text_of (finished answered text)

-- what was made of an order is what is wanted: the text,
-- where the session after it is kept; or the refusal, where all is kept as it was,
-- unless memory ran out
abbrev pub Makes : Result (Unit {0}) Refusal → AnswerText → SessionSoFar → Session
    → Result AcceptedOrder Refusal → Type 0
Makes (Ok done) text so_far session wanted =
    (after : Session) × Keeps so_far after
    × (wanted ≡ Ok (record { text = text_of text; session = after }))
Makes (Err refusal) text so_far session wanted =
    Keeps so_far session × IsRefusedBy wanted refusal

-- a value is preferred so, unless memory ran out; after a refusal all is kept as it was
abbrev pub PrefersAs : Result (Unit {0}) Refusal → SessionSoFar → Session
    → Result Session Refusal → Type 0
PrefersAs (Ok done) so_far session wanted =
    (after : Session) × Keeps so_far after × (wanted ≡ Ok after)
PrefersAs (Err refusal) so_far session wanted =
    Keeps so_far session × IsRefusedBy wanted refusal

-- the same of a whole order
abbrev pub MakesAnswer : Result (Unit {0}) Fault → AnswerText → SessionSoFar → Session → Answering
    → OrderLines → Type 0
MakesAnswer (Ok done) text so_far session answering order =
    (after : Session) × Keeps so_far after
    × (answering session order ≡ Ok (record { text = text_of text; session = after }))
MakesAnswer (Err fault) text so_far session answering order =
    Keeps so_far session × MayAnswer answering session order (Err fault)

-- how orders are answered where loads are only read, and where they are opened too
abbrev pub answering : Bool → Answering
answering true = check_of
answering false = answer_of

-- what a line is answered, by what it says
abbrev pub single_by : Bool → Session → ℕ → Read → Result AcceptedOrder Refusal
single_by true session number read = check_said session read
single_by false session number read = said_within limits session number read

-- what a line is answered
abbrev pub line_by : Bool → Session → ℕ → List ℕ → Result AcceptedOrder Refusal
line_by checks session number line = line_of line >>= single_by checks session number

-- what a load is answered
abbrev pub load_by : Bool → Session → ℕ → LoadedDocument → Result AcceptedOrder Refusal
load_by true session number given = checked session number given
load_by false session number given = loaded_within limits session number given

-- a load that is only read was written, unless memory ran out
abbrev pub Checks : Result (Unit {0}) Refusal → AnswerText → ℕ → LoadedDocument → Type 0
Checks (Ok done) text line given = text_of text ≡ outline_in given ++ checked_line line given.name
Checks (Err refusal) text line given = refusal ≡ Memory

-- ---- single lines

-- a presentation's name is short
abbrev pub HasShortName : Read → Type 0
HasShortName (Load name) = length name ≤ NAME_BYTES
HasShortName (LoadAt name start) = length name ≤ NAME_BYTES
HasShortName (Close name) = length name ≤ NAME_BYTES
HasShortName (To name order) = length name ≤ NAME_BYTES
HasShortName (Prefer word value) = Unit {0}
HasShortName Blank = Unit {0}

-- ---- loads

-- what the load line gave, and the lines with one more
abbrev pub with_node : LoadHead → Loading → NumberedLine → Result (LoadHead × Loading) Fault
with_node head loading line = do
  more ← at_line line.number (loading_within limits head.start loading line.text)
  Ok (head, more)

-- what the lines of a load say before its end, by these preferences
abbrev pub reading_of : Wanted → LoadLines → Result (LoadHead × Loading) Fault
reading_of wanted lines = do
  head ← at_line lines.head.number (line_of lines.head.text >>= head_of)
  loading ← loading_from limits head.start (unread wanted) lines.nodes
  Ok (head, loading)

-- what the load line gave
abbrev pub head_read : NamedLines → LoadHead
head_read named = record { name = named.name; start = named.start }

-- what was read is this
abbrev pub Reads : Result NamedLines Fault → Result (LoadHead × Loading) Fault → Type 0
Reads (Ok named) reading = reading ≡ Ok (head_read named, named.lines)
Reads (Err fault) reading = reading ≡ Err fault

-- a load that was read so far by these preferences, or for which memory ran out
pub record IsRead (load : LoadSoFar) (wanted : Wanted) (lines : LoadLines) : Type 0 where
  pub line : load.line ≡ lines.head.number
  pub reading :
      Reads load.reading (reading_of wanted lines)
      ⊎ (load.reading ≡ Err (record { line = lines.head.number; refusal = Memory }))

-- what a load line gives, before the first line behind it
abbrev pub ReadsHead : Result NamedLines Refusal → Wanted → List ℕ → Type 0
ReadsHead (Ok named) wanted head =
    (line_of head >>= head_of ≡ Ok (head_read named)) × (named.lines ≡ unread wanted)
ReadsHead (Err refusal) wanted head = IsRefusedBy (line_of head >>= head_of) refusal

-- what a load gives
abbrev pub given_of : GivenDoc → LoadedDocument
given_of given = record { name = given.name; document = given.doc; version = given.version }

-- what a load gives is this
abbrev pub Gives : Result GivenDoc Fault → Result LoadedDocument Fault → Type 0
Gives (Ok given) wanted = wanted ≡ Ok (given_of given)
Gives (Err fault) wanted = wanted ≡ Err fault

-- an outline that ends gives its document, or is faulty at the line that ends it
abbrev pub given_at : List ℕ → Outline → ℕ → Result LoadedDocument Fault
given_at name outline end_line = do
  document ← at_line end_line (ended outline)
  Ok (record { name = name; document = document; version = version_of outline })

-- the load that hasn't ended, by the preferences that hold
abbrev pub IsOpen : Option LoadSoFar → Wanted → Option LoadLines → Type 0
IsOpen None wanted None = Unit {0}
IsOpen (Some load) wanted (Some lines) = IsRead load wanted lines
IsOpen _ _ _ = ⊥

-- ---- counts

-- before the first order
abbrev pub uncounted : Counts
uncounted = record { orders = 0; refused = 0; lines = 0; memory = false }

-- the same where lines are not counted
abbrev pub without_lines : Counts
without_lines = record uncounted { lines = last_count }

-- one more of what is counted, up to the last count
abbrev pub counted_on : ℕ → ℕ → ℕ
counted_on count more = min (count + more) last_count

-- with one more order, whose answer has so many lines
abbrev pub with_order : Result (Unit {0}) Fault → ℕ → Counts → Counts
with_order (Ok done) lines counts = record counts {
  orders = counted_on counts.orders 1;
  lines = counted_on counts.lines lines;
}
with_order (Err fault) lines counts = record counts {
  orders = counted_on counts.orders 1;
  lines = counted_on counts.lines lines;
  refused = if is_memory fault.refusal then counts.refused else counted_on counts.refused 1;
  memory = counts.memory || is_memory fault.refusal;
}

-- what is counted of these orders, told so; lines are counted where the count is below the last one
pub record AreCounted
    (counts : Counts) (orders : List OrderLines) (told : TranscriptState) : Type 0 where
  pub orders_are : counts.orders ≡ min (length orders) last_count
  pub refused_is : counts.refused ≡ min told.refused last_count
  pub lines_are : counts.lines < last_count → counts.lines ≡ line_count told.text
  pub memory_is : counts.memory ≡ told.memory

-- no count stands at its end
pub record AreExact (counts : Counts) : Type 0 where
  pub orders_are : counts.orders < last_count
  pub refused_is : counts.refused < last_count
  pub lines_are : counts.lines < last_count

-- ---- a run

-- these orders were answered, and this was told
pub record Tells
    (checks : Bool) (run : Run) (orders : List OrderLines) (told : TranscriptState) : Type 0 where
  pub checks_is : run.session.checks ≡ checks
  pub transcript : IsTranscriptBy (answering checks) orders told
  pub keeps : Keeps run.session told.session
  pub counted : AreCounted run.counts orders told

-- a session whose whole orders were answered, and this was told
pub record IsRunning
    (checks : Bool) (run : Run) (cut : CutLines) (told : TranscriptState) : Type 0 where
  pub tells : Tells checks run cut.whole told
  pub load : IsOpen run.load told.session.wanted cut.«open»

-- the line that a reader shows, or one that is too long to be shown
abbrev pub IsLine : Option (List ℕ) → List ℕ → Type 0
IsLine (Some text) line = (line ≡ text) × (length text ≤ LINE_BYTES)
IsLine None line = LINE_BYTES < length line

-- a text was written
abbrev pub WritesAll : Option (List ℕ) → Option (List ℕ) → ℕ → ℕ → List ℕ → Type 0
WritesAll before after room left text = Appends before after text × (room ≤ left + length text)

-- a part of it from its front was, for which there was no sure room
abbrev pub WritesPart : Option (List ℕ) → Option (List ℕ) → ℕ → List ℕ → Type 0
WritesPart before after room text = (n : ℕ) × (n < length text) × Appends before after (take n text)
    × (room < length text)

-- what a write wrote: the text, or where it failed a part of it
abbrev pub Writes :
    Result (Unit {0}) Failed → Option (List ℕ) → Option (List ℕ) → ℕ → ℕ → List ℕ → Type 0
Writes (Ok done) before after room left text = WritesAll before after room left text
Writes (Err e) before after room left text = WritesPart before after room text

-- a fault of the sink raises its count of them, and nothing else does
pub record CountsFaults (result : Result (Unit {0}) Failed) (before after : ℕ) : Type 0 where
  pub kept : OnOk result (after ≡ before)
  pub cause : OnErr result (HasRisen before after)

-- more was told, and it or a part of it was written
pub record Goes (result : Result (Unit {0}) Failed) (told more : TranscriptState)
    (before after : Option (List ℕ)) (room left : ℕ) : Type 0 where
  pub text : List ℕ
  pub text_is : more.text ≡ told.text ++ text
  pub writes : Writes result before after room left text

-- more was told, and with it the orders are answered that are whole now; it stands in the run
pub record Answers (checks : Bool) (result : Result (Unit {0}) Failed) (run : Run) (cut : CutLines)
    (told : TranscriptState) (before after : Option (List ℕ)) (room left : ℕ) : Type 0 where
  pub more : TranscriptState
  pub goes : Goes result told more before after room left
  pub stands : text_of run.answer ≡ goes.text
  pub running : IsRunning checks run cut more

-- the same for one order more, or for the end of the input
pub record AnswersOrders (checks : Bool) (result : Result (Unit {0}) Failed) (run : Run)
    (orders : List OrderLines) (told : TranscriptState)
    (before after : Option (List ℕ)) (room left : ℕ) : Type 0 where
  pub more : TranscriptState
  pub goes : Goes result told more before after room left
  pub stands : text_of run.answer ≡ goes.text
  pub tells : Tells checks run orders more

-- how the call ends
abbrev pub ended_by : Result (Unit {0}) Failed → TranscriptState → Status
ended_by (Ok done) told = status_of told
ended_by (Err e) told = status.WriteFault

-- the input has ended, all of it is answered, and the status says how; or the write failed
pub record Ends
    (checks : Bool) (ended : Status) (run : Run) (cut : CutLines) (told : TranscriptState)
    (before after : Option (List ℕ)) (room left : ℕ) : Type 0 where
  pub result : Result (Unit {0}) Failed
  pub answers :
      AnswersOrders checks result run (cut.whole ++ unended cut.«open») told before after room left
  pub ended_is : ended ≡ ended_by result answers.more

-- ---- evaluations

-- an order that is answered so has so many evaluations: within the bounds,
-- or none where it is refused, unless a diary is full or memory ran out
abbrev pub IsCountedBy :
    {E : Type 0} → (E → Refusal) → Result (Unit {0}) E → (Bound → ℕ) → ℕ → Type 0
IsCountedBy refusal_of (Ok done) number rise = (number least ≤ rise) × (rise ≤ number most)
IsCountedBy refusal_of (Err e) number rise = MayEvaluate (Some (number most)) (refusal_of e) rise

-- by its refusal
abbrev pub IsCounted : Result (Unit {0}) Refusal → (Bound → Result ℕ Refusal) → ℕ → Type 0
IsCounted answered number rise =
    IsCountedBy (λ refusal. refusal) answered (λ bound. result_unwrap_or (number bound) 0) rise

-- by its fault
abbrev pub IsOrderCounted : Result (Unit {0}) Fault → (Bound → ℕ) → ℕ → Type 0
IsOrderCounted answered number rise = IsCountedBy (λ fault. fault.refusal) answered number rise

-- the counter was at `start` before these orders, and is at `now` behind them
pub record HasEvaluated (counts : Counts) (orders : List OrderLines) (start now : ℕ) : Type 0 where
  pub risen : start ≤ now
  pub bounded :
      counts.memory ≡ false → has_full_diary orders ≡ false → IsBounded orders (now - start)

-- behind more orders it has gone on from `before` to `after`
abbrev pub EvaluatesOn : Counts → Counts → List OrderLines → List OrderLines → ℕ → ℕ → Type 0
EvaluatesOn old new orders more before after =
    (start : ℕ) → HasEvaluated old orders start before → HasEvaluated new more start after

-- ---- a whole call

-- what is asked for where loads are only read or are opened too
abbrev pub asked_by : Bool → Mode
asked_by true = mode.Check
asked_by false = mode.Run

-- the input was read to its end, and all of it was answered
pub record IsAll (checks : Bool) (ended : Status) (run : Run) (came text : List ℕ) : Type 0 where
  pub told : TranscriptState
  pub tells : Tells checks run (orders (lines came)) told
  pub text_is : text ≡ told.text
  pub ended_is : ended ≡ status_of told
  pub within : length came ≤ INPUT_BYTES

-- how a run ends that has begun
abbrev pub RunsBy : Bool → Status → Run → Option (List ℕ) → List ℕ → List ℕ → ℕ → Type 0
RunsBy checks status.Clean run rest came text room =
    IsAtEnd rest × IsAll checks status.Clean run came text
RunsBy checks status.Refused run rest came text room =
    IsAtEnd rest × IsAll checks status.Refused run came text
RunsBy checks status.Memory run rest came text room =
    IsAtEnd rest × IsAll checks status.Memory run came text
RunsBy checks ended run rest came text room = Runs (answering checks) ended rest came text room

-- what a run that has begun read and wrote
pub record Ran (checks : Bool) (ended : Status) (run : Run)
    (before after taken_before taken_after : Option (List ℕ)) (room : ℕ) : Type 0 where
  pub came : List ℕ
  pub text : List ℕ
  pub read : Consumes before after came
  pub written : Appends taken_before taken_after text
  pub runs : RunsBy checks ended run after came text room

-- and how often intervals were evaluated meanwhile
pub record RanCounted (checks : Bool) (ended : Status) (run : Run)
    (before after taken_before taken_after : Option (List ℕ)) (room rise : ℕ) : Type 0 where
  pub ran : Ran checks ended run before after taken_before taken_after room
  pub bounded : EvaluatesBy (Some (asked_by checks)) ended ran.came rise

-- the lines that tell of a session
pub record IsSummary (number : ℕ) (summed : Summary) : Type 0 where
  pub text_is : summed.text ≡ summary number
  pub ended_is : summed.status ≡ status_by (nat_lt 0 (session_told number).refused) false
