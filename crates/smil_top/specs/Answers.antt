-- What an order is answered, if memory suffices.
use Rattle.std.specs.Prelude.{ℕ, ℤ, pos, codes, List, [], ◌∷◌, ◌++◌, Option, Some, None, Result, Ok, Err, ◌==◌, if◌then◌else◌}
use Rattle.std.specs.Option.{ok_or}
use Rattle.smil_model.specs.declared.order.Order.{Order}
use Rattle.smil_model.specs.declared.order.Refusal.{Refusal}
use Rattle.smil_model.specs.declared.order.Refusal.TheVariants.{LongLine, NotACommand, UnfinishedLoad, NoPresentation}
use Rattle.smil_model.specs.document.Document.{Document}
use Rattle.smil_model.specs.document.Limits.{Limits, limits}
use Rattle.smil_model.specs.shown.Orders.{Presentation, opened_within, outcome_within}
use Rattle.smil_model.specs.shown.Answers.{answer_text, load_text}
use Rattle.smil_model.specs.shown.Lines.{ok_line, closed_line}
use Rattle.smil_report.specs.Words.{checked_line}
use Rattle.smil_grammar.specs.declared.read.Read.{Read}
use Rattle.smil_grammar.specs.declared.read.Read.TheVariants.{Blank, Load, LoadAt, Prefer, Close, To}
use Rattle.smil_grammar.specs.Results.{◌>>=◌}
use Rattle.smil_grammar.specs.Scripts.{line_of}
use Rattle.smil_grammar.specs.Outlines.{ended, version_of, outline_text, saved_text}
use Rattle.smil_grammar.specs.Formats.{formats}
use Rattle.smil_switch.specs.Preferences.{Wanted, with_preference}
use Rattle.smil_top.specs.declared.fault.Fault.{Fault}
use Rattle.smil_top.specs.Cut.{NumberedLine, LoadLines, OrderLines, single, load, is_short}
use Rattle.smil_top.specs.Loading.{Loading, unread, loading_within}
use Rattle.smil_top.specs.Session.{Session, presentation_of, with_state, without, may_load}

-- an accepted order: its text, and the session after it
pub record AcceptedOrder : Type 0 where
  pub text : List ℕ
  pub session : Session

-- an order is accepted, or refused by its fault: the refusal,
-- and the number of the line where it stands
abbrev pub Answer : Type 0
Answer = Result AcceptedOrder Fault

-- a refusal stands at this line
abbrev pub at_line : {A : Type 0} → ℕ → Result A Refusal → Result A Fault
at_line line (Ok x) = Ok x
at_line line (Err refusal) = Err (record { line = line; refusal = refusal })

-- ---- single lines

-- what a line says; one that is too long is refused whatever it says
abbrev pub read_of : List ℕ → Result Read Refusal
read_of line = if is_short line then line_of line else Err LongLine

-- a presentation that is held, or there is none
abbrev pub found_presentation : Option Presentation → Result Presentation Refusal
found_presentation None = Err NoPresentation
found_presentation (Some presentation) = Ok presentation

-- an order to the presentation of this name
abbrev pub ordered_within : Limits → Session → ℕ → List ℕ → Order → Result AcceptedOrder Refusal
ordered_within allowed session line name order = do
  before ← found_presentation (presentation_of name session)
  after ← outcome_within allowed formats before order
  Ok (record {
    text = answer_text formats before after order ++ ok_line line name (pos after.now);
    session = with_state name after session;
  })

-- the presentation of this name is closed
abbrev pub close_answer : Session → ℕ → List ℕ → Result AcceptedOrder Refusal
close_answer session line name = do
  before ← found_presentation (presentation_of name session)
  Ok (record { text = closed_line line name; session = without name session })

-- no text, and the same session
abbrev pub silent : Session → Result AcceptedOrder Refusal
silent session = Ok (record { text = []; session = session })

-- the last line of an order that prefers a value
abbrev pub preferred_line : ℕ → List ℕ
preferred_line line = checked_line line (codes "prefer")

-- the session in which one more value is preferred for a word, where it has a reading
abbrev pub preferring : Session → List ℕ → List ℕ → Result Session Refusal
preferring session word value = do
  wanted ← ok_or (with_preference session.wanted word value) NotACommand
  Ok (record session { wanted = wanted })

-- it is said that it is preferred
abbrev pub prefer_answer : Session → ℕ → List ℕ → List ℕ → Result AcceptedOrder Refusal
prefer_answer session line word value = do
  after ← preferring session word value
  Ok (record { text = preferred_line line; session = after })

-- it is preferred without a text
abbrev pub prefer_silently : Session → List ℕ → List ℕ → Result AcceptedOrder Refusal
prefer_silently session word value = preferring session word value >>= silent

-- by what the line says; one that opens a load is no single line, nor is one without an answer
abbrev pub said_within : Limits → Session → ℕ → Read → Result AcceptedOrder Refusal
said_within allowed session line (To name order) = ordered_within allowed session line name order
said_within allowed session line (Close name) = close_answer session line name
said_within allowed session line (Prefer word value) = prefer_answer session line word value
said_within allowed session line (Load name) = Err NotACommand
said_within allowed session line (LoadAt name start) = Err NotACommand
said_within allowed session line Blank = silent session

-- by what the line says where loads are only read: one that prefers a value does so here too
abbrev pub check_said : Session → Read → Result AcceptedOrder Refusal
check_said session (Prefer word value) = prefer_silently session word value
check_said session _ = silent session

-- ---- loads

-- what a load gives: the name, the document, and the version of its outline
pub record LoadedDocument : Type 0 where
  pub name : List ℕ
  pub document : Document
  pub version : ℕ

-- what a load line gives: the name, and the instant of moment 0 where it says one
pub record LoadHead : Type 0 where
  pub name : List ℕ
  pub start : Option ℤ

-- by what the line says
abbrev pub head_of : Read → Result LoadHead Refusal
head_of (Load name) = Ok (record { name = name; start = None })
head_of (LoadAt name start) = Ok (record { name = name; start = Some start })
head_of _ = Err NotACommand

-- the lines behind it up to the first fault, which stands at its line
abbrev pub loading_from : Limits → Option ℤ → Loading → List NumberedLine → Result Loading Fault
loading_from allowed start loading [] = Ok loading
loading_from allowed start loading (line ∷ lines) = do
  more ← at_line line.number (loading_within allowed start loading line.text)
  loading_from allowed start more lines

-- what the lines of a load give by these preferences, or their first fault;
-- an outline without a node is faulty at the line that ends it
abbrev pub given_within : Limits → Wanted → LoadLines → ℕ → Result LoadedDocument Fault
given_within allowed wanted lines end_line = do
  head ← at_line lines.head.number (line_of lines.head.text >>= head_of)
  loading ← loading_from allowed head.start (unread wanted) lines.nodes
  document ← at_line end_line (ended loading.outline)
  Ok (record { name = head.name; document = document; version = version_of loading.outline })

-- a load opens its document at moment 0
abbrev pub loaded_within : Limits → Session → ℕ → LoadedDocument → Result AcceptedOrder Refusal
loaded_within allowed session line given = do
  free ← may_load given.name session
  loaded ← opened_within allowed given.document
  Ok (record {
    text = load_text loaded ++ ok_line line given.name (pos loaded.now);
    session = record session {
      held = session.held ++ record { name = given.name; presentation = loaded } ∷ [];
    };
  })

-- the canonical outline, in the version in which it came
abbrev pub outline_in : LoadedDocument → List ℕ
outline_in given =
    if given.version == 2 then saved_text given.document else outline_text given.document.nodes

-- a load that is only read
abbrev pub checked : Session → ℕ → LoadedDocument → Result AcceptedOrder Refusal
checked session line given =
    Ok (record { text = outline_in given ++ checked_line line given.name; session = session })

-- ---- all orders

-- within limits, what an order is answered in a session
abbrev pub answer_within : Limits → Session → OrderLines → Answer
answer_within allowed session (single line) =
    at_line line.number (read_of line.text >>= said_within allowed session line.number)
answer_within allowed session (load lines None) = at_line lines.head.number (Err UnfinishedLoad)
answer_within allowed session (load lines (Some end_line)) =
    given_within allowed session.wanted lines end_line
    >>= λ given. at_line lines.head.number (loaded_within allowed session lines.head.number given)

-- the same where loads are only read: other lines are answered only where they are refused
abbrev pub check_within : Limits → Session → OrderLines → Answer
check_within allowed session (single line) =
    at_line line.number (read_of line.text >>= check_said session)
check_within allowed session (load lines None) = at_line lines.head.number (Err UnfinishedLoad)
check_within allowed session (load lines (Some end_line)) =
    given_within allowed session.wanted lines end_line
    >>= λ given. at_line lines.head.number (checked session lines.head.number given)

-- the answers within the limits that hold
abbrev pub answer_of : Session → OrderLines → Answer
answer_of session order = answer_within limits session order

-- and those where loads are only read
abbrev pub check_of : Session → OrderLines → Answer
check_of session order = check_within limits session order
