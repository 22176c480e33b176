-- How often the answers to the orders of an input have intervals evaluated: at most, and at least.
use Rattle.std.specs.Prelude.{◌≡◌, ℕ, ◌+◌, ◌≤◌, Bool, true, false, List, [], ◌∷◌, map, Option, Some, None, Result, Ok}
use Rattle.std.specs.Result.{result_unwrap_or}
use Rattle.std.specs.Str.Lines.{lines}
use Rattle.smil_model.specs.declared.order.Order.{Order}
use Rattle.smil_model.specs.declared.order.Refusal.{Refusal}
use Rattle.smil_model.specs.declared.order.Refusal.TheVariants.{DiaryFull}
use Rattle.smil_model.specs.document.Limits.{limits}
use Rattle.smil_model.specs.shown.Orders.{Presentation, opened}
use Rattle.smil_grammar.specs.declared.read.Read.{Read}
use Rattle.smil_grammar.specs.declared.read.Read.TheVariants.{To}
use Rattle.smil_grammar.specs.Results.{◌>>=◌}
use Rattle.smil_words.specs.declared.mode.Mode.{Mode}
use Rattle.smil_words.specs.declared.mode.Mode.TheVariants as mode
use Rattle.smil_live.specs.Counts.{most_loading, least_loading, most_number, least_number}
use Rattle.smil_top.specs.declared.fault.Fault.{Fault}
use Rattle.smil_top.specs.declared.status.Status.{Status}
use Rattle.smil_top.specs.Cut.{LoadLines, OrderLines, single, load, orders}
use Rattle.smil_top.specs.Session.{Session, empty_session, presentation_of, may_load}
use Rattle.smil_top.specs.Answers.{LoadedDocument, at_line, read_of, found_presentation, given_within, answer_of}
use Rattle.smil_top.specs.Words.{is_told}
use Rattle.smil_top.specs.Serving.{Serves}
use Rattle.smil_top.specs.Laws.{with_ease, answered_by, any_refused_as, session_after}

-- ---- one order

-- a bound on evaluations: for an order to a presentation, and for a load that opens one
pub record Bound : Type 0 where
  pub number : Presentation → Order → ℕ
  pub loading : Presentation → ℕ

-- at most
abbrev pub most : Bound
most = record { number = most_number; loading = most_loading }

-- at least
abbrev pub least : Bound
least = record { number = least_number; loading = least_loading }

-- of an order to the presentation of this name, in the state in which it is answered
abbrev pub ordered_number : Bound → Session → List ℕ → Order → Result ℕ Refusal
ordered_number bound session name order = do
  before ← found_presentation (presentation_of name session)
  Ok (bound.number before order)

-- by what the line says; a close, a preference and a blank line have 0
abbrev pub said_number : Bound → Session → Read → Result ℕ Refusal
said_number bound session (To name order) = ordered_number bound session name order
said_number bound session _ = Ok 0

-- of a single line
abbrev pub line_number : Bound → Session → List ℕ → Result ℕ Refusal
line_number bound session text = read_of text >>= said_number bound session

-- of the presentation that a load opens
abbrev pub loaded_number : Bound → Session → LoadedDocument → Result ℕ Refusal
loaded_number bound session given = do
  free ← may_load given.name session
  loaded ← opened given.document
  Ok (bound.loading loaded)

-- of the lines of a load, and the line that ends it
abbrev pub load_number : Bound → Session → LoadLines → ℕ → Result ℕ Fault
load_number bound session lines end_line = do
  given ← given_within limits session.wanted lines end_line
  at_line lines.head.number (loaded_number bound session given)

-- of an order; one that is refused has 0
abbrev pub number_of : Bound → Session → OrderLines → ℕ
number_of bound session (single line) = result_unwrap_or (line_number bound session line.text) 0
number_of bound session (load lines None) = 0
number_of bound session (load lines (Some end_line)) =
    result_unwrap_or (load_number bound session lines end_line) 0

-- the most for an order in a session
abbrev pub most_of : Session → OrderLines → ℕ
most_of session order = number_of most session order

-- and the least
abbrev pub least_of : Session → OrderLines → ℕ
least_of session order = number_of least session order

-- ---- all orders

-- the sum over orders, each in the session that the orders before it leave
abbrev pub sum_from : (Session → OrderLines → ℕ) → Session → List OrderLines → ℕ
sum_from number session [] = 0
sum_from number session (order ∷ others) =
    number session order + sum_from number (session_after session (answer_of session order)) others

-- from the empty session on
abbrev pub sum_of : (Session → OrderLines → ℕ) → List OrderLines → ℕ
sum_of number orders = sum_from number empty_session orders

-- the refusal of an order whose diary would have too many entries
abbrev pub is_diary_full : Refusal → Bool
is_diary_full DiaryFull = true
is_diary_full _ = false

-- whether one of the orders is refused for it
abbrev pub has_full_diary : List OrderLines → Bool
has_full_diary orders = any_refused_as is_diary_full (answered_by answer_of (map with_ease orders))

-- the orders had so many evaluations
pub record IsBounded (orders : List OrderLines) (rise : ℕ) : Type 0 where
  pub at_least : sum_of least_of orders ≤ rise
  pub at_most : rise ≤ sum_of most_of orders

-- the same where all were answered, and none was refused since memory ran out or a diary was full
abbrev pub AreEvaluated : Status → List OrderLines → ℕ → Type 0
AreEvaluated ended orders rise =
    is_told ended ≡ true → has_full_diary orders ≡ false → IsBounded orders rise

-- ---- by what the words ask for

-- the orders of a session that is run have so many evaluations
abbrev pub EvaluatesBy : Option Mode → Status → List ℕ → ℕ → Type 0
EvaluatesBy (Some mode.Run) ended came rise = AreEvaluated ended (orders (lines came)) rise
EvaluatesBy _ ended came rise = Unit {0}

-- what came from the source and went to the sink, and how often intervals were evaluated
pub record Evaluates (asked : Option Mode) (ended : Status)
    (before after taken_before taken_after : Option (List ℕ)) (room rise : ℕ) : Type 0 where
  pub serves : Serves asked ended before after taken_before taken_after room
  pub bounded : EvaluatesBy asked ended serves.came rise
