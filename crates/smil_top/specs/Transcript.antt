-- The transcript of a session: the answers to its orders, one after another.
use Rattle.std.specs.Prelude.{◌≡◌, ◌⊎◌, ℕ, suc, Bool, true, false, ◌&&◌, ◌||◌, List, [], ◌∷◌, ◌++◌, fold, is_some, Ok, Err, if◌then◌else◌}
use Rattle.smil_model.specs.declared.order.Refusal.{Refusal}
use Rattle.smil_model.specs.declared.order.Refusal.TheVariants.{Memory}
use Rattle.smil_model.specs.document.Limits.{Limits}
use Rattle.smil_model.specs.shown.Lines.{refusal_line}
use Rattle.smil_script.specs.Copies.{line_copies}
use Rattle.smil_top.specs.Cut.{OrderLines, single, load, first_line, is_short}
use Rattle.smil_top.specs.Session.{Session, empty_session}
use Rattle.smil_top.specs.Answers.{Answer, at_line, answer_within, answer_of, check_of}

-- how orders are answered, if memory suffices
abbrev pub Answering : Type 0
Answering = Session → OrderLines → Answer

-- an order for which memory is taken: a line that is too long, one that is no order and names no
-- element, and a load that doesn't end take none
abbrev pub takes_memory : OrderLines → Bool
takes_memory (single line) = is_short line.text && line_copies line.text
takes_memory (load lines ended) = is_some ended

-- an order is answered so, or refused since memory ran out that is taken for it
abbrev pub MayAnswer : Answering → Session → OrderLines → Answer → Type 0
MayAnswer answering session order answer =
    (answer ≡ answering session order)
    ⊎ ((takes_memory order ≡ true) × (answer ≡ at_line (first_line order) (Err Memory)))

-- the text so far, the session, how many orders were refused for a fault,
-- and whether one was since memory ran out
pub record TranscriptState : Type 0 where
  pub text : List ℕ
  pub session : Session
  pub refused : ℕ
  pub memory : Bool

-- before the first order
abbrev pub untold : TranscriptState
untold = record { text = []; session = empty_session; refused = 0; memory = false }

-- memory ran out
abbrev pub is_memory : Refusal → Bool
is_memory Memory = true
is_memory _ = false

-- with one more answer; a refused order leaves the session as it was
abbrev pub with_answer : TranscriptState → Answer → TranscriptState
with_answer told (Ok accepted) =
    record told { text = told.text ++ accepted.text; session = accepted.session }
with_answer told (Err fault) = record told {
  text = told.text ++ refusal_line fault.line fault.refusal;
  refused = if is_memory fault.refusal then told.refused else suc told.refused;
  memory = told.memory || is_memory fault.refusal;
}

-- the orders were answered in turn, each in the session that the orders before it left
pub data IsTranscriptBy (answering : Answering) : List OrderLines → TranscriptState → Type 0 where
  of_nothing : IsTranscriptBy answering [] untold
  and_then :
      {orders : List OrderLines} {told : TranscriptState} → IsTranscriptBy answering orders told
      → (order : OrderLines) → (answer : Answer) → MayAnswer answering told.session order answer
      → IsTranscriptBy answering (orders ++ order ∷ []) (with_answer told answer)

-- of a session that is run, within limits
abbrev pub IsTranscriptWithin : Limits → List OrderLines → TranscriptState → Type 0
IsTranscriptWithin allowed orders told = IsTranscriptBy (answer_within allowed) orders told

-- and within those that hold
abbrev pub IsTranscript : List OrderLines → TranscriptState → Type 0
IsTranscript orders told = IsTranscriptBy answer_of orders told

-- of a session that is checked
abbrev pub IsChecked : List OrderLines → TranscriptState → Type 0
IsChecked orders told = IsTranscriptBy check_of orders told

-- the one transcript in which no order was refused since memory ran out
abbrev pub transcript_by : Answering → List OrderLines → TranscriptState
transcript_by answering orders =
    fold (λ told order. with_answer told (answering told.session order)) untold orders
