-- Sums of bounds over orders, and which orders are refused for a full diary.
use Rattle.std.proofs.Common.{◌≡◌, ℕ, ◌+◌, Bool, false, List, [], ◌∷◌, ◌++◌, Option, Some, None, Result, Ok, Err, refl, ap, sym, subst, ◌∙◌, arith, add_assoc}
use Rattle.std.specs.Prelude.{pos, fold, map}
use Rattle.std.specs.Result.{result_unwrap_or}
use Rattle.std.proofs.lemmas.Bool.{or_parts, or_from}
use Rattle.smil_model.specs.declared.order.Order.{Order}
use Rattle.smil_model.specs.declared.order.Refusal.{Refusal}
use Rattle.smil_model.specs.document.Limits.{limits}
use Rattle.smil_model.specs.shown.Orders.{Presentation, opened, outcome}
use Rattle.smil_model.specs.shown.Answers.{answer_text, load_text}
use Rattle.smil_model.specs.shown.Lines.{ok_line}
use Rattle.smil_grammar.specs.declared.read.Read.{Read}
use Rattle.smil_grammar.specs.declared.read.Read.TheVariants.{Blank, Load, LoadAt, Prefer, Close, To}
use Rattle.smil_grammar.specs.Formats.{formats}
use Rattle.smil_grammar.specs.Results.{◌>>=◌}
use Rattle.smil_live.specs.Counts.{least_between, when_accepted}
use Rattle.smil_top.specs.declared.fault.Fault.{Fault}
use Rattle.smil_top.specs.Cut.{OrderLines, single, load}
use Rattle.smil_top.specs.Session.{Session, presentation_of, with_state, may_load}
use Rattle.smil_top.specs.Answers.{AcceptedOrder, Answer, LoadedDocument, at_line, read_of, found_presentation, said_within, given_within, loaded_within, answer_of}
use Rattle.smil_top.specs.Transcript.{TranscriptState, with_answer}
use Rattle.smil_top.specs.Laws.{with_ease, heard, session_after, answered_from, refuses_as, any_refused_as}
use Rattle.smil_top.specs.Evaluations.{Bound, least, number_of, loaded_number, said_number, sum_from, is_diary_full}
use Rattle.smil_top.proofs.TranscriptAnswers.{session_with}

-- ---- one order more

-- what is told once these orders were answered too
abbrev pub told_on : TranscriptState → List OrderLines → TranscriptState
told_on told orders = fold (λ (t : TranscriptState) (order : OrderLines). with_answer t (answer_of t.session order)) told orders

-- its bound is added, in the session that the orders before it left
pub sum-snoc : (number : Session → OrderLines → ℕ) (told : TranscriptState) (orders : List OrderLines) (order : OrderLines) →
    sum_from number told.session (orders ++ order ∷ []) ≡ sum_from number told.session orders + number (told_on told orders).session order
sum-snoc number told [] order = omega arith
sum-snoc number told (first ∷ others) order =
    let answer : Answer = answer_of told.session first in
    let next : TranscriptState = with_answer told answer in
    let last : ℕ = number (told_on next others).session order in
    let behind : sum_from number (session_after told.session answer) (others ++ order ∷ []) ≡ sum_from number (session_after told.session answer) others + last =
    subst (λ (s : Session). sum_from number s (others ++ order ∷ []) ≡ sum_from number s others + last) (session_with told answer) (sum-snoc number next others order)
    in
    ap (λ n. number told.session first + n) behind
    ∙ sym (add_assoc (number told.session first) (sum_from number (session_after told.session answer) others) last)

abbrev is_full_from : Session → List OrderLines → Bool
is_full_from session orders = any_refused_as is_diary_full (answered_from answer_of session (map with_ease orders))

-- where none is refused so, none before it is, nor is it
pub full-snoc : (told : TranscriptState) (orders : List OrderLines) (order : OrderLines) → is_full_from told.session (orders ++ order ∷ []) ≡ false →
    (is_full_from told.session orders ≡ false) × (refuses_as is_diary_full (heard (answer_of (told_on told orders).session order)) ≡ false)
full-snoc told [] order none = (refl, (or_parts (refuses_as is_diary_full (heard (answer_of told.session order))) false none).0)
full-snoc told (first ∷ others) order none =
    let answer : Answer = answer_of told.session first in
    let next : TranscriptState = with_answer told answer in
    let here : Bool = refuses_as is_diary_full (heard answer) in
    let parts = or_parts here (is_full_from (session_after told.session answer) (others ++ order ∷ [])) none in
    let behind = full-snoc next others order (ap (λ (s : Session). is_full_from s (others ++ order ∷ [])) (session_with told answer) ∙ parts.1) in
    let before : is_full_from (session_after told.session answer) others ≡ false = ap (λ (s : Session). is_full_from s others) (sym (session_with told answer)) ∙ behind.0 in
    (or_from here (is_full_from (session_after told.session answer) others) parts.0 before, behind.1)

-- ---- refused orders

-- an order that a presentation refuses has 0
abbrev pub SparesRefused : Bound → Type 0
SparesRefused bound = (p : Presentation) (order : Order) (refusal : Refusal) → outcome formats p order ≡ Err refusal → bound.number p order ≡ 0

pub least_spares : SparesRefused least
least_spares p order refusal is = ap (λ (r : Result Presentation Refusal). when_accepted r (least_between p order)) is

module _ (bound : Bound) (spares : SparesRefused bound) (session : Session) (line : ℕ) (fault : Fault) where
  ordered_by : List ℕ → Order → Presentation → Result Presentation Refusal → Result AcceptedOrder Refusal
  ordered_by name order before outcome = outcome >>= λ (after : Presentation). Ok (record {
    text = answer_text formats before after order ++ ok_line line name (pos after.now);
    session = with_state name after session;
  })

  outcome-0 : (name : List ℕ) (order : Order) (p : Presentation) (r : Result Presentation Refusal) → outcome formats p order ≡ r →
      at_line line (ordered_by name order p r) ≡ Err fault → bound.number p order ≡ 0
  unfolding ordered_by
  outcome-0 name order p (Ok q) is refused = absurd cc
  outcome-0 name order p (Err refusal) is refused = spares p order refusal is

  held-0 : (name : List ℕ) (order : Order) (o : Option Presentation) → at_line line (found_presentation o >>= λ (p : Presentation). ordered_by name order p (outcome formats p order)) ≡ Err fault →
      result_unwrap_or (found_presentation o >>= λ (p : Presentation). Ok (bound.number p order)) 0 ≡ 0
  held-0 name order None refused = refl
  held-0 name order (Some p) refused = outcome-0 name order p (outcome formats p order) refl refused

  said-0 : (r : Result Read Refusal) → at_line line (r >>= said_within limits session line) ≡ Err fault → result_unwrap_or (r >>= said_number bound session) 0 ≡ 0
  unfolding ordered_by
  said-0 (Err refusal) refused = refl
  said-0 (Ok Blank) refused = refl
  said-0 (Ok (Prefer word value)) refused = refl
  said-0 (Ok (Load name)) refused = refl
  said-0 (Ok (LoadAt name start)) refused = refl
  said-0 (Ok (Close name)) refused = refl
  said-0 (Ok (To name order)) refused = held-0 name order (presentation_of name session) refused

  -- what is loaded is accepted
  abbrev loaded_by : LoadedDocument → Result (Unit {0}) Refusal → Result Presentation Refusal → Result AcceptedOrder Refusal
  loaded_by given free loaded = free >>= λ done. loaded >>= λ (p : Presentation). Ok (record {
    text = load_text p ++ ok_line line given.name (pos p.now);
    session = record session { held = session.held ++ record { name = given.name; presentation = p } ∷ [] };
  })

  abbrev number_by : Result (Unit {0}) Refusal → Result Presentation Refusal → Result ℕ Refusal
  number_by free loaded = free >>= λ done. loaded >>= λ (p : Presentation). Ok (bound.loading p)

  loaded-0 : (given : LoadedDocument) (free : Result (Unit {0}) Refusal) (loaded : Result Presentation Refusal) → at_line line (loaded_by given free loaded) ≡ Err fault →
      result_unwrap_or (at_line line (number_by free loaded)) 0 ≡ 0
  loaded-0 given (Err refusal) loaded refused = refl
  loaded-0 given (Ok done) (Err refusal) refused = refl
  loaded-0 given (Ok done) (Ok p) refused = absurd cc

  given-0 : (r : Result LoadedDocument Fault) → (r >>= λ given. at_line line (loaded_within limits session line given)) ≡ Err fault →
      result_unwrap_or (r >>= λ given. at_line line (loaded_number bound session given)) 0 ≡ 0
  given-0 (Err e) refused = refl
  given-0 (Ok given) refused = loaded-0 given (may_load given.name session) (opened given.document) refused

-- so does an order that a session refuses
pub refused-0 : (bound : Bound) → SparesRefused bound → (session : Session) (order : OrderLines) (fault : Fault) → answer_of session order ≡ Err fault →
    number_of bound session order ≡ 0
refused-0 bound spares session (single line) fault refused = said-0 bound spares session line.number fault (read_of line.text) refused
refused-0 bound spares session (load lines None) fault refused = refl
refused-0 bound spares session (load lines (Some end_line)) fault refused = given-0 bound spares session lines.head.number fault (given_within limits session.wanted lines end_line) refused
