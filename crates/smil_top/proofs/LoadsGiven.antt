-- A load that was given by a call is one that was given by lines.
use Rattle.std.proofs.Common.{◌≡◌, ◌⊎◌, ℕ, suc, ◌+◌, ◌-◌, ◌≤◌, ◌<◌, min, length, Bool, true, false, List, [], ◌∷◌, ◌++◌, Some, Result, Ok, Err, refl, ap, sym, subst, ◌∙◌, append_assoc, inl, inr}
use Rattle.std.proofs.lemmas.List.{append-nil}
use Rattle.std.specs.Prelude.{pos, ◌&&◌, if◌then◌else◌}
use Rattle.smil_model.specs.declared.limits.TheConstants.{LINE_BYTES}
use Rattle.smil_model.specs.declared.order.Refusal.{Refusal}
use Rattle.smil_model.specs.declared.order.Refusal.TheVariants.{Memory}
use Rattle.smil_model.specs.document.Limits.{limits}
use Rattle.smil_model.specs.shown.Answers.{load_text}
use Rattle.smil_model.specs.shown.Lines.{ok_line}
use Rattle.smil_model.specs.shown.Orders.{Presentation, opened}
use Rattle.smil_grammar.specs.Scripts.{is_blank}
use Rattle.smil_outside.specs.Faults.{last_count}
use Rattle.smil_house.specs.House.{load_refusal}
use Rattle.smil_report.specs.declared.records.Change.{Change}
use Rattle.smil_report.specs.Records.{as_records}
use Rattle.smil_report.specs.Tellings.{load_told}
use Rattle.smil_switch.specs.Preferences.{Wanted}
use Rattle.smil_top.specs.declared.answer.Answer.{Answer as AnswerText}
use Rattle.smil_top.specs.declared.counts.Counts.{Counts}
use Rattle.smil_top.specs.declared.fault.Fault.{Fault}
use Rattle.smil_top.specs.declared.load.Load.{Load}
use Rattle.smil_top.specs.declared.loaded.LoadedDoc.{LoadedDoc as GivenDoc}
use Rattle.smil_top.specs.declared.run.Run.{Run}
use Rattle.smil_top.specs.declared.session.Session.{Session as SessionSoFar}
use Rattle.smil_top.specs.Answers.{AcceptedOrder, Answer, LoadedDocument, answer_of, at_line, given_within, loaded_within}
use Rattle.smil_top.specs.Cut.{LoadLines, NumberedLine, OrderLines, is_short, is_silent, load}
use Rattle.smil_top.specs.Evaluations.{Bound, number_of}
use Rattle.smil_top.specs.GivenLoads.{RecordsGiven, RecordsLoad, answered_as, nodes_from, outline_lines}
use Rattle.smil_top.specs.Houses.{Keeps}
use Rattle.smil_top.specs.Running.{AreCounted, EvaluatesOn, Gives, IsOrderCounted, IsRead, MakesAnswer, Tells, given_of, load_by, no_text, said, text_of, with_order}
use Rattle.smil_top.specs.Session.{Session}
use Rattle.smil_top.specs.Summary.{line_count}
use Rattle.smil_top.specs.Transcript.{TranscriptState, and_then, with_answer}
use Rattle.smil_top.proofs.AnswersMade.{in_house, joined, joined-keeps, loaded-is, unloaded, unmade-loaded}
use Rattle.smil_top.proofs.Carried.{never-below, same-memory}
use Rattle.smil_top.proofs.CutLines.{is_short-false, is_short-true}
use Rattle.smil_top.proofs.EvaluationCounts.{evaluated-on}
use Rattle.smil_top.proofs.TranscriptStep.{answer-load, answer_as, faulty, fine, load-made, told-counted, unread-made}

-- ---- the lines of an outline

-- with one more node
abbrev pub with_nodes : LoadLines → List NumberedLine → LoadLines
with_nodes lines more = record lines { nodes = lines.nodes ++ more }

nodes-by : (silent : Bool) (this : NumberedLine) (rest : List NumberedLine) → (if silent then rest else this ∷ rest) ≡ (if silent then [] else this ∷ []) ++ rest
nodes-by true this rest = refl
nodes-by false this rest = refl

pub nodes-first : (number : ℕ) (line : List ℕ) (lines : List (List ℕ)) → nodes_from number (line ∷ lines) ≡ nodes_from number (line ∷ []) ++ nodes_from (suc number) lines
nodes-first number line lines = nodes-by (is_silent line) (record { number = number; text = line }) (nodes_from (suc number) lines)

pub silent-node : (number : ℕ) (line : List ℕ) → is_silent line ≡ true → nodes_from number (line ∷ []) ≡ []
silent-node number line silent = ap (λ b. if b then [] else record { number = number; text = line } ∷ []) silent

pub loud-node : (number : ℕ) (line : List ℕ) → is_silent line ≡ false → nodes_from number (line ∷ []) ≡ record { number = number; text = line } ∷ []
loud-node number line loud = ap (λ b. if b then [] else record { number = number; text = line } ∷ []) loud

silent-is : (line : List ℕ) (short blank : Bool) → is_short line ≡ short → is_blank line ≡ blank → is_silent line ≡ (short && blank)
silent-is line short blank s b = ap (λ k. k && is_blank line) s ∙ ap (λ k. short && k) b

-- a silent line
pub silent-read : (one : Load) (number : ℕ) (line : List ℕ) → is_silent line ≡ true → (wanted : Wanted) (lines : LoadLines) → IsRead one wanted lines →
    IsRead one wanted (with_nodes lines (nodes_from number (line ∷ [])))
silent-read one number line silent wanted lines read =
    subst (λ (ns : List NumberedLine). IsRead one wanted (record lines { nodes = ns }))
    (sym (append-nil lines.nodes) ∙ ap (λ (ns : List NumberedLine). lines.nodes ++ ns) (sym (silent-node number line silent)))
    read

-- and one that is not
pub loud-read : (one : Load) (number : ℕ) (line : List ℕ) (silent : is_silent line ≡ false) (wanted : Wanted) (lines : LoadLines) → IsRead one wanted (with_nodes lines (record { number = number; text = line } ∷ [])) →
    IsRead one wanted (with_nodes lines (nodes_from number (line ∷ [])))
loud-read one number line silent wanted lines read =
    subst (λ (ns : List NumberedLine). IsRead one wanted (with_nodes lines ns)) (sym (loud-node number line silent)) read

pub loud-long : (line : List ℕ) → LINE_BYTES < length line → is_silent line ≡ false
loud-long line long = silent-is line false (is_blank line) (is_short-false line long) refl

pub silent-short : (line : List ℕ) → length line ≤ LINE_BYTES → is_silent line ≡ is_blank line
silent-short line short = silent-is line true (is_blank line) (is_short-true line short) refl

-- behind these lines of an outline, of which the rest is to be read
abbrev pub IsReadOn : Load → Load → ℕ → ℕ → List ℕ → List ℕ → Type 0
IsReadOn first now number last outline rest =
    (wanted : Wanted) (lines : LoadLines) → IsRead first wanted lines →
    (nodes : List NumberedLine) × IsRead now wanted (with_nodes lines nodes) × (nodes ++ nodes_from (suc last) (outline_lines rest) ≡ nodes_from (suc number) (outline_lines outline))

pub read-none : (first : Load) (number : ℕ) (outline : List ℕ) → IsReadOn first first number number outline outline
read-none first number outline wanted lines is =
    ([], subst (λ (ns : List NumberedLine). IsRead first wanted (record lines { nodes = ns })) (sym (append-nil lines.nodes)) is, refl)

-- reads one more
abbrev pub ReadsNode : Load → Load → ℕ → List ℕ → Type 0
ReadsNode before after number line =
    (wanted : Wanted) (lines : LoadLines) → IsRead before wanted lines → IsRead after wanted (with_nodes lines (nodes_from number (line ∷ [])))

read-further : (first now next : Load) (number last : ℕ) (outline rest line behind : List ℕ) → outline_lines rest ≡ line ∷ outline_lines behind → ReadsNode now next (suc last) line →
    IsReadOn first now number last outline rest → IsReadOn first next number (suc last) outline behind
read-further first now next number last outline rest line behind cut reads is wanted lines read =
    let so_far = is wanted lines read in
    let node : List NumberedLine = nodes_from (suc last) (line ∷ []) in
    let others : List NumberedLine = nodes_from (suc (suc last)) (outline_lines behind) in (
      so_far.0 ++ node,
      subst (λ (ns : List NumberedLine). IsRead next wanted (record lines { nodes = ns })) (append_assoc lines.nodes so_far.0 node) (reads wanted (with_nodes lines so_far.0) so_far.1),
      append_assoc so_far.0 node others
          ∙ ap (λ (ns : List NumberedLine). so_far.0 ++ ns) (sym (nodes-first (suc last) line (outline_lines behind)))
          ∙ ap (λ (ls : List (List ℕ)). so_far.0 ++ nodes_from (suc last) ls) (sym cut)
          ∙ so_far.2,
    )

pub read-more : (first now next : Load) (number last this : ℕ) (outline rest line behind : List ℕ) → this ≡ suc last → outline_lines rest ≡ line ∷ outline_lines behind → ReadsNode now next this line →
    IsReadOn first now number last outline rest → IsReadOn first next number this outline behind
read-more first now next number last this outline rest line behind same cut reads =
    subst (λ n. ReadsNode now next n line → IsReadOn first now number last outline rest → IsReadOn first next number n outline behind) (sym same)
    (read-further first now next number last outline rest line behind cut) reads

pub read-last : (first now next : Load) (number last this : ℕ) (outline rest : List ℕ) → this ≡ suc last → outline_lines rest ≡ rest ∷ [] → ReadsNode now next this rest →
    IsReadOn first now number last outline rest → (wanted : Wanted) (lines : LoadLines) → IsRead first wanted lines → IsRead next wanted (with_nodes lines (nodes_from (suc number) (outline_lines outline)))
read-last first now next number last this outline rest same alone reads is wanted lines read =
    let so_far = is wanted lines read in
    let node : List NumberedLine = nodes_from this (rest ∷ []) in
    subst (λ (ns : List NumberedLine). IsRead next wanted (record lines { nodes = ns }))
    (append_assoc lines.nodes so_far.0 node
    ∙ ap (λ (ns : List NumberedLine). lines.nodes ++ ns) (ap (λ n. so_far.0 ++ nodes_from n (rest ∷ [])) same ∙ ap (λ (ls : List (List ℕ)). so_far.0 ++ nodes_from (suc last) ls) (sym alone) ∙ so_far.2))
    (reads wanted (with_nodes lines so_far.0) so_far.1)

-- ---- by the presentations

module _ (given : LoadedDocument) (so_far : SessionSoFar) (session : Session) (number : ℕ) (keeps : Keeps so_far session) where
  pub given-recorded : (p : Presentation) (changes : List Change) → load_refusal given.name so_far.house ≡ Ok tt → opened given.document ≡ Ok p → changes ≡ load_told as_records p →
      RecordsGiven (Ok tt) changes (in_house so_far (so_far.house ++ record { name = given.name; player = p } ∷ [])) session (loaded_within limits session number given)
  given-recorded p changes free is told =
      let after : Session = joined given so_far session number keeps p in (
        record { text = load_text p ++ ok_line number given.name (pos p.now); session = after },
        loaded-is given so_far session number keeps p free is,
        joined-keeps given so_far session number keeps p free,
        record { name = given.name; loaded = p; held_is = refl; changes_are = told },
      )

  pub given-unopened : (changes : List Change) (refusal : Refusal) → changes ≡ [] → load_refusal given.name so_far.house ≡ Ok tt → (refusal ≡ Memory) ⊎ (opened given.document ≡ Err refusal) →
      RecordsGiven (Err refusal) changes so_far session (loaded_within limits session number given)
  given-unopened changes refusal empty free refused =
      let unmade = unmade-loaded given so_far session number keeps no_text refusal free refused in (empty, unmade.0, unmade.1)

  pub given-untaken : (changes : List Change) (refusal : Refusal) → changes ≡ [] → load_refusal given.name so_far.house ≡ Err refusal →
      RecordsGiven (Err refusal) changes so_far session (loaded_within limits session number given)
  given-untaken changes refusal empty taken = let unmade = unloaded given so_far session number keeps no_text refusal taken in (empty, unmade.0, unmade.1)

-- an accepted order with its text in one piece
abbrev pub whole_text : AcceptedOrder → AnswerText
whole_text accepted = record { told = accepted.text; last = [] }

abbrev accepted_with : AcceptedOrder → List ℕ → AcceptedOrder
accepted_with accepted text = record { text = text; session = accepted.session }

pub whole-is : (accepted : AcceptedOrder) → accepted ≡ accepted_with accepted (text_of (whole_text accepted))
whole-is accepted = sym (ap (accepted_with accepted) (append-nil accepted.text))

-- what a load gave, as a whole order
pub given-order : (r : Result (Unit {0}) Refusal) (changes : List Change) (so_far : SessionSoFar) (session : Session) (lines : LoadLines) (line end_line : ℕ) (given : GivenDoc) →
    line ≡ lines.head.number →
    Gives (Ok given) (given_within limits session.wanted lines end_line) ⊎ (fine given ≡ Err (record { line = lines.head.number; refusal = Memory })) →
    RecordsGiven r changes so_far session (loaded_within limits session line (given_of given)) → RecordsLoad (at_line line r) changes so_far session (load lines (Some end_line))
given-order (Ok done) changes so_far session lines line end_line given same (inr never) is = absurd cc
given-order (Ok done) changes so_far session lines line end_line given same (inl gives) is = (
  is.0,
  answer-load false session lines end_line (Ok (given_of given)) gives
      ∙ ap (λ n. at_line n (load_by false session n (given_of given))) (sym same)
      ∙ ap (at_line line) is.1,
  is.2,
  is.3,
)
given-order (Err refusal) changes so_far session lines line end_line given same gives is =
    let made = load-made false (Err refusal) no_text so_far session lines line end_line given same gives (is.1, is.2) in
    (is.0, made.0, made.1)

pub unread-order : (changes : List Change) (so_far : SessionSoFar) (session : Session) (lines : LoadLines) (end_line : ℕ) (fault : Fault) → changes ≡ [] → Keeps so_far session →
    Gives (Err fault) (given_within limits session.wanted lines end_line) ⊎ (faulty fault ≡ Err (record { line = lines.head.number; refusal = Memory })) →
    RecordsLoad (Err fault) changes so_far session (load lines (Some end_line))
unread-order changes so_far session lines end_line fault empty keeps gives =
    let made = unread-made false no_text so_far session lines end_line fault keeps gives in (empty, made.0, made.1)

-- ---- by the lines

-- the text of its answer
pub recorded-makes : (r : Result (Unit {0}) Fault) (changes : List Change) (so_far : SessionSoFar) (session : Session) (order : OrderLines) → RecordsLoad r changes so_far session order →
    (text : AnswerText) × MakesAnswer r text so_far session answer_of order
recorded-makes (Ok done) changes so_far session order is = (whole_text is.0, ((is.0).session, is.2, is.1 ∙ ap Ok (whole-is is.0)))
recorded-makes (Err fault) changes so_far session order is = (no_text, (is.1, is.2))

module _ (run new : Run) (whole : List OrderLines) (told : TranscriptState) (order : OrderLines) (tells : Tells false run whole told) where
  -- the counts behind it, where no lines are counted
  counts-on : (r : Result (Unit {0}) Fault) (text : AnswerText) (after : Session) → new.counts ≡ with_order r last_count run.counts →
      AreCounted new.counts (whole ++ order ∷ []) (with_answer told (answer_as r text after))
  counts-on r text after counts =
      subst (λ (k : Counts). AreCounted k (whole ++ order ∷ []) (with_answer told (answer_as r text after))) (sym counts)
      (told-counted r text last_count run.counts whole told order after (λ below. absurd (never-below last_count below)) tells.counted)

  pub made-tells : (r : Result (Unit {0}) Fault) (text : AnswerText) → MakesAnswer r text new.session told.session answer_of order → new.session.checks ≡ run.session.checks →
      new.counts ≡ with_order r last_count run.counts → Tells false new (whole ++ order ∷ []) (with_answer told (answered_as r told.session order))
  made-tells (Ok done) text made same counts = record {
    checks_is = same ∙ tells.checks_is;
    transcript = and_then tells.transcript order (answer_of told.session order) (inl refl);
    keeps = subst (λ (a : Answer). Keeps new.session (with_answer told a).session) (sym made.2) made.1;
    counted = subst (λ (a : Answer). AreCounted new.counts (whole ++ order ∷ []) (with_answer told a)) (sym made.2) (counts-on (Ok tt) text made.0 counts);
  }
  made-tells (Err fault) text made same counts = record {
    checks_is = same ∙ tells.checks_is;
    transcript = and_then tells.transcript order (Err fault) made.1;
    keeps = made.0;
    counted = counts-on (Err fault) text told.session counts;
  }

  pub made-evaluated : (r : Result (Unit {0}) Fault) (text : AnswerText) (before after : ℕ) → MakesAnswer r text new.session told.session answer_of order →
      IsOrderCounted r (λ (bound : Bound). number_of bound told.session order) (after - before) → before ≤ after → new.counts ≡ with_order r last_count run.counts →
      EvaluatesOn run.counts new.counts whole (whole ++ order ∷ []) before after
  made-evaluated r text before after made counted le counts =
      evaluated-on order r text new.session before after tells made counted le
      (ap (λ (k : Counts). k.memory) counts ∙ same-memory r last_count (min (line_count (said r text)) last_count) run.counts)
