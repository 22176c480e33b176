-- Orders whose lines are given other numbers.
use Rattle.std.proofs.Common.{◌≡◌, ◌∷◌, ◌++◌, Bool, true, false, List, [], Option, Some, None, Result, Ok, Err, refl, ap, sym, subst, ◌∙◌}
use Rattle.std.specs.Prelude.{ℕ, ℤ, cond, pos, codes, map, if◌then◌else◌}
use Rattle.std.specs.List.{AllZip}
use Rattle.std.specs.Fmt.{signed_decimal}
use Rattle.smil_model.specs.declared.order.Order.{Order}
use Rattle.smil_model.specs.declared.order.Refusal.{Refusal}
use Rattle.smil_model.specs.declared.order.Refusal.TheVariants.{Memory}
use Rattle.smil_model.specs.document.Document.{Document}
use Rattle.smil_model.specs.document.Limits.{Limits}
use Rattle.smil_model.specs.shown.Orders.{Presentation, opened_within, outcome_within}
use Rattle.smil_model.specs.shown.Answers.{answer_text, load_text}
use Rattle.smil_model.specs.shown.Lines.{ok_line, closed_line}
use Rattle.smil_grammar.specs.declared.read.Read.{Read}
use Rattle.smil_grammar.specs.declared.read.Read.TheVariants.{Blank, Load, LoadAt, Prefer, Close, To}
use Rattle.smil_grammar.specs.Results.{◌>>=◌}
use Rattle.smil_grammar.specs.Scripts.{line_of}
use Rattle.smil_grammar.specs.Formats.{formats}
use Rattle.smil_grammar.specs.Outlines.{Outline, ended, version_of}
use Rattle.smil_switch.specs.Preferences.{Wanted}
use Rattle.smil_top.specs.Loading.{Loading, unread, loading_within}
use Rattle.smil_top.specs.declared.fault.Fault.{Fault}
use Rattle.smil_top.specs.Cut.{NumberedLine, OrderLines, single, load, first_line}
use Rattle.smil_top.specs.Session.{Session, empty_session, presentation_of, with_state, without, may_load}
use Rattle.smil_top.specs.Answers.{Answer, LoadedDocument, LoadHead, at_line, read_of, found_presentation, preferring, preferred_line, said_within, head_of, loading_from, given_within, loaded_within, answer_within}
use Rattle.smil_top.specs.Transcript.{Answering, takes_memory, untold}
use Rattle.smil_top.specs.Laws.{OrderAttempt, AnsweredOrder, answer_to, heard, session_after, answered_from, numbered_by, renumbered, renumbered_try, is_of, own_answered, AreSameBut, without_text, with_text, refused_at, AreAside}
use Rattle.smil_top.proofs.TranscriptAnswers.{sessions_from, sessions-told}

-- what a load gives, by its name, its outline and what the outline's end gives
abbrev pub document_from : List ℕ → Outline → Result Document Fault → Result LoadedDocument Fault
document_from name outline d = d >>= λ document. Ok (record { name = name; document = document; version = version_of outline })

module _ (allowed : Limits) (given : ℕ → ℕ) where
  -- the same with the line of a fault moved
  abbrev moved : {A : Type 0} → Result A Fault → Result A Fault
  moved (Ok x) = Ok x
  moved (Err fault) = Err (record { line = given fault.line; refusal = fault.refusal })

  at-moved : {A : Type 0} (line : ℕ) (r : Result A Refusal) → at_line (given line) r ≡ moved (at_line line r)
  at-moved line (Ok x) = refl
  at-moved line (Err refusal) = refl

  -- ---- what a load gives

  lines-step : (start : Option ℤ) (line : ℕ) (lines : List NumberedLine) (r : Result Loading Refusal)
      → ((more : Loading) → loading_from allowed start more (map (numbered_by given) lines) ≡ moved (loading_from allowed start more lines))
      → (at_line (given line) r >>= λ more. loading_from allowed start more (map (numbered_by given) lines)) ≡ moved (at_line line r >>= λ more. loading_from allowed start more lines)
  lines-step start line lines (Ok more) rest = rest more
  lines-step start line lines (Err refusal) rest = refl

  loading-moved : (start : Option ℤ) (loading : Loading) (lines : List NumberedLine) → loading_from allowed start loading (map (numbered_by given) lines) ≡ moved (loading_from allowed start loading lines)
  loading-moved start loading [] = refl
  loading-moved start loading (line ∷ lines) = lines-step start line.number lines (loading_within allowed start loading line.text) (λ more. loading-moved start more lines)

  ended-moved : (name : List ℕ) (outline : Outline) (end_line : ℕ) (d : Result Document Refusal)
      → document_from name outline (at_line (given end_line) d) ≡ moved (document_from name outline (at_line end_line d))
  ended-moved name outline end_line (Ok document) = refl
  ended-moved name outline end_line (Err refusal) = refl

  abbrev nodes_from : List ℕ → ℕ → Result Loading Fault → Result LoadedDocument Fault
  nodes_from name end_line o = o >>= λ loading. document_from name loading.outline (at_line end_line (ended loading.outline))

  nodes-moved : (name : List ℕ) (end_line : ℕ) (o : Result Loading Fault) → nodes_from name (given end_line) (moved o) ≡ moved (nodes_from name end_line o)
  nodes-moved name end_line (Ok loading) = ended-moved name loading.outline end_line (ended loading.outline)
  nodes-moved name end_line (Err fault) = refl

  head-moved : (wanted : Wanted) (line end_line : ℕ) (nodes : List NumberedLine) (r : Result LoadHead Refusal)
      → (at_line (given line) r >>= λ head. nodes_from head.name (given end_line) (loading_from allowed head.start (unread wanted) (map (numbered_by given) nodes)))
      ≡ moved (at_line line r >>= λ head. nodes_from head.name end_line (loading_from allowed head.start (unread wanted) nodes))
  head-moved wanted line end_line nodes (Ok head) = ap (nodes_from head.name (given end_line)) (loading-moved head.start (unread wanted) nodes) ∙ nodes-moved head.name end_line (loading_from allowed head.start (unread wanted) nodes)
  head-moved wanted line end_line nodes (Err refusal) = refl

  -- ---- answers

  module _ (session : Session) where
    -- two answers of an order of this line, before and after
    abbrev Same : ℕ → Answer → Answer → Type 0
    Same line answer other = AreSameBut given line (heard answer) (heard other) × (session_after session other ≡ session_after session answer)

    abbrev outcome_at : Order → List ℕ → Presentation → ℕ → Result Presentation Refusal → Answer
    outcome_at order name before line r = at_line line (r >>= λ after. Ok (record { text = answer_text formats before after order ++ ok_line line name (pos after.now); session = with_state name after session }))

    outcome_same : (line : ℕ) (order : Order) (name : List ℕ) (before : Presentation) (r : Result Presentation Refusal) → Same line (outcome_at order name before line r) (outcome_at order name before (given line) r)
    outcome_same line order name before (Ok after) = (with_text (answer_text formats before after order) (name ∷ signed_decimal (pos after.now) ∷ []), refl)
    outcome_same line order name before (Err refusal) = (refused_at line refusal, refl)

    abbrev ordered_at : Order → List ℕ → ℕ → Option Presentation → Answer
    ordered_at order name line p = at_line line (found_presentation p >>= λ before. outcome_within allowed formats before order >>= λ after.
        Ok (record { text = answer_text formats before after order ++ ok_line line name (pos after.now); session = with_state name after session }))

    ordered_same : (line : ℕ) (order : Order) (name : List ℕ) (p : Option Presentation) → Same line (ordered_at order name line p) (ordered_at order name (given line) p)
    ordered_same line order name (Some before) = outcome_same line order name before (outcome_within allowed formats before order)
    ordered_same line order name None = (refused_at line _, refl)

    abbrev closed_at : List ℕ → ℕ → Option Presentation → Answer
    closed_at name line p = at_line line (found_presentation p >>= λ before. Ok (record { text = closed_line line name; session = without name session }))

    closed_same : (line : ℕ) (name : List ℕ) (p : Option Presentation) → Same line (closed_at name line p) (closed_at name (given line) p)
    closed_same line name (Some before) = (with_text [] (name ∷ codes "closed" ∷ []), refl)
    closed_same line name None = (refused_at line _, refl)

    preferred_same : (line : ℕ) (r : Result Session Refusal)
        → Same line (at_line line (r >>= λ after. Ok (record { text = preferred_line line; session = after }))) (at_line (given line) (r >>= λ after. Ok (record { text = preferred_line (given line); session = after })))
    preferred_same line (Ok after) = (with_text [] (codes "prefer" ∷ []), refl)
    preferred_same line (Err refusal) = (refused_at line refusal, refl)

    read_same : (line : ℕ) (r : Result Read Refusal) → Same line (at_line line (r >>= said_within allowed session line)) (at_line (given line) (r >>= said_within allowed session (given line)))
    read_same line (Ok (To name order)) = ordered_same line order name (presentation_of name session)
    read_same line (Ok (Close name)) = closed_same line name (presentation_of name session)
    read_same line (Ok (Prefer word value)) = preferred_same line (preferring session word value)
    read_same line (Ok (Load name)) = (refused_at line _, refl)
    read_same line (Ok (LoadAt name start)) = (refused_at line _, refl)
    read_same line (Ok Blank) = (without_text, refl)
    read_same line (Err refusal) = (refused_at line refusal, refl)

    abbrev opened_at : LoadedDocument → ℕ → Result Presentation Refusal → Answer
    opened_at what line r = at_line line (r >>= λ loaded. Ok (record { text = load_text loaded ++ ok_line line what.name (pos loaded.now); session = record session { held = session.held ++ record { name = what.name; presentation = loaded } ∷ [] } }))

    opened_same : (line : ℕ) (what : LoadedDocument) (r : Result Presentation Refusal) → Same line (opened_at what line r) (opened_at what (given line) r)
    opened_same line what (Ok loaded) = (with_text (load_text loaded) (what.name ∷ signed_decimal (pos loaded.now) ∷ []), refl)
    opened_same line what (Err refusal) = (refused_at line refusal, refl)

    abbrev loaded_at : LoadedDocument → ℕ → Result (Unit {0}) Refusal → Answer
    loaded_at what line m = at_line line (m >>= λ free. opened_within allowed what.document >>= λ loaded.
        Ok (record { text = load_text loaded ++ ok_line line what.name (pos loaded.now); session = record session { held = session.held ++ record { name = what.name; presentation = loaded } ∷ [] } }))

    loaded_same : (line : ℕ) (what : LoadedDocument) (m : Result (Unit {0}) Refusal) → Same line (loaded_at what line m) (loaded_at what (given line) m)
    loaded_same line what (Ok free) = opened_same line what (opened_within allowed what.document)
    loaded_same line what (Err refusal) = (refused_at line refusal, refl)

    abbrev given_at : ℕ → Result LoadedDocument Fault → Answer
    given_at line g = g >>= λ what. at_line line (loaded_within allowed session line what)

    given_same : (line : ℕ) (g : Result LoadedDocument Fault) → Same line (given_at line g) (given_at (given line) (moved g))
    given_same line (Ok what) = loaded_same line what (may_load what.name session)
    given_same line (Err fault) = (refused_at fault.line fault.refusal, refl)

    order_same : (order : OrderLines) → Same (first_line order) (answer_within allowed session order) (answer_within allowed session (renumbered given order))
    order_same (single line) = read_same line.number (read_of line.text)
    order_same (load lines None) = (refused_at lines.head.number _, refl)
    order_same (load lines (Some end_line)) =
        subst (λ (g : Result LoadedDocument Fault). Same lines.head.number (given_at lines.head.number (given_within allowed session.wanted lines end_line)) (given_at (given lines.head.number) g))
        (sym (head-moved session.wanted lines.head.number end_line lines.nodes (line_of lines.head.text >>= head_of))) (given_same lines.head.number (given_within allowed session.wanted lines end_line))

    renumbered-first : (order : OrderLines) → first_line (renumbered given order) ≡ given (first_line order)
    renumbered-first (single line) = refl
    renumbered-first (load lines ended) = refl

    renumbered-takes : (order : OrderLines) → takes_memory (renumbered given order) ≡ takes_memory order
    renumbered-takes (single line) = refl
    renumbered-takes (load lines None) = refl
    renumbered-takes (load lines (Some end_line)) = refl

    -- memory ran out
    abbrev lack : OrderLines → Answer
    lack order = at_line (first_line order) (Err Memory)

    try_same : (order : OrderLines) (lacks : Bool) → Same (first_line order) (answer_to (answer_within allowed) session (record { order = order; lacks = lacks }))
        (answer_to (answer_within allowed) session (renumbered_try given (record { order = order; lacks = lacks })))
    try_same order true =
        subst (λ (b : Bool). Same (first_line order) (cond (takes_memory order) (lack order) (answer_within allowed session order)) (cond b (lack (renumbered given order)) (answer_within allowed session (renumbered given order)))) (sym (renumbered-takes order)) (by_need (takes_memory order))
      where
        by_need : (needs : Bool) → Same (first_line order) (cond needs (lack order) (answer_within allowed session order)) (cond needs (lack (renumbered given order)) (answer_within allowed session (renumbered given order)))
        by_need true = subst (λ (n : ℕ). Same (first_line order) (lack order) (at_line n (Err Memory))) (sym (renumbered-first order)) (refused_at (first_line order) Memory, refl)
        by_need false = order_same order
    try_same order false = order_same order

    one_same : (one : OrderAttempt) → Same (first_line one.order) (answer_to (answer_within allowed) session one) (answer_to (answer_within allowed) session (renumbered_try given one))
    one_same one = try_same one.order one.lacks

  -- ---- transcripts

  abbrev answering : Answering
  answering = answer_within allowed

  abbrev Pair : AnsweredOrder → AnsweredOrder → Type 0
  Pair one other = AreSameBut given (first_line one.order) one.answer other.answer

  answers_same : (session : Session) (tried : List OrderAttempt) → AllZip Pair (answered_from answering session tried) (answered_from answering session (map (renumbered_try given) tried))
  answers_same session [] = tt
  answers_same session (one ∷ others) =
      let same = one_same session one in
      let behind : List AnsweredOrder = answered_from answering (session_after session (answer_to answering session one)) others in (
        same.0,
        subst (λ (s : Session). AllZip Pair behind (answered_from answering s (map (renumbered_try given) others))) (sym same.1)
            (answers_same (session_after session (answer_to answering session one)) others),
      )

  sessions_same : (session : Session) (tried : List OrderAttempt) → sessions_from answering session (map (renumbered_try given) tried) ≡ sessions_from answering session tried
  sessions_same session [] = refl
  sessions_same session (one ∷ others) =
      ap (λ (s : Session). sessions_from answering s (map (renumbered_try given) others)) (one_same session one).1
      ∙ sessions_same (session_after session (answer_to answering session one)) others

  -- the answers to the orders of a name
  is_of-moved : (name : List ℕ) (order : OrderLines) → is_of name (renumbered given order) ≡ is_of name order
  is_of-moved name (single line) = refl
  is_of-moved name (load lines ended) = refl

  own-step : (b : Bool) (one other : AnsweredOrder) (answered others : List AnsweredOrder) → Pair one other → AllZip Pair answered others
      → AllZip Pair (if b then one ∷ answered else answered) (if b then other ∷ others else others)
  own-step true one other answered others same rest = (same, rest)
  own-step false one other answered others same rest = rest

  pub own_same : (name : List ℕ) (session : Session) (tried : List OrderAttempt)
      → AllZip Pair (own_answered name (answered_from answering session tried)) (own_answered name (answered_from answering session (map (renumbered_try given) tried)))
  own_same name session [] = tt
  own_same name session (one ∷ others) =
      let same = one_same session one in
      let answer : Answer = answer_to answering session one in
      let moved_answer : Answer = answer_to answering session (renumbered_try given one) in
      let here : AnsweredOrder = record { order = one.order; answer = heard answer } in
      let there : AnsweredOrder = record { order = renumbered given one.order; answer = heard moved_answer } in
      let behind : List AnsweredOrder = own_answered name (answered_from answering (session_after session answer) others) in
      let moved_behind : List AnsweredOrder = own_answered name (answered_from answering (session_after session moved_answer) (map (renumbered_try given) others)) in
      subst (λ (b : Bool). AllZip Pair (if is_of name one.order then here ∷ behind else behind) (if b then there ∷ moved_behind else moved_behind)) (sym (is_of-moved name one.order))
      (own-step (is_of name one.order) here there behind moved_behind same.0
      (subst (λ (s : Session). AllZip Pair behind (own_answered name (answered_from answering s (map (renumbered_try given) others)))) (sym same.1) (own_same name (session_after session answer) others)))

  pub are_aside : (tried : List OrderAttempt) → AreAside answering given tried
  are_aside tried = record {
    answers = answers_same empty_session tried;
    session = sessions-told answering untold (map (renumbered_try given) tried) ∙ sessions_same empty_session tried ∙ sym (sessions-told answering untold tried);
  }
