-- The orders of a name alone.
use Rattle.std.proofs.Common.{◌≡◌, ◌∷◌, inl, inr, Bool, true, false, List, [], Err, refl, ap, sym, subst, ◌∙◌}
use Rattle.std.specs.Prelude.{ℕ, cond, map, filter, if◌then◌else◌}
use Rattle.std.proofs.lemmas.Bool.{or_parts, or_cases}
use Rattle.smil_model.specs.declared.order.Refusal.TheVariants.{Memory}
use Rattle.smil_model.specs.document.Limits.{Limits}
use Rattle.smil_grammar.specs.Scripts.{is_presentation_name}
use Rattle.smil_top.specs.Cut.{OrderLines, first_line}
use Rattle.smil_top.specs.Session.{Session, empty_session}
use Rattle.smil_top.specs.Answers.{Answer, at_line, answer_within}
use Rattle.smil_top.specs.Transcript.{Answering, takes_memory, untold}
use Rattle.smil_top.specs.Laws.{OrderAttempt, AnsweredOrder, Heard, answer_to, heard, session_after, answered_from, answered_by, refuses_as, any_refused_as, is_of, is_preferring, concerns, own_answered, part_of, is_too_many, renumbered_try, AllSameBut, IsAlone}
use Rattle.smil_top.proofs.OrdersByName.{own_order, preferring_order, other_order}
use Rattle.smil_top.proofs.LineNumbers.{own_same}
use Rattle.smil_top.proofs.TranscriptAnswers.{sessions_from, sessions-told}

module _ (allowed : Limits) (name : List ℕ) (is_name : is_presentation_name name ≡ true) where
  abbrev answering : Answering
  answering = answer_within allowed

  abbrev own : List OrderAttempt → List OrderAttempt
  own tried = filter (λ (one : OrderAttempt). concerns name one.order) tried

  -- one order more, of the name or not
  record Same (session : Session) (one : OrderAttempt) : Type 0 where
    answer : heard (answer_to answering (part_of name session) one) ≡ heard (answer_to answering session one)
    after : session_after (part_of name session) (answer_to answering (part_of name session) one) ≡ part_of name (session_after session (answer_to answering session one))

  -- memory ran out
  abbrev lack : OrderLines → Answer
  lack order = at_line (first_line order) (Err Memory)

  own_plain : (session : Session) (order : OrderLines) → concerns name order ≡ true
      → refuses_as is_too_many (heard (answering session order)) ≡ false → Same session (record { order = order; lacks = false })
  own_plain session order h few = elim (or_cases (is_of name order) (is_preferring order) h) as (λ _. Same session (record { order = order; lacks = false })) [
    | inl d ↦ (let own = own_order allowed name session order is_name d few in record { answer = own.answer; after = own.after })
    | inr d ↦ (let own = preferring_order allowed name session order d in record { answer = own.answer; after = own.after })
  ]

  own_by : (session : Session) (order : OrderLines) (lacks : Bool) → concerns name order ≡ true
      → refuses_as is_too_many (heard (answer_to answering session (record { order = order; lacks = lacks }))) ≡ false → Same session (record { order = order; lacks = lacks })
  own_by session order false h few = own_plain session order h few
  own_by session order true h few = let both = by_need (takes_memory order) few in record { answer = both.0; after = both.1 }
    where
      by_need : (needs : Bool) → refuses_as is_too_many (heard (cond needs (lack order) (answering session order))) ≡ false
          → (heard (cond needs (lack order) (answering (part_of name session) order)) ≡ heard (cond needs (lack order) (answering session order)))
          × (session_after (part_of name session) (cond needs (lack order) (answering (part_of name session) order)) ≡ part_of name (session_after session (cond needs (lack order) (answering session order))))
      by_need true k = (refl, refl)
      by_need false k = let own = own_plain session order h k in (own.answer, own.after)

  own_one : (session : Session) (one : OrderAttempt) → concerns name one.order ≡ true → refuses_as is_too_many (heard (answer_to answering session one)) ≡ false → Same session one
  own_one session one h few = own_by session one.order one.lacks h few

  other_by : (session : Session) (order : OrderLines) (lacks : Bool) → concerns name order ≡ false
      → part_of name (session_after session (answer_to answering session (record { order = order; lacks = lacks }))) ≡ part_of name session
  other_by session order true h = by_need (takes_memory order)
    where
      by_need : (needs : Bool) → part_of name (session_after session (cond needs (lack order) (answering session order))) ≡ part_of name session
      by_need true = refl
      by_need false = other_order allowed name session order h
  other_by session order false h = other_order allowed name session order h

  other_one : (session : Session) (one : OrderAttempt) → concerns name one.order ≡ false → part_of name (session_after session (answer_to answering session one)) ≡ part_of name session
  other_one session one h = other_by session one.order one.lacks h

  -- the answers of orders that follow, by one more
  abbrev with_one : OrderAttempt → Heard → List AnsweredOrder → List AnsweredOrder
  with_one one answer answered = if is_of name one.order then record { order = one.order; answer = answer } ∷ answered else answered

  answers-step : (session : Session) (one : OrderAttempt) (others : List OrderAttempt) (answered : List AnsweredOrder) (b : Bool) → concerns name one.order ≡ b
      → refuses_as is_too_many (heard (answer_to answering session one)) ≡ false
      → answered ≡ own_answered name (answered_from answering (part_of name (session_after session (answer_to answering session one))) others)
      → with_one one (heard (answer_to answering session one)) answered
      ≡ own_answered name (answered_from answering (part_of name session) (if b then one ∷ others else others))
  answers-step session one others answered true h few rest =
      let same = own_one session one h few in
      ap (with_one one (heard (answer_to answering session one))) rest
      ∙ ap (λ (s : Session). with_one one (heard (answer_to answering session one)) (own_answered name (answered_from answering s others))) (sym same.after)
      ∙ ap (λ (a : Heard). with_one one a (own_answered name (answered_from answering (session_after (part_of name session) (answer_to answering (part_of name session) one)) others))) (sym same.answer)
  answers-step session one others answered false h few rest =
      ap (λ (b : Bool). if b then record { order = one.order; answer = heard (answer_to answering session one) } ∷ answered else answered) (or_parts (is_of name one.order) (is_preferring one.order) h).0
      ∙ rest ∙ ap (λ (s : Session). own_answered name (answered_from answering s others)) (other_one session one h)

  answers_alone : (session : Session) (tried : List OrderAttempt) → any_refused_as is_too_many (answered_from answering session tried) ≡ false
      → own_answered name (answered_from answering session tried) ≡ own_answered name (answered_from answering (part_of name session) (own tried))
  answers_alone session [] few = refl
  answers_alone session (one ∷ others) few =
      let answer : Answer = answer_to answering session one in
      let parts = or_parts (refuses_as is_too_many (heard answer)) (any_refused_as is_too_many (answered_from answering (session_after session answer) others)) few in
      answers-step session one (own others) (own_answered name (answered_from answering (session_after session answer) others)) (concerns name one.order) refl parts.0
      (answers_alone (session_after session answer) others parts.1)

  session-step : (session : Session) (one : OrderAttempt) (others : List OrderAttempt) (left : Session) (b : Bool) → concerns name one.order ≡ b
      → refuses_as is_too_many (heard (answer_to answering session one)) ≡ false
      → left ≡ sessions_from answering (part_of name (session_after session (answer_to answering session one))) others
      → left ≡ sessions_from answering (part_of name session) (if b then one ∷ others else others)
  session-step session one others left true h few rest = rest ∙ ap (λ (s : Session). sessions_from answering s others) (sym (own_one session one h few).after)
  session-step session one others left false h few rest = rest ∙ ap (λ (s : Session). sessions_from answering s others) (other_one session one h)

  session_alone : (session : Session) (tried : List OrderAttempt) → any_refused_as is_too_many (answered_from answering session tried) ≡ false
      → part_of name (sessions_from answering session tried) ≡ sessions_from answering (part_of name session) (own tried)
  session_alone session [] few = refl
  session_alone session (one ∷ others) few =
      let answer : Answer = answer_to answering session one in
      let parts = or_parts (refuses_as is_too_many (heard answer)) (any_refused_as is_too_many (answered_from answering (session_after session answer) others)) few in
      session-step session one (own others) (part_of name (sessions_from answering (session_after session answer) others)) (concerns name one.order) refl parts.0
      (session_alone (session_after session answer) others parts.1)

  pub is_alone : (tried : List OrderAttempt) → any_refused_as is_too_many (answered_by answering tried) ≡ false → IsAlone answering name tried
  is_alone tried few = record {
    answers = answers_alone empty_session tried few;
    aside = λ given. subst (λ (zs : List AnsweredOrder). AllSameBut given zs (own_answered name (answered_by answering (map (renumbered_try given) (own tried))))) (sym (answers_alone empty_session tried few))
        (own_same allowed given name empty_session (own tried));
    session = ap (part_of name) (sessions-told answering untold tried) ∙ session_alone empty_session tried few ∙ sym (sessions-told answering untold (own tried));
  }
