-- Transcripts, answer by answer.
use Rattle.std.proofs.Common.{◌≡◌, Bool, true, false, List, [], ◌∷◌, ◌++◌, Ok, Err, inl, inr, refl, ap, sym, subst, ◌∙◌, append_assoc}
use Rattle.std.specs.Prelude.{ℕ, cond, map, fold, flat_map}
use Rattle.std.proofs.lemmas.Bool.{or_parts, or_from}
use Rattle.std.proofs.lemmas.List.{append-nil, map-append}
use Rattle.std.proofs.lemmas.List.Sums.{fold-append}
use Rattle.std.proofs.lemmas.List.Folds.{fold-map}
use Rattle.smil_model.specs.declared.order.Refusal.TheVariants.{Memory}
use Rattle.smil_top.specs.Cut.{OrderLines, first_line}
use Rattle.smil_top.specs.Session.{Session}
use Rattle.smil_top.specs.Answers.{Answer, at_line}
use Rattle.smil_top.specs.Transcript.{Answering, MayAnswer, TranscriptState, untold, takes_memory, with_answer, is_memory, IsTranscriptBy, of_nothing, and_then, transcript_by}
use Rattle.smil_top.specs.Laws.{OrderAttempt, with_ease, answer_to, told_by, AnsweredOrder, heard, session_after, answered_from, answered_by, answer_lines, refuses_as}

-- ---- one answer more

abbrev pub told_further : Answering → TranscriptState → List OrderAttempt → TranscriptState
told_further answering told tried = fold (λ told one. with_answer told (answer_to answering told.session one)) told tried

order_of : OrderAttempt → OrderLines
order_of one = one.order

pub text_with : (told : TranscriptState) (answer : Answer) → (with_answer told answer).text ≡ told.text ++ answer_lines (heard answer)
text_with told (Ok accepted) = refl
text_with told (Err fault) = refl

pub session_with : (told : TranscriptState) (answer : Answer) → (with_answer told answer).session ≡ session_after told.session answer
session_with told (Ok accepted) = refl
session_with told (Err fault) = refl

-- the session that orders leave in turn
abbrev pub sessions_from : Answering → Session → List OrderAttempt → Session
sessions_from answering session [] = session
sessions_from answering session (one ∷ others) = sessions_from answering (session_after session (answer_to answering session one)) others

pub sessions-told : (answering : Answering) (told : TranscriptState) (tried : List OrderAttempt) → (told_further answering told tried).session ≡ sessions_from answering told.session tried
sessions-told answering told [] = refl
sessions-told answering told (one ∷ others) =
    let answer : Answer = answer_to answering told.session one in
    sessions-told answering (with_answer told answer) others ∙ ap (λ (s : Session). sessions_from answering s others) (session_with told answer)

-- ---- each transcript is told

abbrev Is : Answering → List OrderLines → TranscriptState → Type 0
Is answering orders told = (tried : List OrderAttempt) × (map (λ (one : OrderAttempt). one.order) tried ≡ orders) × (told_by answering tried ≡ told)

module _ (answering : Answering) where
  more : (orders : List OrderLines) (told : TranscriptState) → Is answering orders told → (one : OrderAttempt) (answer : Answer) → answer ≡ answer_to answering told.session one
      → Is answering (orders ++ one.order ∷ []) (with_answer told answer)
  more orders told before one answer e = (
    before.0 ++ one ∷ [],
    map-append (λ (one : OrderAttempt). one.order) before.0 (one ∷ []) ∙ ap (λ (zs : List OrderLines). zs ++ one.order ∷ []) before.1,
    fold-append (λ (told : TranscriptState) (one : OrderAttempt). with_answer told (answer_to answering told.session one)) untold before.0 (one ∷ [])
        ∙ ap (λ (t : TranscriptState). with_answer t (answer_to answering t.session one)) before.2 ∙ ap (with_answer told) (sym e),
  )

  answered : (orders : List OrderLines) (told : TranscriptState) → Is answering orders told → (order : OrderLines) (answer : Answer) → MayAnswer answering told.session order answer
      → Is answering (orders ++ order ∷ []) (with_answer told answer)
  answered orders told before order answer (inl e) = more orders told before (record { order = order; lacks = false }) answer e
  answered orders told before order answer (inr e) = more orders told before (record { order = order; lacks = true }) answer (e.1 ∙ sym (rw e.0 refl))

  pub is_told : {orders : List OrderLines} {told : TranscriptState} → IsTranscriptBy answering orders told → Is answering orders told
  is_told of_nothing = ([], refl, refl)
  is_told (and_then {orders} {told} before order answer may) = answered orders told (is_told before) order answer may

  -- ---- what is told is a transcript

  lacking : (session : Session) (order : OrderLines) (lacks : Bool) → MayAnswer answering session order (answer_to answering session (record { order = order; lacks = lacks }))
  lacking session order true = by_need (takes_memory order) refl
    where
      by_need : (needs : Bool) → takes_memory order ≡ needs → MayAnswer answering session order (cond needs (at_line (first_line order) (Err Memory)) (answering session order))
      by_need true e = inr (e, refl)
      by_need false e = inl refl
  lacking session order false = inl refl

  may : (session : Session) (one : OrderAttempt) → MayAnswer answering session one.order (answer_to answering session one)
  may session one = lacking session one.order one.lacks

  tells : (orders : List OrderLines) (told : TranscriptState) → IsTranscriptBy answering orders told → (tried : List OrderAttempt)
      → IsTranscriptBy answering (orders ++ map (λ (one : OrderAttempt). one.order) tried) (told_further answering told tried)
  tells orders told h [] = subst (λ (zs : List OrderLines). IsTranscriptBy answering zs told) (sym (append-nil orders)) h
  tells orders told h (one ∷ others) =
      subst (λ (zs : List OrderLines). IsTranscriptBy answering zs (told_further answering told (one ∷ others))) (append_assoc orders (one.order ∷ []) (map (λ (one : OrderAttempt). one.order) others))
      (tells (orders ++ one.order ∷ []) (with_answer told (answer_to answering told.session one)) (and_then h one.order (answer_to answering told.session one) (may told.session one)) others)

  pub each_is_told : (tried : List OrderAttempt) → IsTranscriptBy answering (map (λ (one : OrderAttempt). one.order) tried) (told_by answering tried)
  each_is_told tried = tells [] untold of_nothing tried

  pub with_ease_told : (orders : List OrderLines) → told_by answering (map with_ease orders) ≡ transcript_by answering orders
  with_ease_told orders = fold-map (λ (told : TranscriptState) (one : OrderAttempt). with_answer told (answer_to answering told.session one)) with_ease untold orders

  -- ---- texts

  texts : (told : TranscriptState) (tried : List OrderAttempt) → (told_further answering told tried).text ≡ told.text ++ flat_map (λ (one : AnsweredOrder). answer_lines one.answer) (answered_from answering told.session tried)
  texts told [] = sym (append-nil told.text)
  texts told (one ∷ others) =
      let answer : Answer = answer_to answering told.session one in
      let behind : Session → List ℕ = λ session. flat_map (λ (one : AnsweredOrder). answer_lines one.answer) (answered_from answering session others) in
      texts (with_answer told answer) others
      ∙ ap (λ (zs : List ℕ). zs ++ behind (with_answer told answer).session) (text_with told answer)
      ∙ ap (λ (s : Session). (told.text ++ answer_lines (heard answer)) ++ behind s) (session_with told answer)
      ∙ append_assoc told.text (answer_lines (heard answer)) (behind (session_after told.session answer))

  pub text_of_answers : (tried : List OrderAttempt) → (told_by answering tried).text ≡ flat_map (λ (one : AnsweredOrder). answer_lines one.answer) (answered_by answering tried)
  text_of_answers tried = texts untold tried

  -- ---- where memory suffices

  was_enough : (told : TranscriptState) (answer : Answer) → (with_answer told answer).memory ≡ false → told.memory ≡ false
  was_enough told (Ok accepted) m = m
  was_enough told (Err fault) m = (or_parts _ _ m).0

  pub still_enough : (told : TranscriptState) (answer : Answer) → told.memory ≡ false → refuses_as is_memory (heard answer) ≡ false → (with_answer told answer).memory ≡ false
  still_enough told (Ok accepted) m n = m
  still_enough told (Err fault) m n = or_from _ _ m n

  one_more : (orders : List OrderLines) (told : TranscriptState) (order : OrderLines) (answer : Answer) → told ≡ transcript_by answering orders → (with_answer told answer).memory ≡ false
      → MayAnswer answering told.session order answer → with_answer told answer ≡ transcript_by answering (orders ++ order ∷ [])
  one_more orders told order answer before m (inl e) =
      ap (with_answer told) e ∙ ap (λ (t : TranscriptState). with_answer t (answering t.session order)) before
      ∙ sym (fold-append (λ (told : TranscriptState) (order : OrderLines). with_answer told (answering told.session order)) untold orders (order ∷ []))
  one_more orders told order answer before m (inr e) =
      let lacks : (with_answer told (at_line (first_line order) (Err Memory))).memory ≡ false = ap (λ (a : Answer). (with_answer told a).memory) (sym e.1) ∙ m in
      let never : true ≡ false = (or_parts told.memory true lacks).1 in absurd cc

  pub is_one : {orders : List OrderLines} {told : TranscriptState} → IsTranscriptBy answering orders told → told.memory ≡ false → told ≡ transcript_by answering orders
  is_one of_nothing m = refl
  is_one (and_then {orders} {told} before order answer may) m = one_more orders told order answer (is_one before (was_enough told answer m)) m may

  tells_easily : (front : List OrderLines) (told : TranscriptState) → IsTranscriptBy answering front told → (orders : List OrderLines)
      → IsTranscriptBy answering (front ++ orders) (fold (λ (told : TranscriptState) (order : OrderLines). with_answer told (answering told.session order)) told orders)
  tells_easily front told h [] = subst (λ (zs : List OrderLines). IsTranscriptBy answering zs told) (sym (append-nil front)) h
  tells_easily front told h (order ∷ orders) =
      subst (λ (zs : List OrderLines). IsTranscriptBy answering zs (fold (λ (told : TranscriptState) (order : OrderLines). with_answer told (answering told.session order)) told (order ∷ orders))) (append_assoc front (order ∷ []) orders)
      (tells_easily (front ++ order ∷ []) (with_answer told (answering told.session order)) (and_then h order (answering told.session order) (inl refl)) orders)

  pub is_some : (orders : List OrderLines) → IsTranscriptBy answering orders (transcript_by answering orders)
  is_some orders = tells_easily [] untold of_nothing orders

  -- where no answer is that memory ran out
  module _ (never : (session : Session) (order : OrderLines) → refuses_as is_memory (heard (answering session order)) ≡ false) where
    stays_enough : (told : TranscriptState) (orders : List OrderLines) → told.memory ≡ false → (fold (λ (told : TranscriptState) (order : OrderLines). with_answer told (answering told.session order)) told orders).memory ≡ false
    stays_enough told [] m = m
    stays_enough told (order ∷ orders) m = stays_enough (with_answer told (answering told.session order)) orders (still_enough told (answering told.session order) m (never told.session order))

    pub is_enough : (orders : List OrderLines) → (transcript_by answering orders).memory ≡ false
    is_enough orders = stays_enough untold orders refl
