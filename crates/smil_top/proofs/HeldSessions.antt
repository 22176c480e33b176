-- What a held session is told of lines, and the input that has these lines.
use Rattle.std.proofs.Common.{◌≡◌, ◌≤◌, ℕ, false, List, [], ◌∷◌, ◌++◌, length, Option, Some, None, refl, ap, sym, subst, ◌∙◌}
use Rattle.std.specs.Prelude.{ℤ, IfSome, pos, option_map, option_and_then}
use Rattle.std.proofs.lemmas.List.{append-nil}
use Rattle.std.specs.Str.Lines.{lines}
use Rattle.smil_model.specs.document.Words.{line_feed}
use Rattle.smil_model.specs.shown.Orders.{Presentation}
use Rattle.smil_outside.specs.declared.line.TheConstants.{INPUT_BYTES}
use Rattle.smil_outside.proofs.LineLemmas.{lines-starts}
use Rattle.smil_house.specs.declared.house.NamedPlayer.{NamedPlayer}
use Rattle.smil_house.specs.House.{moment_of, named}
use Rattle.smil_model.specs.declared.order.Who.{Who}
use Rattle.smil_house.specs.Screen.{element_in, found_in as found_by, serial_in}
use Rattle.smil_house.specs.Next.{NothingChangesBefore, next_in, next_of}
use Rattle.smil_top.specs.declared.held.Held.{Held}
use Rattle.smil_top.specs.declared.status.Status.{Status}
use Rattle.smil_top.specs.Answers.{answer_of as order_answer}
use Rattle.smil_top.specs.Cut.{cut_of, orders, unended}
use Rattle.smil_top.specs.Houses.{Presentations, Holds}
use Rattle.smil_top.specs.Recorded.{element_at}
use Rattle.smil_top.specs.Session.{Session, found_in, presentation_of}
use Rattle.smil_top.specs.Held.{AreInputLines, IsHeld, input_of}
use Rattle.smil_top.specs.Serving.{IsWholeTranscript, status_of}
use Rattle.smil_top.specs.Transcript.{TranscriptState, IsTranscriptBy, transcript_by}
use Rattle.smil_top.proofs.HouseLemmas.{presentation-held}
use Rattle.smil_top.proofs.AnswersMade.{itself}
use Rattle.smil_top.proofs.TranscriptAnswers.{is_one}

lines-input : (given : List (List ℕ)) → AreInputLines given → lines (input_of given) ≡ given
lines-input [] are = refl
lines-input (line ∷ given) are =
    let rest : List ℕ = input_of given in
    ap lines (sym (append-nil (line ++ line_feed ∷ rest)))
    ∙ lines-starts (line ++ line_feed ∷ rest) line rest (record { part = line; cut = refl; uncut = are.0.0; stripped = sym are.0.1 }) []
    ∙ ap (λ zs. line ∷ lines zs) (append-nil rest)
    ∙ ap (λ zs. line ∷ zs) (lines-input given are.1)

module _ (held : Held) (given : List (List ℕ)) (told : TranscriptState) (is : IsHeld held (cut_of given) told) (closed : (cut_of given).«open» ≡ None) (are : AreInputLines given) where
  orders-input : (cut_of given).whole ≡ orders (lines (input_of given))
  orders-input =
      sym (append-nil (cut_of given).whole)
      ∙ ap (λ o. (cut_of given).whole ++ unended o) (sym closed)
      ∙ ap orders (sym (lines-input given are))

  transcript : IsTranscriptBy order_answer (orders (lines (input_of given))) told
  transcript = subst (λ os. IsTranscriptBy order_answer os told) orders-input is.running.tells.transcript

  pub held_is_served : length (input_of given) ≤ INPUT_BYTES → IsWholeTranscript order_answer (status_of told) (input_of given) told.text
  held_is_served within = record { told = told; transcript = transcript; text_is = refl; ended_is = refl; within = within }

  pub served_is_held : told.memory ≡ false → (ended : Status) (text : List ℕ) (whole : IsWholeTranscript order_answer ended (input_of given) text) → whole.told.memory ≡ false →
      (text ≡ told.text) × (ended ≡ status_of told)
  served_is_held suffices ended text whole enough =
      let same : whole.told ≡ told = is_one order_answer whole.transcript enough ∙ sym (is_one order_answer transcript suffices) in
      (whole.text_is ∙ ap (λ (t : TranscriptState). t.text) same, whole.ended_is ∙ ap status_of same)

-- ---- the presentation of a name, and its moments

presentation-told : (name : List ℕ) (house : Presentations) (session : Session) → Holds house session →
    presentation_of name session ≡ option_map (λ (h : NamedPlayer Presentation). h.player) (named name house)
presentation-told name house session holds = ap (found_in name) holds.session_is ∙ presentation-held name house

moment-by : (o : Option (NamedPlayer Presentation)) →
    option_map (λ (h : NamedPlayer Presentation). pos h.player.now) o
    ≡ option_map (λ (p : Presentation). pos p.now) (option_map (λ (h : NamedPlayer Presentation). h.player) o)
moment-by None = refl
moment-by (Some h) = refl

next-by : (o : Option (NamedPlayer Presentation)) →
    option_and_then (λ (h : NamedPlayer Presentation). next_of h.player) o
    ≡ option_and_then next_of (option_map (λ (h : NamedPlayer Presentation). h.player) o)
next-by None = refl
next-by (Some h) = refl

quiet-by : (P : Presentation → Type 0) (o : Option (NamedPlayer Presentation)) →
    IfSome o (λ (h : NamedPlayer Presentation). P h.player) → IfSome (option_map (λ (h : NamedPlayer Presentation). h.player) o) P
quiet-by P None holds = tt
quiet-by P (Some h) holds = holds

serial-by : (who : Who) (o : Option (NamedPlayer Presentation)) → option_and_then (λ (h : NamedPlayer Presentation). serial_in who h.player) o ≡ option_and_then (serial_in who) (option_map (λ (h : NamedPlayer Presentation). h.player) o)
serial-by who None = refl
serial-by who (Some h) = refl

element-by : (index : ℕ) (o : Option (NamedPlayer Presentation)) → option_and_then (λ (h : NamedPlayer Presentation). element_at index h.player) o ≡ option_and_then (element_at index) (option_map (λ (h : NamedPlayer Presentation). h.player) o)
element-by index None = refl
element-by index (Some h) = refl

module _ (name : List ℕ) (house : Presentations) (session : Session) (holds : Holds house session) where
  pub moment-told : moment_of itself name house ≡ option_map (λ (p : Presentation). pos p.now) (presentation_of name session)
  moment-told =
      moment-by (named name house) ∙ ap (option_map (λ (p : Presentation). pos p.now)) (sym (presentation-told name house session holds))

  pub next-told : next_in itself name house ≡ option_and_then next_of (presentation_of name session)
  next-told = next-by (named name house) ∙ ap (option_and_then next_of) (sym (presentation-told name house session holds))

  pub quiet-told : (next : Option ℤ) → IfSome (named name house) (λ (h : NamedPlayer Presentation). NothingChangesBefore next h.player) →
      IfSome (presentation_of name session) (NothingChangesBefore next)
  quiet-told next quiet =
      subst (λ (o : Option Presentation). IfSome o (NothingChangesBefore next)) (sym (presentation-told name house session holds))
      (quiet-by (NothingChangesBefore next) (named name house) quiet)

  pub serial-told : (who : Who) → found_by itself who name house ≡ option_and_then (serial_in who) (presentation_of name session)
  serial-told who = serial-by who (named name house) ∙ ap (option_and_then (serial_in who)) (sym (presentation-told name house session holds))

  pub element-told : (index : ℕ) → element_in itself index name house ≡ option_and_then (element_at index) (presentation_of name session)
  element-told index = element-by index (named name house) ∙ ap (option_and_then (element_at index)) (sym (presentation-told name house session holds))
