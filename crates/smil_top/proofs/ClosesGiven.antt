-- A close that was given by a call is one that was given by a line.
use Rattle.std.proofs.Common.{◌≡◌, ℕ, ◌-◌, false, List, [], ◌∷◌, ◌++◌, Option, Some, None, Result, Ok, Err, refl, ap, sym, subst, ◌∙◌, arith, inr}
use Rattle.std.specs.Prelude.{OnErr}
use Rattle.smil_model.specs.declared.order.Refusal.{Refusal}
use Rattle.smil_model.specs.declared.order.Refusal.TheVariants.{Memory, NoPresentation}
use Rattle.smil_model.specs.shown.Lines.{closed_line}
use Rattle.smil_model.specs.shown.Orders.{Presentation}
use Rattle.smil_grammar.specs.declared.read.Read.{Read}
use Rattle.smil_grammar.specs.declared.read.Read.TheVariants.{Close}
use Rattle.smil_grammar.specs.Results.{◌>>=◌}
use Rattle.smil_house.specs.House.{place_of, without as house_without}
use Rattle.smil_outside.specs.Faults.{last_count}
use Rattle.smil_script.specs.Copies.{line_copies}
use Rattle.smil_top.specs.declared.answer.Answer.{Answer as AnswerText}
use Rattle.smil_top.specs.declared.run.Run.{Run}
use Rattle.smil_top.specs.declared.session.Session.{Session as SessionSoFar}
use Rattle.smil_top.specs.Answers.{AcceptedOrder, answer_of, at_line, close_answer, found_presentation}
use Rattle.smil_top.specs.Cut.{OrderLines, single}
use Rattle.smil_top.specs.Evaluations.{Bound, line_number, number_of, said_number}
use Rattle.smil_top.specs.GivenLoads.{answered_as}
use Rattle.smil_top.specs.Houses.{Holds, Keeps, Presentations}
use Rattle.smil_top.specs.Recorded.{Closes, SaysClose, answered_by}
use Rattle.smil_top.specs.Running.{EvaluatesOn, IsCounted, IsOrderCounted, MakesAnswer, Tells, line_by, no_text, single_by, with_order}
use Rattle.smil_top.specs.Session.{Session, without}
use Rattle.smil_top.specs.Transcript.{TranscriptState, with_answer}
use Rattle.smil_top.proofs.AnswersMade.{held-nowhere, in_house, made-closed}
use Rattle.smil_top.proofs.CopiedLines.{copied-any, copied-read}
use Rattle.smil_top.proofs.EvaluationCounts.{counted-line, counted-refused, counted-single}
use Rattle.smil_top.proofs.LoadsGiven.{made-evaluated, made-tells, whole-is, whole_text}
use Rattle.smil_top.proofs.TranscriptStep.{single-made}

-- ---- by the presentations

abbrev refused : Refusal → Result (Unit {0}) Refusal
refused refusal = Err refusal

abbrev carried : Result (Unit {0}) Refusal
carried = Ok tt

abbrev as_accepted : Result (Unit {0}) Refusal → Result AcceptedOrder Refusal
as_accepted (Err refusal) = Err refusal
as_accepted (Ok done) = Err Memory

module _ (name : List ℕ) (so_far : SessionSoFar) (new : Presentations) (session : Session) (number : ℕ) (keeps : Keeps so_far session) where
  unclosed : (refusal : Refusal) → (place_of name so_far.house ≡ None → refused refusal ≡ refused NoPresentation) →
      ((place : ℕ) → place_of name so_far.house ≡ Some place → (refused refusal ≡ carried) × (new ≡ house_without place so_far.house)) → new ≡ so_far.house →
      Closes (Err refusal) (in_house so_far new) session (close_answer session number name)
  unclosed refusal absent is_closed same = go (place_of name so_far.house) refl
    where
      go : (place : Option ℕ) → place_of name so_far.house ≡ place → Closes (Err refusal) (in_house so_far new) session (close_answer session number name)
      go None none = (
        record { held = subst (λ h. Holds h session) (sym same) keeps.held; wanted = keeps.wanted },
        ap (λ o. found_presentation o >>= λ (p : Presentation). Ok (record { text = closed_line number name; session = without name session })) (held-nowhere name so_far.house session keeps.held none)
            ∙ ap as_accepted (sym (absent none)),
      )
      go (Some place) found = absurd (let e = (is_closed place found).0 in cc)

  pub closes-by : (r : Result (Unit {0}) Refusal) → (place_of name so_far.house ≡ None → r ≡ refused NoPresentation) →
      ((place : ℕ) → place_of name so_far.house ≡ Some place → (r ≡ carried) × (new ≡ house_without place so_far.house)) → OnErr r (new ≡ so_far.house) →
      Closes r (in_house so_far new) session (close_answer session number name)
  closes-by (Ok done) absent is_closed kept =
      let made = made-closed name so_far new session number keeps absent is_closed in
      (record { text = closed_line number name; session = made.0 }, made.2, made.1)
  closes-by (Err refusal) absent is_closed kept = unclosed refusal absent is_closed kept

-- ---- by a line that says it

module _ (name : List ℕ) (number : ℕ) (line : List ℕ) (says : SaysClose line name) where
  abbrev this : OrderLines
  this = single (record { number = number; text = line })

  line-is : (session : Session) → line_by false session number line ≡ close_answer session number name
  line-is session = ap (λ (r : Result Read Refusal). r >>= single_by false session number) says.reading

  closes-make : (r : Result (Unit {0}) Refusal) (so_far : SessionSoFar) (session : Session) → Closes r so_far session (close_answer session number name) →
      (text : AnswerText) × MakesAnswer (at_line number r) text so_far session answer_of this
  closes-make (Ok done) so_far session is =
      let text : AnswerText = whole_text is.0 in
      (text, single-made false (Ok tt) text so_far session number line says.short tt ((is.0).session, is.2, line-is session ∙ is.1 ∙ ap Ok (whole-is is.0)))
  closes-make (Err refusal) so_far session is = (
    no_text,
    single-made false (Err refusal) no_text so_far session number line says.short
        (copied-any (line_copies line) (refused refusal) (copied-read line (Close name) says.reading)) (is.0, inr (line-is session ∙ is.1)),
  )

  same-answer : (r : Result (Unit {0}) Refusal) (session : Session) → answered_as (at_line number r) session this ≡ answered_by r session this
  same-answer (Ok done) session = refl
  same-answer (Err refusal) session = refl

  counted-close : (r : Result (Unit {0}) Refusal) (session : Session) (steps : ℕ) → IsCounted r (λ bound. said_number bound session (Close name)) (steps - steps)
  counted-close (Ok done) session steps = (omega arith, omega arith)
  counted-close (Err refusal) session steps = counted-refused refusal (λ bound. said_number bound session (Close name)) steps

  counted-line_close : (r : Result (Unit {0}) Refusal) (session : Session) (steps : ℕ) → IsOrderCounted (at_line number r) (λ (bound : Bound). number_of bound session this) (steps - steps)
  counted-line_close r session steps =
      counted-single r number (λ bound. line_number bound session line) (steps - steps)
      (counted-line r session line (Close name) (steps - steps) says.short says.reading (counted-close r session steps))

  module _ (run new : Run) (whole : List OrderLines) (told : TranscriptState) (tells : Tells false run whole told) (r : Result (Unit {0}) Refusal)
      (closes : Closes r new.session told.session (close_answer told.session number name)) (counts : new.counts ≡ with_order (at_line number r) last_count run.counts) where
    pub close-tells : new.session.checks ≡ run.session.checks → Tells false new (whole ++ this ∷ []) (with_answer told (answered_by r told.session this))
    close-tells same =
        let made = closes-make r new.session told.session closes in
        subst (λ a. Tells false new (whole ++ this ∷ []) (with_answer told a)) (same-answer r told.session)
        (made-tells run new whole told this tells (at_line number r) made.0 made.1 same counts)

    pub close-evaluated : (steps : ℕ) → EvaluatesOn run.counts new.counts whole (whole ++ this ∷ []) steps steps
    close-evaluated steps =
        let made = closes-make r new.session told.session closes in
        made-evaluated run new whole told this tells (at_line number r) made.0 steps steps made.1 (counted-line_close r told.session steps) (omega arith) counts
