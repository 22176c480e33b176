-- An order that was given by a call is one that was given by a line.
use Rattle.std.proofs.Common.{◌≡◌, ℕ, ℤ, ◌-◌, ◌≤◌, ◌<◌, min, length, drop, false, List, [], ◌∷◌, ◌++◌, Option, Some, None, Result, Ok, Err, refl, ap, sym, subst, ◌∙◌, arith, inl, inr}
use Rattle.std.specs.Prelude.{pos, IfOk, IfErr, OnErr, OnOk, if◌then◌else◌}
use Rattle.std.specs.Result.{result_unwrap_or}
use Rattle.smil_model.specs.declared.order.Order.{Order}
use Rattle.smil_model.specs.declared.order.Refusal.{Refusal}
use Rattle.smil_model.specs.declared.order.Refusal.TheVariants.{LongLine}
use Rattle.smil_model.specs.shown.Answers.{IsRefusedBy, answer_text}
use Rattle.smil_model.specs.shown.Lines.{ok_line}
use Rattle.smil_model.specs.shown.Orders.{Presentation, outcome}
use Rattle.smil_grammar.specs.declared.read.Read.{Read}
use Rattle.smil_grammar.specs.declared.read.Read.TheVariants.{To}
use Rattle.smil_grammar.specs.Formats.{formats}
use Rattle.smil_grammar.specs.Results.{◌>>=◌}
use Rattle.smil_grammar.specs.Scripts.{line_of}
use Rattle.smil_script.specs.Copies.{line_copies}
use Rattle.smil_house.specs.House.{AreKept, IsRecordedBy, IsRefused}
use Rattle.smil_outside.specs.Faults.{last_count}
use Rattle.smil_report.specs.declared.records.Change.{Change}
use Rattle.smil_top.specs.declared.answer.Answer.{Answer as AnswerText}
use Rattle.smil_top.specs.declared.counts.Counts.{Counts}
use Rattle.smil_top.specs.declared.fault.Fault.{Fault}
use Rattle.smil_top.specs.declared.run.Run.{Run}
use Rattle.smil_top.specs.declared.session.Session.{Session as SessionSoFar}
use Rattle.smil_top.specs.Answers.{AcceptedOrder, Answer, answer_of, at_line, found_presentation}
use Rattle.smil_top.specs.Cut.{OrderLines, single}
use Rattle.smil_top.specs.Evaluations.{Bound, ordered_number, said_number, number_of}
use Rattle.smil_top.specs.Houses.{Keeps, Presentations}
use Rattle.smil_top.specs.Recorded.{IsRecorded, IsRefusedIn, Records, Says, answered_by, done, outcome_in}
use Rattle.smil_top.specs.Running.{AreCounted, EvaluatesOn, IsCounted, Makes, MakesAnswer, Tells, line_by, no_text, said, single_by, with_order}
use Rattle.smil_top.specs.Session.{Session, presentation_of, with_state}
use Rattle.smil_top.specs.Summary.{line_count}
use Rattle.smil_top.specs.Transcript.{TranscriptState, and_then, with_answer}
use Rattle.smil_top.proofs.CopiedLines.{copied-any, copied-read}
use Rattle.smil_top.proofs.CutLines.{is_short-true}
use Rattle.smil_top.proofs.EvaluationCounts.{counted-ordered, counted-same, counted-unordered, counted-single, evaluated-on}
use Rattle.smil_top.proofs.AnswersMade.{held-at, held-nowhere, in_house, itself, kept-keeps, the_formats, told_least, told_most, turned-keeps}
use Rattle.smil_top.proofs.TranscriptStep.{answer_as, single-made, told-counted}

-- ---- by the presentations

module _ (name : List ℕ) (order : Order) (so_far : SessionSoFar) (new : Presentations) (session : Session) (keeps : Keeps so_far session) where
  pub recorded : (changes : List Change) (rise : ℕ) (now : ℤ) → IsRecordedBy the_formats itself told_least told_most name order so_far.house new changes rise now →
      IsRecorded now changes (in_house so_far new) session name order
  recorded changes rise now is = record {
    before = is.before.player;
    after = is.after.player;
    found = held-at name so_far.house session is.place is.before keeps.held is.turned.at;
    tells = is.accepted;
    now_is = is.moment_is;
    keeps = turned-keeps name order so_far new session 0 keeps is.place is.before is.after is.turned;
  }

  abbrev outcome_of : Option Presentation → Result Presentation Refusal
  outcome_of held = found_presentation held >>= λ (before : Presentation). outcome formats before order

  refused-in : (rise : ℕ) (refusal : Refusal) → IsRefused the_formats itself told_most name order so_far.house rise refusal → IsRefusedBy (outcome_in session name order) refusal
  refused-in rise refusal (inl absent) = inr (ap outcome_of (held-nowhere name so_far.house session keeps.held absent.place_is) ∙ ap Err (sym absent.refusal_is))
  refused-in rise refusal (inr refused) = elim refused.refused [
    | inl memory ↦ inl memory
    | inr is ↦ inr (ap outcome_of (held-at name so_far.house session refused.place refused.before keeps.held refused.at) ∙ is)
  ]

  pub unrecorded : (changes : List Change) (rise : ℕ) (refusal : Refusal) → changes ≡ [] → IsRefused the_formats itself told_most name order so_far.house rise refusal →
      AreKept the_formats itself name so_far.house new → IsRefusedIn refusal changes (in_house so_far new) session name order
  unrecorded changes rise refusal empty refused kept = record {
    changes_are = empty;
    keeps = kept-keeps name order so_far new session 0 keeps kept;
    refused = refused-in rise refusal refused;
  }

  -- what a house recorded of it
  pub records-of : (old out : List Change) (rise : ℕ) (r : Result ℤ Refusal) → old ≡ [] →
      IfOk r (IsRecordedBy the_formats itself told_least told_most name order so_far.house new (drop (length old) out) rise) →
      IfErr r (IsRefused the_formats itself told_most name order so_far.house rise) → OnErr r (AreKept the_formats itself name so_far.house new) →
      OnOk r (out ≡ old ++ drop (length old) out) → OnErr r (out ≡ old) → Records r out (in_house so_far new) session name order
  records-of old out rise (Ok now) empty ok err kept appended same =
      subst (λ (cs : List Change). IsRecorded now cs (in_house so_far new) session name order) (sym (appended ∙ ap (λ (cs : List Change). cs ++ drop (length old) out) empty))
      (recorded (drop (length old) out) rise now ok)
  records-of old out rise (Err refusal) empty ok err kept appended same = unrecorded out rise refusal (same ∙ empty) err kept

  -- and how many evaluations it had
  pub counted-of : (changes : List Change) (rise : ℕ) (r : Result ℤ Refusal) → IfOk r (IsRecordedBy the_formats itself told_least told_most name order so_far.house new changes rise) →
      IfErr r (IsRefused the_formats itself told_most name order so_far.house rise) → IsCounted (done r) (λ bound. ordered_number bound session name order) rise
  counted-of changes rise (Ok now) ok err =
      let text : List ℕ = answer_text formats ok.before.player ok.after.player order in
      counted-ordered name order so_far.house new session keeps.held text rise now
      (record {
        place = ok.place;
        before = ok.before;
        after = ok.after;
        turned = ok.turned;
        accepted = record { state = (ok.accepted).state; answer = refl };
        moment_is = ok.moment_is;
        least_is = ok.least_is;
        most_is = ok.most_is;
      })
  counted-of changes rise (Err refusal) ok err = counted-unordered name order so_far.house new session keeps.held rise refusal err

-- ---- by a line that says it

-- the text of the line's answer
abbrev pub text_by : (name : List ℕ) (order : Order) (so_far : SessionSoFar) (session : Session) (changes : List Change) (number : ℕ) (r : Result ℤ Refusal) → Records r changes so_far session name order → AnswerText
text_by name order so_far session changes number (Ok now) is =
    record { told = answer_text formats is.before is.after order; last = ok_line number name (pos (is.after).now) }
text_by name order so_far session changes number (Err refusal) is = no_text

module _ (name : List ℕ) (order : Order) (so_far : SessionSoFar) (session : Session) (changes : List Change) (number : ℕ) (line : List ℕ) (says : Says line name order) where
  abbrev this : OrderLines
  this = single (record { number = number; text = line })

  abbrev answer_in : Option Presentation → Result AcceptedOrder Refusal
  answer_in held =
      found_presentation held
      >>= λ (p : Presentation). outcome formats p order
      >>= λ (q : Presentation). Ok (record { text = answer_text formats p q order ++ ok_line number name (pos q.now); session = with_state name q session })

  abbrev behind_outcome : Presentation → Result Presentation Refusal → Result AcceptedOrder Refusal
  behind_outcome p given = given >>= λ (q : Presentation). Ok (record { text = answer_text formats p q order ++ ok_line number name (pos q.now); session = with_state name q session })

  line-is : line_by false session number line ≡ answer_in (presentation_of name session)
  line-is = ap (λ (r : Result Read Refusal). r >>= single_by false session number) says.reading

  refused-line : (refusal : Refusal) (held : Option Presentation) →
      (found_presentation held >>= λ (before : Presentation). outcome formats before order) ≡ Err refusal → answer_in held ≡ Err refusal
  refused-line refusal None is = cc
  refused-line refusal (Some p) is = ap (behind_outcome p) is

  makes : (r : Result ℤ Refusal) → (is : Records r changes so_far session name order) → Makes (done r) (text_by name order so_far session changes number r is) so_far session (line_by false session number line)
  makes (Ok now) is = (
    with_state name is.after session,
    is.keeps,
    line-is ∙ ap answer_in is.found ∙ ap (behind_outcome is.before) (is.tells).state,
  )
  makes (Err refusal) is = (
    is.keeps,
    elim is.refused [ inl memory ↦ inl memory | inr given ↦ inr (line-is ∙ refused-line refusal (presentation_of name session) given) ],
  )

  pub recorded-made : (r : Result ℤ Refusal) → (is : Records r changes so_far session name order) →
      MakesAnswer (at_line number (done r)) (text_by name order so_far session changes number r is) so_far session answer_of this
  recorded-made r is = single-made false (done r) (text_by name order so_far session changes number r is) so_far session number line says.short
      (copied-any (line_copies line) (done r) (copied-read line (To name order) says.reading)) (makes r is)

pub never-below : (n : ℕ) → n < n → ⊥
never-below n below = omega arith

-- whether memory ran out doesn't hang on how many lines are counted
pub same-memory : (answered : Result (Unit {0}) Fault) (lines more : ℕ) (counts : Counts) → (with_order answered lines counts).memory ≡ (with_order answered more counts).memory
same-memory (Ok done) lines more counts = refl
same-memory (Err fault) lines more counts = refl

module _ (name : List ℕ) (order : Order) (changes : List Change) (number : ℕ) (line : List ℕ) (says : Says line name order) (run new : Run) (whole : List OrderLines) (told : TranscriptState) (tells : Tells false run whole told) where
  abbrev one : OrderLines
  one = single (record { number = number; text = line })

  -- the counts behind it, where no lines are counted
  counts-on : (answered : Result (Unit {0}) Fault) (text : AnswerText) (after : Session) → new.counts ≡ with_order answered last_count run.counts →
      AreCounted new.counts (whole ++ one ∷ []) (with_answer told (answer_as answered text after))
  counts-on answered text after counts =
      subst (λ (k : Counts). AreCounted k (whole ++ one ∷ []) (with_answer told (answer_as answered text after))) (sym counts)
      (told-counted answered text last_count run.counts whole told one after (λ below. absurd (never-below last_count below)) tells.counted)

  pub recorded-tells : (r : Result ℤ Refusal) → Records r changes new.session told.session name order → new.session.checks ≡ run.session.checks → new.counts ≡ with_order (at_line number (done r)) last_count run.counts →
      Tells false new (whole ++ one ∷ []) (with_answer told (answered_by r told.session one))
  recorded-tells (Ok now) is same counts =
      let made = recorded-made name order new.session told.session changes number line says (Ok now) is in
      let text : AnswerText = text_by name order new.session told.session changes number (Ok now) is in
      record {
        checks_is = same ∙ tells.checks_is;
        transcript = and_then tells.transcript one (answer_of told.session one) (inl refl);
        keeps = subst (λ (a : Answer). Keeps new.session (with_answer told a).session) (sym made.2) made.1;
        counted = subst (λ (a : Answer). AreCounted new.counts (whole ++ one ∷ []) (with_answer told a)) (sym made.2) (counts-on (Ok tt) text made.0 counts);
      }
  recorded-tells (Err refusal) is same counts =
      let made = recorded-made name order new.session told.session changes number line says (Err refusal) is in
      let fault : Fault = record { line = number; refusal = refusal } in
      record {
        checks_is = same ∙ tells.checks_is;
        transcript = and_then tells.transcript one (Err fault) made.1;
        keeps = made.0;
        counted = counts-on (Err fault) no_text told.session counts;
      }

  same-number : (bound : Bound) → result_unwrap_or (ordered_number bound told.session name order) 0 ≡ number_of bound told.session one
  same-number bound =
      sym
      (ap (λ b. result_unwrap_or ((if b then line_of line else Err LongLine) >>= said_number bound told.session) 0) (is_short-true line says.short)
      ∙ ap (λ (r : Result Read Refusal). result_unwrap_or (r >>= said_number bound told.session) 0) says.reading)

  pub recorded-evaluated : (r : Result ℤ Refusal) (before after : ℕ) → Records r changes new.session told.session name order →
      IsCounted (done r) (λ bound. ordered_number bound told.session name order) (after - before) → before ≤ after → new.counts ≡ with_order (at_line number (done r)) last_count run.counts →
      EvaluatesOn run.counts new.counts whole (whole ++ one ∷ []) before after
  recorded-evaluated r before after is counted le counts =
      let answered : Result (Unit {0}) Fault = at_line number (done r) in
      let text : AnswerText = text_by name order new.session told.session changes number r is in
      evaluated-on one answered text new.session before after tells (recorded-made name order new.session told.session changes number line says r is)
      (counted-same (λ (fault : Fault). fault.refusal) answered
      (λ bound. result_unwrap_or (ordered_number bound told.session name order) 0)
      (λ bound. number_of bound told.session one)
      (after - before)
      same-number
      (counted-single (done r) number (λ bound. ordered_number bound told.session name order) (after - before) counted))
      le
      (ap (λ (k : Counts). k.memory) counts ∙ same-memory answered last_count (min (line_count (said answered text)) last_count) run.counts)
