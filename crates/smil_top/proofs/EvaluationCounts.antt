-- How far the counter of evaluations goes on behind an order, and behind all orders.
use Rattle.std.proofs.Common.{◌≡◌, ◌⊎◌, ℕ, ℤ, ◌+◌, ◌-◌, ◌≤◌, false, List, [], ◌∷◌, ◌++◌, length, Option, Some, None, Result, Ok, Err, refl, ap, sym, subst, ◌∙◌, arith, inl, inr}
use Rattle.std.specs.Prelude.{if◌then◌else◌}
use Rattle.std.specs.Result.{result_unwrap_or}
use Rattle.std.proofs.lemmas.Bool.{or_parts}
use Rattle.std.proofs.lemmas.List.{append-nil}
use Rattle.smil_model.specs.declared.limits.TheConstants.{LINE_BYTES}
use Rattle.smil_model.specs.declared.diary.Entry.{Entry}
use Rattle.smil_model.specs.declared.order.Order.{Order}
use Rattle.smil_model.specs.declared.order.Refusal.{Refusal}
use Rattle.smil_model.specs.declared.order.Refusal.TheVariants.{DiaryFull, LongLine, Memory}
use Rattle.smil_model.specs.document.Limits.{limits}
use Rattle.smil_model.specs.happening.Resolution.{diary_within}
use Rattle.smil_model.specs.shown.Orders.{Presentation, course_of, kept_where, opened}
use Rattle.smil_grammar.specs.declared.read.Read.{Read}
use Rattle.smil_grammar.specs.Results.{◌>>=◌}
use Rattle.smil_grammar.specs.Scripts.{line_of}
use Rattle.smil_model.proofs.RisingLists.{clash}
use Rattle.smil_house.specs.House.{load_refusal, IsAnsweredBy, IsRefused}
use Rattle.smil_live.specs.Counts.{least_loading, most_loading}
use Rattle.smil_top.specs.declared.answer.Answer.{Answer as AnswerText}
use Rattle.smil_top.specs.declared.counts.Counts.{Counts}
use Rattle.smil_top.specs.declared.fault.Fault.{Fault}
use Rattle.smil_top.specs.declared.loaded.LoadedDoc.{LoadedDoc as GivenDoc}
use Rattle.smil_top.specs.declared.run.Run.{Run}
use Rattle.smil_top.specs.Cut.{CutLines, LoadLines, OrderLines, cut_of, load, unended, with_line}
use Rattle.smil_top.specs.declared.session.Session.{Session as SessionSoFar}
use Rattle.smil_top.specs.Session.{Session, presentation_of, may_join, may_load}
use Rattle.smil_top.specs.Answers.{Answer, LoadedDocument, at_line, found_presentation, given_within, answer_of}
use Rattle.smil_top.specs.Transcript.{TranscriptState, MayAnswer, is_memory, transcript_by, untold}
use Rattle.smil_top.specs.Laws.{heard, refuses_as}
use Rattle.smil_top.specs.Evaluations.{Bound, most, least, ordered_number, said_number, line_number, loaded_number, number_of, least_of, most_of, sum_of, is_diary_full, IsBounded}
use Rattle.smil_top.specs.Houses.{Presentations, Holds}
use Rattle.smil_top.specs.Running.{given_of, EvaluatesOn, Gives, HasEvaluated, IsCounted, IsCountedBy, IsOrderCounted, MakesAnswer, Tells}
use Rattle.smil_top.proofs.CutLines.{is_short-true}
use Rattle.smil_top.proofs.OrderCuts.{cut_of-one_more}
use Rattle.smil_top.proofs.HouseLemmas.{may_load-held}
use Rattle.smil_top.proofs.AnswersMade.{held-at, itself, the_formats, told_least, told_most}
use Rattle.smil_top.proofs.SumLemmas.{full-snoc, least_spares, refused-0, sum-snoc}
use Rattle.smil_top.proofs.TranscriptAnswers.{is_one}
use Rattle.smil_top.proofs.TranscriptStep.{counted_as, fine}

-- ---- one order

-- a refused order has no evaluation, whatever its bound
pub counted-refused : (refusal : Refusal) (number : Bound → Result ℕ Refusal) (steps : ℕ) → IsCounted (Err refusal) number (steps - steps)
counted-refused refusal number steps = inr (inr (omega arith))

-- by other words for the same bound
pub counted-same : {E : Type 0} (refusal_of : E → Refusal) (r : Result (Unit {0}) E) (number other : Bound → ℕ) (rise : ℕ) →
    ((bound : Bound) → number bound ≡ other bound) → IsCountedBy refusal_of r number rise → IsCountedBy refusal_of r other rise
counted-same refusal_of (Ok done) number other rise same counted =
    (subst (λ n. n ≤ rise) (same least) counted.0, subst (λ n. rise ≤ n) (same most) counted.1)
counted-same refusal_of (Err e) number other rise same counted = counted

module _ (name : List ℕ) (order : Order) (house new : Presentations) (session : Session) (holds : Holds house session) where
  -- an order to a presentation is accepted
  pub counted-ordered : (text : List ℕ) (rise : ℕ) (moment : ℤ) → IsAnsweredBy the_formats itself told_least told_most name order house new text rise moment →
      IsCounted (Ok tt) (λ bound. ordered_number bound session name order) rise
  counted-ordered text rise moment answered =
      let found : presentation_of name session ≡ Some answered.before.player = held-at name house session answered.place answered.before holds answered.turned.at in
      let same : (bound : Bound) → bound.number answered.before.player order ≡ result_unwrap_or (ordered_number bound session name order) 0 =
      λ bound. sym (ap (λ o. result_unwrap_or (found_presentation o >>= λ (p : Presentation). Ok (bound.number p order)) 0) found)
      in
      (subst (λ n. n ≤ rise) (same least) answered.least_is, subst (λ n. rise ≤ n) (same most) answered.most_is)

  -- it is refused
  pub counted-unordered : (rise : ℕ) (refusal : Refusal) → IsRefused the_formats itself told_most name order house rise refusal →
      IsCounted (Err refusal) (λ bound. ordered_number bound session name order) rise
  counted-unordered rise refusal (inl absent) = inr (inr absent.none)
  counted-unordered rise refusal (inr refused) = refused.free

-- a document that isn't opened has a diary that is too long
full-cause : (p : Presentation) (diary : Option (List Entry)) (refusal : Refusal) → kept_where p diary ≡ Err refusal → refusal ≡ DiaryFull
full-cause p None refusal is = cc
full-cause p (Some diary) refusal is = absurd cc

module _ (given : LoadedDocument) (house : Presentations) (session : Session) (holds : Holds house session) where
  abbrev number_by : Bound → Result (Unit {0}) Refusal → Result Presentation Refusal → Result ℕ Refusal
  number_by bound free loaded = free >>= λ done. loaded >>= λ (p : Presentation). Ok (bound.loading p)

  -- a load opens a presentation
  pub counted-loaded : (p : Presentation) (rise : ℕ) → load_refusal given.name house ≡ Ok tt → opened given.document ≡ Ok p →
      rise ≤ most_loading p → least_loading p ≤ rise → IsCounted (Ok tt) (λ bound. loaded_number bound session given) rise
  counted-loaded p rise free is at_most at_least =
      let may : may_load given.name session ≡ Ok tt = ap (may_join given.name) holds.session_is ∙ sym (may_load-held given.name house) ∙ free in
      let same : (bound : Bound) → bound.loading p ≡ result_unwrap_or (loaded_number bound session given) 0 =
      λ bound. sym (ap (λ f. result_unwrap_or (number_by bound f (opened given.document)) 0) may ∙ ap (λ r. result_unwrap_or (number_by bound (Ok tt) r) 0) is)
      in
      (subst (λ n. n ≤ rise) (same least) at_least, subst (λ n. rise ≤ n) (same most) at_most)

  -- it is refused
  pub counted-unloaded : (rise : ℕ) (refusal : Refusal) → (refusal ≡ Memory) ⊎ (opened given.document ≡ Err refusal) →
      IsCounted (Err refusal) (λ bound. loaded_number bound session given) rise
  counted-unloaded rise refusal (inl memory) = inr (inl memory)
  counted-unloaded rise refusal (inr is) =
      let fresh : Presentation = record { document = given.document; log = []; now = 0 } in
      inl (full-cause fresh (diary_within limits.entries (course_of fresh)) refusal is)

-- ---- a whole order

-- a line that isn't too long, by what it says
pub counted-line : (r : Result (Unit {0}) Refusal) (session : Session) (line : List ℕ) (read : Read) (rise : ℕ) → length line ≤ LINE_BYTES → line_of line ≡ Ok read →
    IsCounted r (λ bound. said_number bound session read) rise → IsCounted r (λ bound. line_number bound session line) rise
counted-line r session line read rise short is counted =
    let same : (bound : Bound) → result_unwrap_or (said_number bound session read) 0 ≡ result_unwrap_or (line_number bound session line) 0 =
    λ bound. sym (
    ap (λ b. result_unwrap_or ((if b then line_of line else Err LongLine) >>= said_number bound session) 0) (is_short-true line short)
    ∙ ap (λ (o : Result Read Refusal). result_unwrap_or (o >>= said_number bound session) 0) is
    )
    in
    counted-same (λ refusal. refusal) r
    (λ bound. result_unwrap_or (said_number bound session read) 0)
    (λ bound. result_unwrap_or (line_number bound session line) 0)
    rise
    same
    counted

-- a single line
pub counted-single : (r : Result (Unit {0}) Refusal) (line : ℕ) (number : Bound → Result ℕ Refusal) (rise : ℕ) → IsCounted r number rise →
    IsOrderCounted (at_line line r) (λ bound. result_unwrap_or (number bound) 0) rise
counted-single (Ok done) line number rise counted = counted
counted-single (Err refusal) line number rise counted = counted

at_line-number : (line : ℕ) (r : Result ℕ Refusal) → result_unwrap_or r 0 ≡ result_unwrap_or (at_line line r) 0
at_line-number line (Ok n) = refl
at_line-number line (Err refusal) = refl

-- a load whose lines were read
pub counted-load : (r : Result (Unit {0}) Refusal) (session : Session) (lines : LoadLines) (line end_line : ℕ) (given : GivenDoc) (rise : ℕ) →
    Gives (Ok given) (given_within limits session.wanted lines end_line) ⊎ (fine given ≡ Err (record { line = lines.head.number; refusal = Memory })) →
    IsCounted r (λ bound. loaded_number bound session (given_of given)) rise →
    IsOrderCounted (at_line line r) (λ bound. number_of bound session (load lines (Some end_line))) rise
counted-load r session lines line end_line given rise (inr never) counted = absurd cc
counted-load r session lines line end_line given rise (inl gives) counted =
    let same : (bound : Bound) → result_unwrap_or (loaded_number bound session (given_of given)) 0 ≡ number_of bound session (load lines (Some end_line)) =
    λ bound.
    at_line-number lines.head.number (loaded_number bound session (given_of given))
    ∙ sym (ap (λ (g : Result LoadedDocument Fault). result_unwrap_or (g >>= λ (g : LoadedDocument). at_line lines.head.number (loaded_number bound session g)) 0) gives)
    in
    counted-same (λ (fault : Fault). fault.refusal) (at_line line r)
    (λ bound. result_unwrap_or (loaded_number bound session (given_of given)) 0)
    (λ bound. number_of bound session (load lines (Some end_line)))
    rise
    same
    (counted-single r line (λ bound. loaded_number bound session (given_of given)) rise counted)

-- a refused one
pub counted-fault : (fault : Fault) (number : Bound → ℕ) (steps : ℕ) → IsOrderCounted (Err fault) number (steps - steps)
counted-fault fault number steps = inr (inr (omega arith))

-- ---- one order more

-- memory sufficed before an order at which it did
was_enough : (answered : Result (Unit {0}) Fault) (text : AnswerText) (counts : Counts) → (counted_as answered text counts).memory ≡ false → counts.memory ≡ false
was_enough (Ok done) text counts enough = enough
was_enough (Err fault) text counts enough = (or_parts counts.memory (is_memory fault.refusal) enough).0

-- the order is within its bounds where its diary isn't full and memory suffices
within-bounds : (answered : Result (Unit {0}) Fault) (text : AnswerText) (counts : Counts) (so_far : SessionSoFar) (session : Session) (order : OrderLines) (rise : ℕ) →
    MakesAnswer answered text so_far session answer_of order → IsOrderCounted answered (λ bound. number_of bound session order) rise →
    (counted_as answered text counts).memory ≡ false → refuses_as is_diary_full (heard (answer_of session order)) ≡ false →
    (number_of least session order ≤ rise) × (rise ≤ number_of most session order)
within-bounds (Ok done) text counts so_far session order rise made counted enough not_full = counted
within-bounds (Err fault) text counts so_far session order rise made counted enough not_full = go made.1 counted
  where
    sufficed : is_memory fault.refusal ≡ false
    sufficed = (or_parts counts.memory (is_memory fault.refusal) enough).1

    go : MayAnswer answer_of session order (Err fault) → (fault.refusal ≡ DiaryFull) ⊎ ((fault.refusal ≡ Memory) ⊎ (rise ≡ 0)) →
        (number_of least session order ≤ rise) × (rise ≤ number_of most session order)
    go (inr memory) c = clash (is_memory fault.refusal) (ap (λ (a : Answer). refuses_as is_memory (heard a)) memory.1) sufficed
    go (inl is) (inl full) =
        clash (is_diary_full fault.refusal) (ap is_diary_full full) (ap (λ (a : Answer). refuses_as is_diary_full (heard a)) is ∙ not_full)
    go (inl is) (inr (inl memory)) = clash (is_memory fault.refusal) (ap is_memory memory) sufficed
    go (inl is) (inr (inr none)) =
        let least_is : number_of least session order ≡ 0 = refused-0 least least_spares session order fault (sym is) in
        (omega arith, omega arith)

pub evaluated-on : {run : Run} {new : Counts} {orders : List OrderLines} {told : TranscriptState} (order : OrderLines) (answered : Result (Unit {0}) Fault) (text : AnswerText) (so_far : SessionSoFar) (before after : ℕ) →
    Tells false run orders told → MakesAnswer answered text so_far told.session answer_of order →
    IsOrderCounted answered (λ bound. number_of bound told.session order) (after - before) → before ≤ after →
    new.memory ≡ (counted_as answered text run.counts).memory → EvaluatesOn run.counts new orders (orders ++ order ∷ []) before after
evaluated-on {run} {new} {orders} {told} order answered text so_far before after tells made counted le counts start evaluated = record {
  risen = omega (arith, evaluated.risen, le);
  bounded = λ enough none.
      let enough_now : (counted_as answered text run.counts).memory ≡ false = sym counts ∙ enough in
      let enough_before : run.counts.memory ≡ false = was_enough answered text run.counts enough_now in
      let one : told ≡ transcript_by answer_of orders = is_one answer_of tells.transcript (sym tells.counted.memory_is ∙ enough_before) in
      let parts = full-snoc untold orders order none in
      let not_full : refuses_as is_diary_full (heard (answer_of told.session order)) ≡ false = ap (λ (t : TranscriptState). refuses_as is_diary_full (heard (answer_of t.session order))) one ∙ parts.1 in
      let was : IsBounded orders (before - start) = evaluated.bounded enough_before parts.0 in
      let here = within-bounds answered text run.counts so_far told.session order (after - before) made counted enough_now not_full in
      let sum_is : (number : Session → OrderLines → ℕ) → sum_of number (orders ++ order ∷ []) ≡ sum_of number orders + number told.session order =
      λ number. sum-snoc number untold orders order ∙ ap (λ (t : TranscriptState). sum_of number orders + number t.session order) (sym one)
      in
      record {
        at_least = omega (arith, was.at_least, here.0, sum_is least_of, evaluated.risen, le);
        at_most = omega (arith, was.at_most, here.1, sum_is most_of, evaluated.risen, le);
      };
}

-- the same by all that is counted
pub evaluated-more : {run : Run} {new : Counts} {orders : List OrderLines} {told : TranscriptState} (order : OrderLines) (answered : Result (Unit {0}) Fault) (text : AnswerText) (so_far : SessionSoFar) (before after : ℕ) →
    Tells false run orders told → MakesAnswer answered text so_far told.session answer_of order →
    IsOrderCounted answered (λ bound. number_of bound told.session order) (after - before) → before ≤ after →
    new ≡ counted_as answered text run.counts → EvaluatesOn run.counts new orders (orders ++ order ∷ []) before after
evaluated-more order answered text so_far before after tells made counted le counts =
    evaluated-on order answered text so_far before after tells made counted le (ap (λ (k : Counts). k.memory) counts)

-- before the first order
pub evaluated-fresh : (counts : Counts) (steps : ℕ) → HasEvaluated counts [] steps steps
evaluated-fresh counts steps = record { risen = omega arith; bounded = λ enough none. record { at_least = omega arith; at_most = omega arith } }

-- ---- a line

-- nothing is answered
pub evaluated-none : (old new : Counts) (orders : List OrderLines) (steps : ℕ) → new ≡ old → EvaluatesOn old new orders orders steps steps
evaluated-none old new orders steps same start evaluated = record {
  risen = evaluated.risen;
  bounded = λ enough none. evaluated.bounded (ap (λ (k : Counts). k.memory) (sym same) ∙ enough) none;
}

-- by the orders that are whole with it
pub evaluated-cut : (old new : Counts) (orders whole : List OrderLines) (cut : CutLines) (count : ℕ) (loading : Option LoadLines) (before after : ℕ) →
    cut ≡ record { count = count; whole = whole; «open» = loading } → EvaluatesOn old new orders whole before after → EvaluatesOn old new orders cut.whole before after
evaluated-cut old new orders whole cut count loading before after is on start evaluated =
    subst (λ (c : CutLines). HasEvaluated new c.whole start after) (sym is) (on start evaluated)

-- behind one more line
pub evaluated-next : (new : Counts) (answered : List (List ℕ)) (line : List ℕ) (start after : ℕ) → HasEvaluated new (with_line (cut_of answered) line).whole start after →
    HasEvaluated new (cut_of (answered ++ line ∷ [])).whole start after
evaluated-next new answered line start after evaluated = subst (λ (c : CutLines). HasEvaluated new c.whole start after) (sym (cut_of-one_more answered line)) evaluated

-- ---- the end

-- no load is unfinished
pub evaluated-ended : (old new : Counts) (orders : List OrderLines) (last : Option LoadLines) (steps : ℕ) → last ≡ None → new ≡ old →
    EvaluatesOn old new orders (orders ++ unended last) steps steps
evaluated-ended old new orders last steps none same start evaluated =
    subst (λ os. HasEvaluated new os start steps) (sym (ap (λ (o : Option LoadLines). orders ++ unended o) none ∙ append-nil orders))
    (evaluated-none old new orders steps same start evaluated)
