-- How orders are answered, by what came of them.
use Rattle.std.proofs.Common.{◌≡◌, refl, subst, ℕ, ◌-◌, ◌≤◌, ◌++◌, List, Bool, Ok, Err, arith, drop, length}
use Rattle.std.specs.Prelude.{Result, IfErr, IsErr, OnOk, flat_map}
use Rattle.std.proofs.lemmas.Result.{on_ok_weaker, IfErr-weaker}
use Rattle.smil_model.specs.declared.diary.Happening.{Happening}
use Rattle.smil_model.specs.declared.order.Order.{Order}
use Rattle.smil_model.specs.declared.order.Refusal.{Refusal}
use Rattle.smil_model.specs.document.Limits.{limits}
use Rattle.smil_model.specs.shown.Answers.{Refuses}
use Rattle.smil_model.specs.shown.Orders.{Presentation, changes_between, outcome, with_logged as logged_within}
use Rattle.smil_report.specs.Tellings.{Telling, Tells, change_told, gone_told, order_told}
use Rattle.smil_grammar.specs.Formats.{formats}
use Rattle.smil_cells.specs.CellsState.{WhereTold}
use Rattle.smil_live.specs.Answered.{IsAnswered, IsHeard}
use Rattle.smil_live.specs.Counted.{KeepsToCounts}
use Rattle.smil_live.specs.Counts.{least_between, least_onward, most_between, most_number, most_onward, told_where}
use Rattle.smil_live.specs.Moves.{IsNotHeard, IsTooFull}
use Rattle.smil_live.proofs.CountedOrders.{bounded_at_once, bounded_then, bounded_too_full}
use Rattle.smil_live.proofs.GrowingTexts.{is_appended}
use Rattle.smil_live.proofs.OrderOutcomes.{heard_answered, not_heard}

module _ {I : Type 0} (tell : Telling I) (counts : Bool) (given : Order) where
  -- one that is refused before anything is done
  pub refused_at_once : (r : Result (Unit {0}) Refusal) (p : Presentation) (old : List I) (steps : ℕ) → IsErr r → IfErr r (Refuses formats p given) → IsAnswered tell counts given r p p old old steps steps
  refused_at_once (Ok x) p old steps err refused = cc
  refused_at_once (Err e) p old steps err refused = record { ok = tt; appended = tt; refused = refused; kept = refl; text = refl; counted = omega arith; bounded = bounded_at_once (Err e) counts p given steps err }

  -- one that is refused since a presentation has too many entries
  pub refused_too_full : (r : Result (Unit {0}) Refusal) (p q full : Presentation) (old new : List I) (start now : ℕ) → IsErr r → IfErr r (IsTooFull full) → IfErr r (Refuses formats p given) → q ≡ p → new ≡ old → start ≤ now
      → IsAnswered tell counts given r p q old new start now
  refused_too_full (Ok x) p q full old new start now err too_full refused kept text counted = cc
  refused_too_full (Err e) p q full old new start now err too_full refused kept text counted =
      record { ok = tt; appended = tt; refused = refused; kept = kept; text = text; counted = counted; bounded = bounded_too_full (Err e) counts p full given (now - start) err too_full }

  -- one that is carried out
  pub accepted : (p q : Presentation) (old new more : List I) (start now : ℕ) → Tells tell formats p q given (drop (length old) new) → new ≡ old ++ more → start ≤ now → KeepsToCounts counts p given (Ok tt) (now - start)
      → IsAnswered tell counts given (Ok tt) p q old new start now
  accepted p q old new more start now ok told counted bounded = record { ok = ok; appended = is_appended old new more told; refused = tt; kept = tt; text = tt; counted = counted; bounded = bounded }

  -- one that comes to what is heard
  pub answered_as_heard : (what : Happening) (r : Result (Unit {0}) Refusal) (p q : Presentation) (old new : List I) (start now : ℕ) → outcome formats p given ≡ logged_within limits p what
      → order_told tell p q given ≡ gone_told tell p q ++ flat_map (change_told tell q.document.nodes) (changes_between p q) → most_onward p q ≡ most_between p given q → least_onward p q ≡ least_between p given q
      → IsHeard tell counts what r p q old new start now → IsAnswered tell counts given r p q old new start now
  answered_as_heard what r p q old new start now is told most least heard =
      let text = drop (length old) new in
      let rise = now - start in
      let ok : OnOk r (Tells tell formats p q given text) = on_ok_weaker r (heard_answered tell p q given what text is told) heard.ok in
      record {
        ok = ok;
        appended = heard.appended;
        refused = IfErr-weaker r (IsNotHeard p what) (Refuses formats p given) (λ e none. not_heard p given what e is none) heard.refused;
        kept = heard.kept;
        text = heard.text;
        counted = heard.counted;
        bounded =
            bounded_then tell r counts p q given text rise ok (subst (λ (n : ℕ). OnOk r (WhereTold counts (rise ≤ n))) most heard.most) (subst (λ (n : ℕ). OnOk r (WhereTold counts (n ≤ rise))) least heard.least)
            (heard.free (told_where counts (most_number p given)));
      }
