-- How often orders have intervals evaluated, by the numbers that bound them.
use Rattle.std.proofs.Common.{◌≡◌, sym, subst, ℕ, ◌-◌, ◌≤◌, List, ℤ, negsuc, Bool, false, Option, Some, None, inl, inr, arith}
use Rattle.std.specs.Prelude.{Result, Ok, Err, IfErr, IsErr, OnOk, pos, nat_abs, nat_lt, ◌≤ℤ◌}
use Rattle.std.proofs.lemmas.Bool.{le-ltb}
use Rattle.std.proofs.lemmas.Int.{ints}
use Rattle.smil_model.specs.declared.order.Order.{Order}
use Rattle.smil_model.specs.declared.order.Order.TheVariants as order
use Rattle.smil_model.specs.declared.order.Refusal.{Refusal}
use Rattle.smil_model.specs.shown.Answers.{MayEvaluate}
use Rattle.smil_model.specs.shown.Orders.{Presentation, outcome}
use Rattle.smil_report.specs.Tellings.{Telling, Tells}
use Rattle.smil_grammar.specs.Formats.{formats}
use Rattle.smil_cells.specs.CellsState.{WhereTold}
use Rattle.smil_live.specs.Counted.{IsAtLeast, IsAtMost, KeepsToCounts, IsFree}
use Rattle.smil_live.specs.Counts.{least_between, least_onward, least_seeking, most_between, most_number, most_onward, most_seeking, told_where, when_accepted}
use Rattle.smil_live.specs.Moves.{IsTooFull}

-- ---- accepted orders

pub at_most : (counts : Bool) (before after : Presentation) (given : Order) (rise : ℕ) → outcome formats before given ≡ Ok after → WhereTold counts (rise ≤ most_between before given after)
    → IsAtMost counts before given rise
at_most counts before after given rise state most =
    subst (λ (r : Result Presentation Refusal). WhereTold counts (rise ≤ when_accepted r (most_between before given))) (sym state) most

pub at_least : (counts : Bool) (before after : Presentation) (given : Order) (rise : ℕ) → outcome formats before given ≡ Ok after → WhereTold counts (least_between before given after ≤ rise)
    → IsAtLeast counts before given rise
at_least counts before after given rise state least =
    subst (λ (r : Result Presentation Refusal). WhereTold counts (when_accepted r (least_between before given) ≤ rise)) (sym state) least

-- the same of a result
pub at_most_then : {A E I : Type 0} (tell : Telling I) (r : Result A E) (counts : Bool) (before after : Presentation) (given : Order) (text : List I) (rise : ℕ) → OnOk r (Tells tell formats before after given text)
    → OnOk r (WhereTold counts (rise ≤ most_between before given after)) → OnOk r (IsAtMost counts before given rise)
at_most_then tell (Err e) counts before after given text rise accepted most = tt
at_most_then tell (Ok x) counts before after given text rise accepted most = at_most counts before after given rise accepted.state most

pub at_least_then : {A E I : Type 0} (tell : Telling I) (r : Result A E) (counts : Bool) (before after : Presentation) (given : Order) (text : List I) (rise : ℕ) → OnOk r (Tells tell formats before after given text)
    → OnOk r (WhereTold counts (least_between before given after ≤ rise)) → OnOk r (IsAtLeast counts before given rise)
at_least_then tell (Err e) counts before after given text rise accepted least = tt
at_least_then tell (Ok x) counts before after given text rise accepted least = at_least counts before after given rise accepted.state least

-- ---- a seek onward

not_back : (n : ℕ) (to : ℤ) → pos n ≤ℤ to → nat_lt (nat_abs to) n ≡ false
not_back n (pos k) from = le-ltb k n (omega (arith, ints, from))
not_back n (negsuc k) from = absurd (omega (arith, ints, from))

pub seek_at_most : (counts : Bool) (before after : Presentation) (to : ℤ) (rise : ℕ) → pos before.now ≤ℤ to → outcome formats before (order.Seek to) ≡ Ok after → WhereTold counts (rise ≤ most_onward before after)
    → IsAtMost counts before (order.Seek to) rise
seek_at_most counts before after to rise from state most =
    at_most counts before after (order.Seek to) rise state
    (subst (λ (back : Bool). WhereTold counts (rise ≤ most_seeking back before after)) (sym (not_back before.now to from)) most)

pub seek_at_least : (counts : Bool) (before after : Presentation) (to : ℤ) (rise : ℕ) → pos before.now ≤ℤ to → outcome formats before (order.Seek to) ≡ Ok after → WhereTold counts (least_onward before after ≤ rise)
    → IsAtLeast counts before (order.Seek to) rise
seek_at_least counts before after to rise from state least =
    at_least counts before after (order.Seek to) rise state
    (subst (λ (back : Bool). WhereTold counts (least_seeking back before after ≤ rise)) (sym (not_back before.now to from)) least)

-- ---- refused orders

-- what had nothing evaluated
pub free_at_once : (most : Option ℕ) (given : Refusal) (steps : ℕ) → MayEvaluate most given (steps - steps)
free_at_once None given steps = tt
free_at_once (Some most) given steps = inr (inr (omega arith))

-- what was too full
pub free_too_full : (most : Option ℕ) (p : Presentation) (given : Refusal) (rise : ℕ) → IsTooFull p given → MayEvaluate most given rise
free_too_full None p given rise full = tt
free_too_full (Some most) p given rise (inl memory) = inr (inl memory)
free_too_full (Some most) p given rise (inr full) = inl full.0

-- ---- by what came of an order

pub bounded_accepted : (counts : Bool) (before after : Presentation) (given : Order) (rise : ℕ) → outcome formats before given ≡ Ok after → WhereTold counts (rise ≤ most_between before given after)
    → WhereTold counts (least_between before given after ≤ rise) → KeepsToCounts counts before given (Ok tt) rise
bounded_accepted counts before after given rise state most least = record {
  most = at_most counts before after given rise state most;
  least = at_least counts before after given rise state least;
  free = tt;
}

pub bounded_then : {I : Type 0} (tell : Telling I) (r : Result (Unit {0}) Refusal) (counts : Bool) (before after : Presentation) (given : Order) (text : List I) (rise : ℕ) → OnOk r (Tells tell formats before after given text)
    → OnOk r (WhereTold counts (rise ≤ most_between before given after)) → OnOk r (WhereTold counts (least_between before given after ≤ rise))
    → IfErr r (λ (e : Refusal). IsFree counts before given e rise) → KeepsToCounts counts before given r rise
bounded_then tell r counts before after given text rise accepted most least free = record {
  most = at_most_then tell r counts before after given text rise accepted most;
  least = at_least_then tell r counts before after given text rise accepted least;
  free = free;
}

pub seek_bounded : (counts : Bool) (before after : Presentation) (to : ℤ) (rise : ℕ) → pos before.now ≤ℤ to → outcome formats before (order.Seek to) ≡ Ok after → WhereTold counts (rise ≤ most_onward before after)
    → WhereTold counts (least_onward before after ≤ rise) → KeepsToCounts counts before (order.Seek to) (Ok tt) rise
seek_bounded counts before after to rise from state most least = record {
  most = seek_at_most counts before after to rise from state most;
  least = seek_at_least counts before after to rise from state least;
  free = tt;
}

-- one that is refused before anything is evaluated
pub bounded_at_once : (r : Result (Unit {0}) Refusal) (counts : Bool) (before : Presentation) (given : Order) (steps : ℕ) → IsErr r → KeepsToCounts counts before given r (steps - steps)
bounded_at_once (Ok x) counts before given steps err = cc
bounded_at_once (Err e) counts before given steps err = record { most = tt; least = tt; free = free_at_once (told_where counts (most_number before given)) e steps }

-- one that is refused since a presentation has too many entries
pub bounded_too_full : (r : Result (Unit {0}) Refusal) (counts : Bool) (before full : Presentation) (given : Order) (rise : ℕ) → IsErr r → IfErr r (IsTooFull full) → KeepsToCounts counts before given r rise
bounded_too_full (Ok x) counts before full given rise err too_full = cc
bounded_too_full (Err e) counts before full given rise err too_full = record { most = tt; least = tt; free = free_too_full (told_where counts (most_number before given)) full e rise too_full }
