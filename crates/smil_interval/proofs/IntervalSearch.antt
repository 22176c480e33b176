-- The search for an interval, over the begins that are left.
use Rattle.std.proofs.Common.{◌≡◌, refl, sym, ◌∙◌, ap, subst, suc, List, [], ◌∷◌, length, get_or, ℤ, Bool, true, false, arith}
use Rattle.std.specs.Prelude.{cond, filter, int_le, int_lt, Option, Some, None, option_map, slice_get}
use Rattle.smil_model.specs.declared.times.Time.{Time}
use Rattle.smil_model.specs.declared.times.Time.TheVariants.{At, Unresolved}
use Rattle.smil_model.specs.declared.interval.Interval.{Interval}
use Rattle.smil_model.specs.declared.interval.Facts.{Facts}
use Rattle.smil_model.specs.Times.{time_le}
use Rattle.smil_model.specs.interval.Intervals.{first_from, next_from, first_after, is_from, is_accepted, after_end, judged, unless_over, Attempt, goes_on, is_over}
use Rattle.smil_interval.specs.Rising.{IsRising}
use Rattle.smil_interval.specs.Next.{interval_to}
use Rattle.smil_model.proofs.RisingLists.{rest_rises}
use Rattle.smil_interval.proofs.OrderedLists.{filter_all}
use Rattle.smil_interval.proofs.TimeOrderTests.{from_up}

-- from a time on, the search is that from its outset over the begins from that time on
pub search_from : (facts : Facts) (end_of : ℤ → Option Time) (from : Time) (xs : List ℤ) → IsRising xs → first_from facts end_of (Some from) xs ≡ first_from facts end_of None (filter (is_from (Some from)) xs)
search_from facts end_of from [] up = refl
search_from facts end_of from (b ∷ bs) up = step (time_le from (At b)) refl (search_from facts end_of from bs (rest_rises int_le b bs up))
  where
    step : (t : Bool) → time_le from (At b) ≡ t → first_from facts end_of (Some from) bs ≡ first_from facts end_of None (filter (is_from (Some from)) bs) → unless_over (cond t (judged facts b (end_of b)) (goes_on (Some from))) (λ later. first_from facts end_of later bs) ≡ first_from facts end_of None (cond t (b ∷ filter (is_from (Some from)) bs) (filter (is_from (Some from)) bs))
    step true q rest =
        ap (λ zs. unless_over (judged facts b (end_of b)) (λ later. first_from facts end_of later zs))
        (sym (filter_all (is_from (Some from)) bs (λ k d inside. from_up from b (get_or bs k d) (up 0 (suc k) d (omega arith) (omega (arith, inside))) q)))
    step false q rest = rest

-- what comes of a begin
judged_at : Facts → ℤ → Time → Bool → Attempt
judged_at facts b e accepted = cond accepted (is_over (Some (interval_to b e))) (goes_on (Some (after_end b e)))

found : Facts → (ℤ → Option Time) → List ℤ → Attempt → Option Interval
found facts end_of later tried = unless_over tried (λ from. first_from facts end_of from later)

pub nothing_there : (facts : Facts) (end_of : ℤ → Option Time) (rest later : List ℤ) (b : ℤ) → rest ≡ b ∷ later → end_of b ≡ None → first_from facts end_of None rest ≡ None
unfolding found
nothing_there facts end_of rest later b at ends =
    ap (first_from facts end_of None) at
    ∙ ap (λ o. found facts end_of later (judged facts b o)) ends

pub accepted : (facts : Facts) (end_of : ℤ → Option Time) (rest later : List ℤ) (b : ℤ) (e : Time) → rest ≡ b ∷ later → end_of b ≡ Some e → is_accepted facts.parent_start b e ≡ true → first_from facts end_of None rest ≡ Some (interval_to b e)
unfolding found judged_at
accepted facts end_of rest later b e at ends good =
    ap (first_from facts end_of None) at
    ∙ ap (λ o. found facts end_of later (judged facts b o)) ends
    ∙ ap (λ t. found facts end_of later (judged_at facts b e t)) good

pub rejected : (facts : Facts) (end_of : ℤ → Option Time) (rest later next : List ℤ) (b : ℤ) (e : Time) → IsRising rest → rest ≡ b ∷ later → end_of b ≡ Some e → is_accepted facts.parent_start b e ≡ false → next ≡ filter (is_from (Some (after_end b e))) later → first_from facts end_of None rest ≡ first_from facts end_of None next
unfolding found judged_at
rejected facts end_of rest later next b e up at ends bad part =
    let rises : IsRising (b ∷ later) = subst (λ (zs : List ℤ). IsRising zs) at up in
    ap (first_from facts end_of None) at
    ∙ ap (λ o. found facts end_of later (judged facts b o)) ends
    ∙ ap (λ t. found facts end_of later (judged_at facts b e t)) bad
    ∙ search_from facts end_of (after_end b e) later (rest_rises int_le b later rises)
    ∙ ap (first_from facts end_of None) (sym part)

-- ---- an interval in place of its end

end_is : (b : ℤ) (o : Option Time) (i : Interval) → Some i ≡ option_map (interval_to b) o → o ≡ Some i.«end»
end_is b None i at = cc
end_is b (Some e) i at =
    let same : i ≡ interval_to b e = cc in
    ap (λ (j : Interval). Some j.«end») (sym same)

begin_is : (b : ℤ) (o : Option Time) (i : Interval) → Some i ≡ option_map (interval_to b) o → i.begin ≡ b
begin_is b None i at = cc
begin_is b (Some e) i at =
    let same : i ≡ interval_to b e = cc in
    ap (λ (j : Interval). j.begin) same

pub rejected_interval : (facts : Facts) (end_of : ℤ → Option Time) (rest later next : List ℤ) (b : ℤ) (i : Interval) → IsRising rest → rest ≡ b ∷ later → Some i ≡ option_map (interval_to b) (end_of b) → is_accepted facts.parent_start i.begin i.«end» ≡ false → next ≡ filter (is_from (Some (after_end i.begin i.«end»))) later → first_from facts end_of None rest ≡ first_from facts end_of None next
rejected_interval facts end_of rest later next b i up at is bad part =
    let start : i.begin ≡ b = begin_is b (end_of b) i is in
    rejected facts end_of rest later next b i.«end» up at (end_is b (end_of b) i is)
    (ap (λ (x : ℤ). is_accepted facts.parent_start x i.«end») (sym start) ∙ bad)
    (part ∙ ap (λ (x : ℤ). filter (is_from (Some (after_end x i.«end»))) later) start)

pub accepted_interval : (facts : Facts) (end_of : ℤ → Option Time) (rest later : List ℤ) (b : ℤ) (i : Interval) → rest ≡ b ∷ later → Some i ≡ option_map (interval_to b) (end_of b) → is_accepted facts.parent_start i.begin i.«end» ≡ true → first_from facts end_of None rest ≡ Some i
accepted_interval facts end_of rest later b i at is good =
    let start : i.begin ≡ b = begin_is b (end_of b) i is in
    let finish = end_is b (end_of b) i is in
    accepted facts end_of rest later b i.«end» at finish (ap (λ (x : ℤ). is_accepted facts.parent_start x i.«end») (sym start) ∙ good)
    ∙ sym (is ∙ ap (option_map (interval_to b)) finish)

pub none_left : (facts : Facts) (end_of : ℤ → Option Time) (rest : List ℤ) → length rest ≡ 0 → first_from facts end_of None rest ≡ None
none_left facts end_of [] none = refl
none_left facts end_of (b ∷ bs) none = absurd (omega (arith, none))

-- ---- the least of the begins from a time on

pub next_is : (end_of : ℤ → Option Time) (from : Time) (xs : List ℤ) (b : ℤ) → slice_get (filter (is_from (Some from)) xs) 0 ≡ Some b → next_from end_of from xs ≡ option_map (interval_to b) (end_of b)
next_is end_of from [] b at = cc
next_is end_of from (x ∷ xs) b at = step (time_le from (At x)) at (next_is end_of from xs b)
  where
    step : (t : Bool) → slice_get (cond t (x ∷ filter (is_from (Some from)) xs) (filter (is_from (Some from)) xs)) 0 ≡ Some b → (slice_get (filter (is_from (Some from)) xs) 0 ≡ Some b → next_from end_of from xs ≡ option_map (interval_to b) (end_of b)) → cond t (option_map (interval_to x) (end_of x)) (next_from end_of from xs) ≡ option_map (interval_to b) (end_of b)
    step true q rest =
        let same : x ≡ b = cc in
        ap (λ y. option_map (interval_to y) (end_of y)) same
    step false q rest = rest q

pub next_none : (end_of : ℤ → Option Time) (from : Time) (xs : List ℤ) → slice_get (filter (is_from (Some from)) xs) 0 ≡ None → next_from end_of from xs ≡ None
next_none end_of from [] at = refl
next_none end_of from (x ∷ xs) at = step (time_le from (At x)) at (next_none end_of from xs)
  where
    step : (t : Bool) → slice_get (cond t (x ∷ filter (is_from (Some from)) xs) (filter (is_from (Some from)) xs)) 0 ≡ None → (slice_get (filter (is_from (Some from)) xs) 0 ≡ None → next_from end_of from xs ≡ None) → cond t (option_map (interval_to x) (end_of x)) (next_from end_of from xs) ≡ None
    step true q rest = cc
    step false q rest = rest q

pub first_is : (v : ℤ) (xs : List ℤ) (b : ℤ) → slice_get (filter (int_lt v) xs) 0 ≡ Some b → first_after v xs ≡ At b
first_is v [] b at = cc
first_is v (x ∷ xs) b at = step (int_lt v x) at (first_is v xs b)
  where
    step : (t : Bool) → slice_get (cond t (x ∷ filter (int_lt v) xs) (filter (int_lt v) xs)) 0 ≡ Some b → (slice_get (filter (int_lt v) xs) 0 ≡ Some b → first_after v xs ≡ At b) → cond t (At x) (first_after v xs) ≡ At b
    step true q rest = let same : x ≡ b = cc in ap At same
    step false q rest = rest q

pub first_none : (v : ℤ) (xs : List ℤ) → slice_get (filter (int_lt v) xs) 0 ≡ None → first_after v xs ≡ Unresolved
first_none v [] at = refl
first_none v (x ∷ xs) at = step (int_lt v x) at (first_none v xs)
  where
    step : (t : Bool) → slice_get (cond t (x ∷ filter (int_lt v) xs) (filter (int_lt v) xs)) 0 ≡ None → (slice_get (filter (int_lt v) xs) 0 ≡ None → first_after v xs ≡ Unresolved) → cond t (At x) (first_after v xs) ≡ Unresolved
    step true q rest = cc
    step false q rest = rest q
