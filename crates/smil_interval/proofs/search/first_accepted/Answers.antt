use Rattle.std.proofs.Common.{◌≡◌, sym, ◌∙◌, ap, subst, ◌≤◌, length, List, ◌∷◌, ℤ, true, false, arith, rules, w64}
use Rattle.std.specs.Prelude.{int_le, Some, option_map}
use Rattle.std.proofs.lemmas.Int.{to_z-of_z}
use mir.Val.{SFits}
use Rattle.smil_model.specs.declared.interval.Facts.{Facts}
use Rattle.smil_model.specs.interval.Intervals.{is_from, after_end, is_accepted, interval_end}
use Rattle.smil_interval.specs.Rising.{IsRising}
use Rattle.smil_interval.specs.Next.{interval_to}
use Rattle.smil_model.proofs.RisingLists.{rest_rises}
use Rattle.smil_interval.proofs.OrderedLists.{shorter}
use Rattle.smil_interval.proofs.IntervalSearch.{accepted_interval, rejected_interval}
use Rattle.smil_interval.proofs.search.first_accepted.Goals as goal

pub from_end-rest-requires : goal.from_end-rest-requires
from_end-rest-requires c =
    let rises : IsRising (c.in-Some.begin.now ∷ c.in-Some.later.now) = subst (λ (zs : List ℤ). IsRising zs) c.in-Some.ensures.cases.0 c.search.invariant.rising in
    rest_rises int_le c.in-Some.begin.now c.in-Some.later.now rises

pub search-smaller : goal.search-smaller
search-smaller c =
    let i = c.in_ok-interval.interval in
    let kept : length c.from_end-rest.result.now ≤ length c.in-Some.later.now = shorter (is_from (Some (after_end i.begin i.«end»))) c.in-Some.later.now c.from_end-rest.result.now c.from_end-rest.ensures.part in
    omega (arith, kept, c.in-Some.ensures.cases.1)

pub search-preserved : goal.search-preserved
search-preserved c =
    let facts = c.args.facts.now in
    let b = c.in-Some.begin.now in
    let i = c.in_ok-interval.interval in
    let fits : SFits w64 b = search rules in
    let start_fits : SFits w64 c.facts.inside.parent_start = search rules in
    let end_of = interval_end facts c.args.begins.now c.args.ends.now in
    let is : Some i ≡ option_map (interval_to b) (end_of b) = simp to_z-of_z at c.in_ok-interval.ensures in
    let bad : is_accepted facts.parent_start i.begin i.«end» ≡ false =
    ap (λ (f : Facts). is_accepted f.parent_start i.begin i.«end») (sym c.facts.view_is)
    ∙ sym (simp to_z-of_z at c.if-is_accepted.ensures) in
    record {
      rising = c.from_end-rest.ensures.rising;
      same =
          sym (rejected_interval facts end_of c.search.rest.now c.in-Some.later.now c.from_end-rest.result.now b i c.search.invariant.rising c.in-Some.ensures.cases.0 is bad c.from_end-rest.ensures.part)
          ∙ c.search.invariant.same;
    }

pub returns-then-is_accepted : goal.returns-then-is_accepted
returns-then-is_accepted c =
    let facts = c.args.facts.now in
    let b = c.in-Some.begin.now in
    let i = c.in_ok-interval.interval in
    let fits : SFits w64 b = search rules in
    let start_fits : SFits w64 c.facts.inside.parent_start = search rules in
    let end_of = interval_end facts c.args.begins.now c.args.ends.now in
    let is : Some i ≡ option_map (interval_to b) (end_of b) = simp to_z-of_z at c.in_ok-interval.ensures in
    let good : is_accepted facts.parent_start i.begin i.«end» ≡ true =
    ap (λ (f : Facts). is_accepted f.parent_start i.begin i.«end») (sym c.facts.view_is)
    ∙ sym (simp to_z-of_z at c.if-is_accepted.ensures) in
    sym (accepted_interval facts end_of c.search.rest.now c.in-Some.later.now b i c.in-Some.ensures.cases.0 is good)
    ∙ c.search.invariant.same
