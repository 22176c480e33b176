use Rattle.std.proofs.Common.{◌≡◌, sym, ◌∙◌, ap, subst, List, ◌∷◌, ℤ, false, rules, w64}
use Rattle.std.specs.Prelude.{int_le, filter, None, Some, option_map}
use Rattle.std.proofs.lemmas.Int.{to_z-of_z}
use mir.Val.{SFits}
use Rattle.smil_model.specs.declared.interval.Facts.{Facts}
use Rattle.smil_model.specs.interval.Intervals.{counts_after, first_from, is_accepted, interval_end}
use Rattle.smil_interval.specs.Rising.{IsRising}
use Rattle.smil_interval.specs.Next.{interval_to}
use Rattle.smil_model.proofs.RisingLists.{rest_rises}
use Rattle.smil_interval.proofs.IntervalSearch.{rejected_interval}
use Rattle.smil_interval.proofs.search.first_interval.Goals as goal

pub from_end-requires : goal.from_end-requires
from_end-requires c =
    let rises : IsRising (c.in-Some.begin.now ∷ c.in-Some.later.now) = subst (λ (zs : List ℤ). IsRising zs) c.in-Some.ensures.cases.0 c.not_passed-rest.ensures.rising in
    rest_rises int_le c.in-Some.begin.now c.in-Some.later.now rises

pub returns : goal.returns
returns c =
    let facts = c.args.facts.now in
    let b = c.in-Some.begin.now in
    let i = c.in_ok-interval.interval in
    let fits : SFits w64 b = search rules in
    let start_fits : SFits w64 c.facts.inside.parent_start = search rules in
    let end_of = interval_end facts c.args.begins.now c.args.ends.now in
    let is : Some i ≡ option_map (interval_to b) (end_of b) = simp to_z-of_z at c.in_ok-interval.ensures in
    let bad : is_accepted facts.parent_start i.begin i.«end» ≡ false =
    ap (λ (f : Facts). is_accepted f.parent_start i.begin i.«end») (sym c.facts.view_is)
    ∙ sym (simp to_z-of_z at c.if-is_accepted.ensures) in
    c.first_accepted.ensures
    ∙ sym (rejected_interval facts end_of c.not_passed-rest.result.now c.in-Some.later.now c.from_end.result.now b i c.not_passed-rest.ensures.rising c.in-Some.ensures.cases.0 is bad c.from_end.ensures.part)
    ∙ ap (first_from facts end_of None) (c.not_passed-rest.ensures.part ∙ ap (λ (f : Facts). filter (counts_after f.passed) c.args.begins.now) c.facts.view_is)
