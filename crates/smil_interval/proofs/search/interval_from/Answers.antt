use Rattle.std.proofs.Common.{◌≡◌, sym, ◌∙◌, ap, List, ℤ, rules, w64}
use Rattle.std.specs.Prelude.{filter, Some, option_map, slice_get}
use Rattle.std.proofs.lemmas.Int.{to_z-of_z}
use mir.Val.{SFits}
use Rattle.smil_model.specs.declared.interval.Facts.{Facts}
use Rattle.smil_model.specs.interval.Intervals.{is_from, after_end, counts_after, interval_end}
use Rattle.smil_interval.specs.Next.{interval_to}
use Rattle.smil_interval.proofs.IntervalSearch.{next_is, next_none}
use Rattle.smil_interval.proofs.search.interval_from.Goals as goal

pub returns-in-Some : goal.returns-in-Some
returns-in-Some c =
    let facts = c.args.facts.now in
    let b = c.in-Some.begin.now in
    let fits : SFits w64 b = search rules in
    let end_of = interval_end facts c.args.begins.now c.args.ends.now in
    let from = after_end c.args.last.begin c.args.last.«end» in
    let is : c.interval_at.result ≡ option_map (interval_to b) (end_of b) = simp to_z-of_z at c.interval_at.ensures in
    is
    ∙ sym (next_is end_of from (filter (counts_after facts.passed) c.args.begins.now) b
    (ap (λ (f : Facts). slice_get (filter (is_from (Some from)) (filter (counts_after f.passed) c.args.begins.now)) 0) (sym c.facts.view_is)
    ∙ ap (λ (zs : List ℤ). slice_get (filter (is_from (Some from)) zs) 0) (sym c.not_passed-rest.ensures.part)
    ∙ ap (λ (zs : List ℤ). slice_get zs 0) (sym c.from_end.ensures.part)
    ∙ sym c.in-Some.ensures.value))

pub returns-in-None : goal.returns-in-None
returns-in-None c =
    let facts = c.args.facts.now in
    let end_of = interval_end facts c.args.begins.now c.args.ends.now in
    let from = after_end c.args.last.begin c.args.last.«end» in
    sym (next_none end_of from (filter (counts_after facts.passed) c.args.begins.now)
    (ap (λ (f : Facts). slice_get (filter (is_from (Some from)) (filter (counts_after f.passed) c.args.begins.now)) 0) (sym c.facts.view_is)
    ∙ ap (λ (zs : List ℤ). slice_get (filter (is_from (Some from)) zs) 0) (sym c.not_passed-rest.ensures.part)
    ∙ ap (λ (zs : List ℤ). slice_get zs 0) (sym c.from_end.ensures.part)
    ∙ sym c.in-None.ensures.value))
