use Rattle.std.proofs.Common.{sym, ◌∙◌, ap, rules, w64}
use Rattle.std.specs.Prelude.{Some, ◌+ℤ◌, filter}
use Rattle.std.proofs.lemmas.Int.{to_z-of_z}
use mir.Val.{SFits}
use Rattle.smil_model.specs.declared.interval.Facts.{Facts}
use Rattle.smil_model.specs.Times.{greatest_time, within_horizon}
use Rattle.smil_model.specs.interval.Intervals.{counts_from, limit_of}
use Rattle.smil_interval.proofs.EndLimit.{limit_is}
use Rattle.smil_interval.proofs.end.given_limit.Goals as goal

pub returns-in-Some : goal.returns-in-Some
returns-in-Some c =
    let facts = c.args.facts.now in
    let first = c.in-Some.end.now in
    let begin_fits : SFits w64 c.args.begin = c.ranges.begin in
    let min_fits : SFits w64 c.min.result = search rules in
    let moved = simp to_z-of_z at c.moved.ensures in
    let part = simp to_z-of_z at c.counting.ensures.part in
    ap (λ t. Some t) (c.greatest.ensures ∙ ap (greatest_time first) (moved ∙ ap (λ m. within_horizon (c.args.begin +ℤ m)) c.min.ensures ∙ ap (λ (f : Facts). within_horizon (c.args.begin +ℤ f.min)) c.facts.view_is))
    ∙ limit_is facts c.args.begin c.args.ends.now c.counting.result.now first c.counting.ensures.rising (sym c.in-Some.ensures.value)
    ∙ ap (limit_of facts c.args.begin c.args.ends.now) (part ∙ ap (λ (f : Facts). filter (counts_from f.last c.args.begin) c.args.ends.now) c.facts.view_is)
