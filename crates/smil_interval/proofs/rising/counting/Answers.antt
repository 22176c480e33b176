use Rattle.std.proofs.Common.{◌∙◌, ap, sym, subst, Bool, w64, ℤ}
use Rattle.std.specs.Prelude.{not, filter}
use Rattle.std.specs.List.Sorted.{IsPartitionedBy}
use Rattle.std.proofs.lemmas.Int.{to_z-of_z}
use mir.Val.{of_z, to_z}
use Rattle.smil_model.specs.declared.times.Time.{Time}
use Rattle.smil_model.specs.Times.{time_le}
use Rattle.smil_model.specs.interval.Intervals.{counts_from}
use Rattle.smil_interval.specs.Rising.{counts_by}
use Rattle.smil_interval.proofs.SearchParts.{uncounted_parted}
use Rattle.smil_interval.proofs.TimeOrderTests.{counted_is}
use Rattle.smil_interval.proofs.rising.counting.Goals as goal

pub passing-requires : goal.passing-requires
passing-requires c =
    let ends = c.args.ends.now in
    let b = to_z w64 (of_z w64 c.args.begin) in
    subst (λ (ended : Bool). IsPartitionedBy (λ t. not (counts_by b ended t)) ends) (sym c.ended_at-ended.ensures)
    (subst (λ (p : Time → Bool). IsPartitionedBy (λ t. not (p t)) ends) (sym (counted_is c.args.last b)) (uncounted_parted c.args.last b ends c.requires))

pub returns-clause-part : goal.returns-clause-part
returns-clause-part c =
    let ends = c.args.ends.now in
    let b = to_z w64 (of_z w64 c.args.begin) in
    c.passing.ensures.part
    ∙ ap (λ (ended : Bool). filter (counts_by b ended) ends) c.ended_at-ended.ensures
    ∙ ap (λ (p : Time → Bool). filter p ends) (counted_is c.args.last b)
    ∙ ap (λ (z : ℤ). filter (counts_from c.args.last z) ends) (to_z-of_z w64 c.args.begin c.ranges.begin)

pub returns-clause-rising : goal.returns-clause-rising
returns-clause-rising c = c.passing.ensures.rising time_le c.requires
