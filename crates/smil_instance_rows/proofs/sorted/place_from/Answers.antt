use Rattle.std.proofs.Common.{rules, tests}
use Rattle.std.specs.Prelude.{not}
use Rattle.std.proofs.lemmas.List.Sorted.{IsPartitionPoint-from_clause}
use Rattle.smil_model.proofs.RisingLists.{parted_from, place_found}
use Rattle.smil_instance_rows.proofs.sorted.place_from.Goals as goal

pub returns : goal.returns
returns g c =
    let le = g.T.Instant.at_most in
    let order = g.T.Instant.order in
    let xs = c.args.values.now in
    let v = c.args.value in
    place_found le order xs v c.partition_point.result c.partition_point.ensures.bound
    (IsPartitionPoint-from_clause (λ x. not (le v x)) xs _ c.partition_point.ensures.partitioned (parted_from le order v xs c.requires) (λ a r q k. search (rules, tests)))

pub returns-then-goes_last : goal.returns-then-goes_last
returns-then-goes_last g c = c.goes_last.ensures c.if-goes_last.true
