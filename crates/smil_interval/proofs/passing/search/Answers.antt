use Rattle.std.proofs.Common.{rules, tests}
use Rattle.std.specs.Prelude.{not}
use Rattle.std.proofs.lemmas.List.Sorted.{IsPartitionPoint-from_clause}
use Rattle.smil_interval.proofs.passing.search.Goals as goal

pub returns-clause-point : goal.returns-clause-point
returns-clause-point g c =
    let passes = g.P.Test.passes c.args.test in
    IsPartitionPoint-from_clause (λ v. not (passes v)) c.args.values.now _ c.partition_point.ensures.partitioned c.requires (λ a r q k. search (rules, tests))
