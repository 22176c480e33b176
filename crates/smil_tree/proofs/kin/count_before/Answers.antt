use Rattle.std.proofs.Common.{rules, tests}
use Rattle.std.proofs.lemmas.List.Sorted.{IsPartitionPoint-from_clause}
use Rattle.smil_tree.specs.Kin.{is_before}
use Rattle.smil_tree.proofs.KinLists.{parted, counted}
use Rattle.smil_tree.proofs.kin.count_before.Goals as goal

pub returns-clause-count : goal.returns-clause-count
returns-clause-count c = λ t past le q.
    counted t c.args.at past le c.args.nodes.now c.requires c.args.list.now c.partition_point.result q
    (IsPartitionPoint-from_clause (is_before c.args.nodes.now c.args.at) c.args.list.now _ c.partition_point.ensures.partitioned
    (parted t c.args.at past le c.args.nodes.now c.requires c.args.list.now q) (λ a r f k. search (rules, tests)))
    c.partition_point.ensures.bound
