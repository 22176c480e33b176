use Rattle.std.proofs.Common.{◌≡◌, subst, sym, rules, tests, List, true, take}
use Rattle.std.specs.Prelude.{int_le, pos}
use Rattle.std.proofs.lemmas.List.Sorted.{IsPartitionPoint-from_clause}
use Rattle.smil_model.specs.declared.diary.Entry.{Entry}
use Rattle.smil_model.specs.diary.Clocks.{until}
use Rattle.smil_model.specs.diary.Lawful.{is_rising_from}
use Rattle.smil_live.proofs.RebuiltBook.{front_passes, parted}
use Rattle.smil_live.proofs.replay.diary_until.Goals as goal

pub returns-clause-first : goal.returns-clause-first
returns-clause-first c =
    let xs = c.entries.result.now in
    let m = c.args.moment in
    let rising : is_rising_from (pos 0) xs ≡ true = subst (λ (ys : List Entry). is_rising_from (pos 0) ys ≡ true) (sym c.entries.ensures) c.requires in
    subst (λ (ys : List Entry). take c.partition_point.result ys ≡ until m ys) c.entries.ensures
    (front_passes (λ (x : Entry). int_le x.moment m) xs c.partition_point.result
    (IsPartitionPoint-from_clause (λ (x : Entry). int_le x.moment m) xs c.partition_point.result c.partition_point.ensures.partitioned (parted m (pos 0) xs rising) (λ a r q k. search (rules, tests)))
    c.partition_point.ensures.bound)
