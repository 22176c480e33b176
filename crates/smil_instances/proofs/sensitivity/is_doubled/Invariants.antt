use Rattle.std.proofs.Common.{◌≡◌, false, take}
use Rattle.std.specs.List.{list_any}
use Rattle.smil_model.specs.interval.Instances.{is_same_event}
use Rattle.smil_instances.proofs.sensitivity.is_doubled.Given as goal

abbrev pub invariant-loop-other : goal.invariant-loop-other
invariant-loop-other l = list_any (is_same_event l.tree.nodes l.own.who l.own.item.now) (take l.other-index l.other-items) ≡ false
