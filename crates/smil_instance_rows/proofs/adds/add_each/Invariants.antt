use Rattle.std.proofs.Common.{◌≡◌, take}
use Rattle.smil_instance_rows.specs.Changes.{with_adds}
use Rattle.smil_instance_rows.proofs.adds.add_each.Given as goal

abbrev pub invariant-loop-made : goal.invariant-loop-made
invariant-loop-made l = l.rows ≡ with_adds l.initial.rows (take l.made l.adds)
