use Rattle.std.proofs.Common.{◌≡◌, ℕ, ◌+◌, ◌-◌, length}
use Rattle.smil_instances.specs.Dependents.{keyed_in}
use Rattle.smil_instances.proofs.keys.make_room.Given as goal

-- no list has other cells
abbrev pub invariant-loop-alloc : goal.invariant-loop-alloc
invariant-loop-alloc l = (k : ℕ) → keyed_in l.keys.items k ≡ keyed_in l.initial.keys.items k

abbrev pub decreases-loop-alloc : goal.decreases-loop-alloc
decreases-loop-alloc l = l.key + 1 - length l.keys.items
