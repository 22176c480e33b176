use Rattle.std.proofs.Common.{◌≡◌, ℕ, ◌+◌, length, false}
use Rattle.std.specs.Prelude.{◌-◌, slice_index_or}
use Rattle.smil_nodes.proofs.undo.make_room.Given as goal

-- no mark is set
abbrev pub invariant-loop-marks : goal.invariant-loop-marks
invariant-loop-marks l = (other : ℕ) → slice_index_or l.marks.items other false ≡ slice_index_or l.initial.marks.items other false

-- the places that are missing
abbrev pub decreases-loop-marks : goal.decreases-loop-marks
decreases-loop-marks l = l.index + 1 - length l.marks.items
