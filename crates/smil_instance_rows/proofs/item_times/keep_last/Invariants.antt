use Rattle.std.proofs.Common.{◌≡◌, length}
use Rattle.smil_instance_rows.specs.Places.{last_alone, Replaces}
use Rattle.smil_instance_rows.proofs.item_times.keep_last.Given as goal

abbrev pub invariant-loop-first : goal.invariant-loop-first
invariant-loop-first g l =
    (last_alone l.kept ≡ last_alone l.initial.kept)
    × Replaces g.T.Instant.at_most g.T.Instant.choose l.initial.kept l.kept l.initial.sorted l.sorted

abbrev pub decreases-loop-first : goal.decreases-loop-first
decreases-loop-first g l = length l.kept
