use Rattle.std.proofs.Common.{◌≡◌, length}
use Rattle.smil_instance_rows.specs.Rows.{before_place}
use Rattle.smil_instance_rows.specs.Places.{Replaces}
use Rattle.smil_instance_rows.proofs.item_times.cut_later.Given as goal

abbrev pub invariant-loop-last : goal.invariant-loop-last
invariant-loop-last g l =
    (before_place l.place l.kept ≡ before_place l.place l.initial.kept)
    × Replaces g.T.Instant.at_most g.T.Instant.choose l.initial.kept l.kept l.initial.sorted l.sorted

abbrev pub decreases-loop-last : goal.decreases-loop-last
decreases-loop-last g l = length l.kept
