use Rattle.std.proofs.Common.{◌≡◌, take}
use Rattle.smil_stretch.specs.Clocks.{AreClocksOf}
use Rattle.smil_instances.specs.SettledTimes.{settled_rows}
use Rattle.smil_instances.specs.Intake.{history_with}
use Rattle.smil_instances.proofs.instances.Instances.rows_of.Given as goal

-- the rows and the clocks of the first entries
abbrev pub invariant-loop-entry : goal.invariant-loop-entry
invariant-loop-entry l =
    (l.rows ≡ settled_rows (history_with l.fn.history (take l.entry-index l.fn.history.book.now)))
    × (l.front ≡ take l.entry-index l.fn.history.book.now)
    × AreClocksOf l.clocks (history_with l.fn.history (take l.entry-index l.fn.history.book.now))
