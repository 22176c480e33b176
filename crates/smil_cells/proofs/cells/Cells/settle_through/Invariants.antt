use Rattle.std.proofs.Common.{◌≡◌, ◌-◌, ◌≤◌, length}
use Rattle.std.specs.Prelude.{◌≤ℤ◌}
use Rattle.smil_model.specs.declared.limits.TheConstants.{DIARY_ENTRIES}
use Rattle.smil_model.specs.declared.times.TheConstants.{HORIZON}
use Rattle.smil_cells.specs.CellsState.{IsOnWay, WhereTold, reached_since, fresh_since}
use Rattle.smil_cells.specs.Evaluated.{HasEvaluatedSince}
use Rattle.smil_cells.specs.Shown.{TouchesOnlySince, touched_at}
use Rattle.smil_cells.proofs.cells.Cells.settle_through.Given as goal

abbrev pub invariant-loop-coming : goal.invariant-loop-coming
invariant-loop-coming g l =
    IsOnWay (touched_at l.fn.self l.fn.places) (touched_at l.self l.places) l.until
    × (l.until ≡ l.initial.until)
    × (l.until ≤ℤ HORIZON)
    × (l.initial.steps ≤ l.steps)
    × WhereTold g.T.Table.counts (l.steps - l.initial.steps ≤ reached_since l.initial.self l.self)
    × WhereTold g.T.Table.counts (fresh_since l.initial.self l.self ≤ l.steps - l.initial.steps)
    × WhereTold g.T.Table.counts (HasEvaluatedSince (touched_at l.fn.self l.fn.places) (touched_at l.self l.places) (l.steps - l.initial.steps))
    × TouchesOnlySince (touched_at l.fn.self l.fn.places) (touched_at l.self l.places)

abbrev pub decreases-loop-coming : goal.decreases-loop-coming
decreases-loop-coming g l = DIARY_ENTRIES - length l.self.diary
