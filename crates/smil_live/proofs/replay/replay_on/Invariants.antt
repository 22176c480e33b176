use Rattle.std.proofs.Common.{◌+◌, length, drop}
use Rattle.smil_laws.specs.Cut.{NamesBelow}
use Rattle.smil_live.specs.Moves.{IsUnderWay, replay_of}
use Rattle.smil_live.proofs.CellCounts.{IsCounted}
use Rattle.smil_live.proofs.replay.replay_on.Given as goal

abbrev pub invariant-loop-entry : goal.invariant-loop-entry
invariant-loop-entry g l =
    IsUnderWay (replay_of l.fn.cells.presentation.document l.replay.log.now l.replay.to) (length l.fn.cells.presentation.log + l.entry-index) l.cells
    × IsCounted g.T.Table.counts l.initial.cells l.cells l.initial.steps l.steps
    × NamesBelow (length l.cells.presentation.log) (drop (length l.initial.cells.diary) l.cells.diary)
