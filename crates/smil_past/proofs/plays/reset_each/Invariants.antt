use Rattle.std.proofs.Common.{◌≡◌, ◌++◌, drop, map, take}
use Rattle.smil_past.specs.Rows.{reset_row}
use Rattle.smil_past.proofs.plays.reset_each.Given as goal

abbrev pub invariant-loop-row : goal.invariant-loop-row
invariant-loop-row l = l.rows ≡ map reset_row (take l.row-index l.initial.rows) ++ drop l.row-index l.initial.rows
