use Rattle.std.proofs.Common.{◌≡◌, take, map}
use Rattle.smil_past.specs.Rows.{idle_row}
use Rattle.smil_past.proofs.plays.idle_rows.Given as goal

-- the rows of the first elements
abbrev pub invariant-loop-who : goal.invariant-loop-who
invariant-loop-who l = l.rows.items ≡ map idle_row (take l.who-index l.whos)
