use Rattle.std.proofs.Common.{◌≡◌, take, map}
use Rattle.smil_rounds.specs.Rows.{row_without}
use Rattle.smil_rounds.proofs.current_rows.empty_rows.Given as goal

-- the rows of the first elements
abbrev pub invariant-loop-who : goal.invariant-loop-who
invariant-loop-who l = l.rows.items ≡ map row_without (take l.who-index l.whos)
