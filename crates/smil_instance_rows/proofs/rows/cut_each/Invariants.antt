use Rattle.std.proofs.Common.{◌≡◌, ◌++◌, drop, map, take}
use Rattle.smil_instance_rows.specs.Rows.{row_before}
use Rattle.smil_instance_rows.proofs.rows.cut_each.Given as goal

abbrev pub invariant-loop-row : goal.invariant-loop-row
invariant-loop-row l = l.rows ≡ map (row_before l.place) (take l.row-index l.initial.rows) ++ drop l.row-index l.initial.rows
