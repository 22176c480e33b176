use Rattle.std.proofs.Common.{[]}
use Rattle.smil_instances.specs.Keys.{TakesKeys, first_row_keys}
use Rattle.smil_instances.proofs.keys.cells_by_key.Given as goal

-- the items of the first elements were noted
abbrev pub invariant-loop-row : goal.invariant-loop-row
invariant-loop-row l = TakesKeys (first_row_keys l.rows l.row) [] l.keys.items
