use Rattle.smil_instances.specs.Spread.{Takes, first_rows}
use Rattle.smil_instances.proofs.fill.fill.Given as goal

-- the items of the first elements were noted
abbrev pub invariant-loop-row : goal.invariant-loop-row
invariant-loop-row l = Takes l.tree.nodes (first_rows l.tree.nodes l.row) l.initial.rows l.rows
