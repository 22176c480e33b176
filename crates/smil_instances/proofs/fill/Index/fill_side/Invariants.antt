use Rattle.smil_instances.specs.Spread.{Takes, first_items}
use Rattle.smil_instances.proofs.fill.Index.fill_side.Given as goal

-- the first items of the side were noted
abbrev pub invariant-loop-item : goal.invariant-loop-item
invariant-loop-item l = Takes l.self.tree.now.nodes (first_items l.self.tree.now.nodes l.row l.side l.item) l.initial.rows l.rows
