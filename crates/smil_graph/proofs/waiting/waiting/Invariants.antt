use Rattle.smil_graph.proofs.KeyRows.{IsWaitingTo}
use Rattle.smil_graph.proofs.waiting.waiting.Given as goal

abbrev pub invariant-loop-place : goal.invariant-loop-place
invariant-loop-place l = IsWaitingTo l.tree.nodes l.place l.rows.items
