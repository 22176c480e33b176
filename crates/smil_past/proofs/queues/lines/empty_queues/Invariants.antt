use Rattle.std.proofs.Common.{◌≡◌, map, []}
use Rattle.smil_model.specs.declared.document.Node.{Node}
use Rattle.smil_excl.specs.QueueState.{line_in}
use Rattle.smil_tree.proofs.NodeWalks.{Walked}
use Rattle.smil_past.proofs.queues.lines.empty_queues.Given as goal

-- the queues of the nodes so far
abbrev pub invariant-loop-node : goal.invariant-loop-node
invariant-loop-node l = (walk : Walked l.tree.nodes l.node-iterator) × (l.queues.items ≡ map (λ (n : Node). line_in l.tree.nodes n.serial []) walk.past)
