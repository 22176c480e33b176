use Rattle.std.proofs.Common.{◌≡◌}
use Rattle.std.specs.Prelude.{map}
use Rattle.smil_model.specs.declared.document.Node.{Node}
use Rattle.smil_model.specs.happening.Queue.{class_facts}
use Rattle.smil_tree.proofs.NodeWalks.{Walked}
use Rattle.smil_past.proofs.queues.classes.classes_of.Given as goal

-- the classes of the nodes so far
abbrev pub invariant-loop-node : goal.invariant-loop-node
invariant-loop-node l = (walk : Walked l.tree.nodes l.node-iterator) × (l.classes.items ≡ map (λ (n : Node). class_facts l.tree.nodes n.serial) walk.past)
