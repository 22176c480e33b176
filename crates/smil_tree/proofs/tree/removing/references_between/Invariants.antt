use Rattle.std.proofs.Common.{◌≡◌, ◌+◌}
use Rattle.smil_model.specs.document.Valid.{references}
use Rattle.smil_tree.specs.Places.{cut}
use Rattle.smil_tree.proofs.tree.removing.references_between.Given as goal

abbrev pub invariant-loop-node : goal.invariant-loop-node
invariant-loop-node l = l.count + (references l.node-iterator + references (cut l.fn.start l.fn.end l.nodes)) ≡ references l.nodes
