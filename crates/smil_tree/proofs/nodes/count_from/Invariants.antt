use Rattle.smil_tree.specs.Places.{IsCounted}
use Rattle.smil_tree.proofs.nodes.count_from.Given as goal

abbrev pub invariant-loop-place : goal.invariant-loop-place
invariant-loop-place l = IsCounted l.nodes l.places l.place
