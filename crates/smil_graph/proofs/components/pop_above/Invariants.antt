use Rattle.std.proofs.Common.{◌≡◌, length}
use Rattle.smil_graph.specs.Components.{without_above}
use Rattle.smil_graph.proofs.components.pop_above.Given as goal

abbrev pub invariant-loop-start : goal.invariant-loop-start
invariant-loop-start l = without_above l.position l.starts ≡ without_above l.position l.fn.starts

abbrev pub decreases-loop-start : goal.decreases-loop-start
decreases-loop-start l = length l.starts
