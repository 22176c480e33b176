use Rattle.smil_graph.proofs.ElementOrder.{IsHeightsTo}
use Rattle.std.proofs.Common.{length}
use Rattle.smil_graph.proofs.ordered.heights.Given as goal

abbrev pub invariant-loop-parent : goal.invariant-loop-parent
invariant-loop-parent l = IsHeightsTo l.time_parents (length l.time_parents) l.parent-index l.heights.items
