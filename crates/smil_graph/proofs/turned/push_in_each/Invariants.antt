use Rattle.std.proofs.Common.{take}
use Rattle.smil_graph.specs.Links.{IsPushedInEach}
use Rattle.smil_graph.proofs.turned.push_in_each.Given as goal

abbrev pub invariant-loop-at : goal.invariant-loop-at
invariant-loop-at l = IsPushedInEach l.fn.rows.items l.rows.items (take l.at-index l.listed) l.place
