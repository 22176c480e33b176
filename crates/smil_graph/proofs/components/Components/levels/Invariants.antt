use Rattle.std.proofs.Common.{◌≡◌, map, take}
use Rattle.smil_graph.specs.Components.{level_of}
use Rattle.smil_graph.proofs.components.Components.levels.Given as goal

abbrev pub invariant-loop-mark : goal.invariant-loop-mark
invariant-loop-mark l = l.levels.items ≡ map level_of (take l.mark-index l.self.marks)
