use Rattle.std.proofs.Common.{◌≡◌, ◌++◌, drop, map, take}
use Rattle.smil_stretch.specs.NodeClocks.{reset_clock}
use Rattle.smil_stretch.proofs.clocks.reset_each.Given as goal

abbrev pub invariant-loop-node : goal.invariant-loop-node
invariant-loop-node l = l.clocks ≡ map reset_clock (take l.node-index l.initial.clocks) ++ drop l.node-index l.initial.clocks
