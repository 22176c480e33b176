use Rattle.std.proofs.Common.{take}
use Rattle.smil_model.specs.shown.Sandwich.{layers}
use Rattle.smil_shown.specs.Sets.{AreSetsOf}
use Rattle.smil_shown.proofs.sets.Sets.of.Given as goal

abbrev pub invariant-loop-view : goal.invariant-loop-view
invariant-loop-view l = AreSetsOf l.sets (layers l.tree.nodes (take l.view-index l.views))
