use Rattle.std.proofs.Common.{◌≡◌, false, take}
use Rattle.std.specs.List.{list_any}
use Rattle.smil_model.specs.document.Document.{time_children}
use Rattle.smil_past.specs.Makeups.{freezes}
use Rattle.smil_past.proofs.makeup.any_freezes.Given as goal

abbrev pub invariant-loop-child : goal.invariant-loop-child
invariant-loop-child l = list_any (freezes l.tree.nodes) (take l.child-index (time_children l.tree.nodes l.who)) ≡ false
