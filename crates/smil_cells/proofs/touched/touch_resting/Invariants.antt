use Rattle.std.proofs.Common.{take}
use Rattle.smil_model.specs.document.Document.{time_children}
use Rattle.smil_past.specs.Past.{history_of}
use Rattle.smil_cells.specs.Shown.{ArePutWhere, any_rests}
use Rattle.smil_cells.proofs.touched.touch_resting.Given as goal

abbrev pub invariant-loop-child : goal.invariant-loop-child
invariant-loop-child l =
    ArePutWhere l.past.document.nodes (any_rests (history_of l.past) (take l.child-index (time_children l.past.document.nodes l.parent))) l.initial.touched l.touched
