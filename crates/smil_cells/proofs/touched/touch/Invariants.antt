use Rattle.std.proofs.Common.{take}
use Rattle.smil_past.specs.Past.{history_of}
use Rattle.smil_cells.specs.Shown.{ArePutWhere, any_shows}
use Rattle.smil_cells.proofs.touched.touch.Given as goal

abbrev pub invariant-loop-entry : goal.invariant-loop-entry
invariant-loop-entry l =
    ArePutWhere l.past.document.nodes (any_shows (history_of l.past) (take l.entry-index l.entry-items)) l.initial.touched l.touched
