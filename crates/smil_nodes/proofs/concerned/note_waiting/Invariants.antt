use Rattle.std.proofs.Common.{take}
use Rattle.std.specs.List.{list_any}
use Rattle.smil_nodes.specs.Noted.{AreNoted, is_of_cell}
use Rattle.smil_nodes.proofs.concerned.note_waiting.Given as goal

abbrev pub invariant-loop-cell : goal.invariant-loop-cell
invariant-loop-cell l = AreNoted l.graph.order (λ s. list_any (λ c. is_of_cell l.graph.nodes c s) (take l.cell-index l.cell-items)) l.initial.agenda l.agenda
