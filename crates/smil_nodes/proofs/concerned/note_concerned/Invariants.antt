use Rattle.std.proofs.Common.{take}
use Rattle.smil_rounds.specs.Current.{interval_in}
use Rattle.smil_cells.specs.Evaluated.{is_noted_by}
use Rattle.smil_nodes.specs.Noted.{AreNoted}
use Rattle.smil_nodes.proofs.concerned.note_concerned.Given as goal

abbrev pub invariant-loop-entry : goal.invariant-loop-entry
invariant-loop-entry l = AreNoted l.graph.order (is_noted_by l.graph.nodes l.past.log (interval_in l.schedule) (take l.entry-index l.entry-items)) l.initial.agenda l.agenda
