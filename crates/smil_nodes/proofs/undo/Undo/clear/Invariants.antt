use Rattle.std.proofs.Common.{length}
use Rattle.smil_nodes.proofs.undo.Undo.clear.Given as goal

-- the notes that are left
abbrev pub decreases-loop : goal.decreases-loop
decreases-loop l = length l.self
