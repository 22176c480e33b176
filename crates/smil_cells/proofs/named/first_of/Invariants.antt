use Rattle.std.proofs.Common.{◌≡◌, take}
use Rattle.smil_cells.proofs.named.first_of.Given as goal

abbrev pub invariant-loop-entry : goal.invariant-loop-entry
invariant-loop-entry l = l.first ≡ take l.entry-index l.entry-items
