use Rattle.std.proofs.Common.{◌≡◌, ◌++◌, length}
use Rattle.smil_cells.specs.Shown.{elements_at}
use Rattle.smil_cells.proofs.order.take_elements.Given as goal

-- what is taken, and what is left
abbrev pub invariant-loop-place : goal.invariant-loop-place
invariant-loop-place l = l.list ++ elements_at l.tree.nodes l.places ≡ elements_at l.tree.nodes l.fn.places

abbrev pub decreases-loop-place : goal.decreases-loop-place
decreases-loop-place l = length l.places
