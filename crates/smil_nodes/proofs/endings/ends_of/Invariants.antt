use Rattle.std.proofs.Common.{◌≡◌, map, take}
use Rattle.smil_model.specs.document.Document.{elements}
use Rattle.smil_nodes.specs.Endings.{named_ends}
use Rattle.smil_nodes.proofs.endings.ends_of.Given as goal

-- the ends of the time children of the first elements
abbrev pub invariant-loop-row : goal.invariant-loop-row
invariant-loop-row l = l.ends.items ≡ map (named_ends l.tree.nodes) (take l.row-index (elements l.tree.nodes))
