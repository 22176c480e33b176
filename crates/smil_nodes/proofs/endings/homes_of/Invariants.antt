use Rattle.std.proofs.Common.{◌≡◌, length, take}
use Rattle.smil_model.specs.document.Document.{elements}
use Rattle.smil_nodes.specs.Endings.{HaveHomes}
use Rattle.smil_nodes.proofs.endings.homes_of.Given as goal

-- the homes of the first elements
abbrev pub invariant-loop-row : goal.invariant-loop-row
invariant-loop-row l =
    HaveHomes l.tree.nodes (take l.row-index (elements l.tree.nodes)) l.homes.items × (length l.nexts.items ≡ length l.schedule)
