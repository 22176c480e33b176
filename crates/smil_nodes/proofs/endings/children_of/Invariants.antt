use Rattle.std.proofs.Common.{◌≡◌, map, take}
use Rattle.std.specs.Prelude.{Some}
use Rattle.smil_model.specs.declared.document.Node.{Node}
use Rattle.smil_model.specs.document.Document.{elements, node_at, time_children}
use Rattle.smil_nodes.specs.Endings.{named_end}
use Rattle.smil_nodes.proofs.endings.children_of.Given as goal

-- the ends of the first children
abbrev pub invariant-loop-child : goal.invariant-loop-child
invariant-loop-child l =
    (e : Node) → node_at (elements l.tree.nodes) l.who ≡ Some e
    → l.ends.items ≡ map (named_end e) (take l.child-index (time_children l.tree.nodes l.who))
