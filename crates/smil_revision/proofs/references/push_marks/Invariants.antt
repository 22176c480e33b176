use Rattle.std.proofs.Common.{◌≡◌, ◌++◌, take, Some}
use Rattle.std.specs.Prelude.{map}
use Rattle.smil_model.specs.declared.document.Node.{Node}
use Rattle.smil_model.specs.document.Defaults.{items_of}
use Rattle.smil_model.specs.document.Dependencies.{is_looped}
use Rattle.smil_model.specs.document.Document.{elements, node_at}
use Rattle.smil_revision.proofs.references.push_marks.Given as goal

abbrev pub invariant-loop-item : goal.invariant-loop-item
invariant-loop-item l =
    (e : Node) → node_at (elements l.side.graph.now.nodes) l.side.serial ≡ Some e → l.marks.items ≡ l.initial.marks.items ++ map (is_looped l.side.graph.now.nodes e.serial) (take l.item (items_of l.side.graph.now.nodes l.side.edge e))
