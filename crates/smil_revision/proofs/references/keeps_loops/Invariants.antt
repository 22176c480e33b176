use Rattle.std.proofs.Common.{◌≡◌}
use Rattle.std.specs.List.{list_all}
use Rattle.smil_model.specs.declared.document.Node.{Node}
use Rattle.smil_model.specs.document.Document.{elements}
use Rattle.smil_revision.specs.References.{keeps_loops_of}
use Rattle.smil_revision.proofs.references.keeps_loops.Given as goal

-- all pass where those that are left do
abbrev pub invariant-loop-node : goal.invariant-loop-node
invariant-loop-node l =
    let old = l.revision.old.now.nodes in
    let passes = λ (e : Node). keeps_loops_of l.revision.edited old l.revision.new.now.nodes e.serial in
    list_all passes (elements l.node-iterator) ≡ list_all passes (elements old)
