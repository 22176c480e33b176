use Rattle.std.proofs.Common.{◌≡◌}
use Rattle.std.specs.List.{list_all}
use Rattle.smil_model.specs.declared.document.Node.{Node}
use Rattle.smil_revision.specs.References.{keeps_id}
use Rattle.smil_revision.proofs.references.keeps_ids.Given as goal

-- all pass where those that are left do
abbrev pub invariant-loop-node : goal.invariant-loop-node
invariant-loop-node l =
    list_all (λ (n : Node). keeps_id l.old.nodes l.new.nodes n.attrs.id) l.node-iterator
    ≡ list_all (λ (n : Node). keeps_id l.old.nodes l.new.nodes n.attrs.id) l.tree.nodes
