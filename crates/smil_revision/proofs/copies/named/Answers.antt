use Rattle.std.proofs.Common.{ap, ◌∙◌}
use Rattle.smil_model.specs.document.Valid.{kind_of}
use Rattle.smil_tree.proofs.ParentNodes.{no_parent, parent_there}
use Rattle.smil_revision.proofs.EditedCopies.{parent_known}
use Rattle.smil_revision.proofs.copies.named.Goals as goal
use Rattle.smil_revision.proofs.copies.named.Goals.{in-Some, in-None}

pub kind-requires : goal.kind-requires
kind-requires c = parent_known c.args.tree.now.nodes c.args.serial c.in-Some.parent c.in-Some.ensures

pub returns-clause-parent : goal.returns-clause-parent
returns-clause-parent c =
    λ n at. elim c.match-parent.branch [
      | in-Some w ↦ w.above-is ∙ w.kind.ensures ∙ ap kind_of (parent_there c.args.tree.now.nodes c.args.serial w.in-Some.parent n at w.in-Some.ensures)
      | in-None w ↦ w.above-is ∙ no_parent c.args.tree.now.nodes c.args.serial n at w.in-None.ensures
    ]
