use Rattle.std.proofs.Common.{◌≡◌, Ok, refl, ap, ◌∙◌, subst}
use Rattle.smil_model.specs.document.Document.{Document}
use Rattle.smil_tree.specs.Outcomes.{IsFaultOf, remove_outcome}
use Rattle.smil_tree.proofs.ResultClauses.{on_err}
use Rattle.smil_tree.specs.Refusals.{of_tree}
use Rattle.smil_revision.specs.Refusing.{of_outcome}
use Rattle.smil_revision.proofs.EditedCopies.{outcome_refuses, removed_at}
use Rattle.smil_revision.proofs.copies.without_node.Goals as goal

pub returns-clause-ok : goal.returns-clause-ok
returns-clause-ok c =
    removed_at c.args.tree.now c.args.serial c.requires
    ∙ ap of_outcome (subst (λ (d : Document). remove_outcome d c.args.serial ≡ Ok c.remove.new.self) c.in_ok-edited.ensures c.in_ok-remove.ensures.ok)

pub returns-in_err-remove-clause-err : goal.returns-in_err-remove-clause-err
returns-in_err-remove-clause-err c =
    let fault = c.in_err-remove.field-0.0 in
    on_err _ c.from_residual-in_err-remove.result (of_tree fault) c.from_residual-in_err-remove.ensures.1
    (outcome_refuses _ (remove_outcome c.args.tree.now c.args.serial) fault (of_tree fault) (removed_at c.args.tree.now c.args.serial c.requires) refl
    (subst (λ (d : Document). IsFaultOf (remove_outcome d c.args.serial) fault) c.in_ok-edited.ensures c.in_err-remove.ensures.err))
