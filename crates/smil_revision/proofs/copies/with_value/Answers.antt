use Rattle.std.proofs.Common.{◌≡◌, Ok, refl, ap, ◌∙◌, subst}
use Rattle.smil_model.specs.document.Document.{Document}
use Rattle.smil_model.specs.document.Limits.{limits}
use Rattle.smil_model.specs.shown.Orders.{attr_set_by}
use Rattle.smil_grammar.specs.Formats.{formats}
use Rattle.smil_tree.specs.Outcomes.{IsFaultOf, set_outcome}
use Rattle.smil_tree.proofs.ResultClauses.{on_err}
use Rattle.smil_tree.specs.Refusals.{of_tree}
use Rattle.smil_revision.specs.Editing.{at_node}
use Rattle.smil_revision.specs.Refusing.{of_outcome}
use Rattle.smil_revision.proofs.EditedCopies.{may_take_read, outcome_refuses, set_read, value_unread}
use Rattle.smil_revision.proofs.copies.with_value.Goals as goal
use Rattle.smil_revision.proofs.copies.with_value.Goals.{After-set}

pub set-requires : goal.set-requires
set-requires c =
    may_take_read c.args.tree.now c.args.serial c.requires.known c.named.result.kind c.named.result.parent c.named.ensures.kind c.named.ensures.parent
    c.in_ok-edited.edited c.named.result.name.now c.args.setting.value.text.now c.named.result.column c.args.setting.value.column c.in_ok-given.given c.valid.ensures c.in_ok-edited.ensures c.in_ok-given.ensures

pub returns-in_err-given-clause-err : goal.returns-in_err-given-clause-err
returns-in_err-given-clause-err c =
    let given = c.in_err-given.field-0.0 in
    on_err _ c.from_residual.result given c.from_residual.ensures.1
    (value_unread c.args.tree.now c.args.serial c.requires.known c.named.result.kind c.named.result.parent c.named.ensures.kind c.named.ensures.parent c.args.setting.attr.text.now c.args.setting.value.text.now c.args.setting.attr.column c.args.setting.value.column given
    (rw (← c.named.ensures.name, ← c.named.ensures.column) c.in_err-given.ensures))

-- what the edit comes to once the attribute is read
outcome : (c : After-set) → at_node c.args.tree.now.nodes c.args.serial (λ n. attr_set_by limits formats c.args.tree.now n c.args.setting.attr.text.now c.args.setting.value.text.now c.args.setting.attr.column c.args.setting.value.column)
    ≡ of_outcome (set_outcome c.args.tree.now c.args.serial c.in_ok-given.given)
outcome c =
    set_read c.args.tree.now c.args.serial c.requires.known c.named.result.kind c.named.result.parent c.named.ensures.kind c.named.ensures.parent c.args.setting.attr.text.now c.args.setting.value.text.now c.args.setting.attr.column c.args.setting.value.column c.in_ok-given.given
    (rw (← c.named.ensures.name, ← c.named.ensures.column) c.in_ok-given.ensures)

pub returns-clause-ok : goal.returns-clause-ok
returns-clause-ok c =
    outcome (goal.at.returns-clause-ok c).After-set
    ∙ ap of_outcome (subst (λ (d : Document). set_outcome d c.args.serial c.in_ok-given.given ≡ Ok c.set.new.self) c.in_ok-edited.ensures c.in_ok-set.ensures.ok)

pub returns-in_err-set-clause-err : goal.returns-in_err-set-clause-err
returns-in_err-set-clause-err c =
    let fault = c.in_err-set.field-0.0 in
    on_err _ c.from_residual-in_err-set.result (of_tree fault) c.from_residual-in_err-set.ensures.1
    (outcome_refuses _ (set_outcome c.args.tree.now c.args.serial c.in_ok-given.given) fault (of_tree fault) (outcome (goal.at.returns-in_err-set-clause-err c).After-set) refl
    (subst (λ (d : Document). IsFaultOf (set_outcome d c.args.serial c.in_ok-given.given) fault) c.in_ok-edited.ensures c.in_err-set.ensures.err))
