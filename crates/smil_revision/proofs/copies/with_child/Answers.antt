use Rattle.std.proofs.Common.{◌≡◌, ◌-◌, Ok, Option, refl, ap, ◌∙◌, subst}
use Rattle.smil_model.specs.declared.order.Refusal.TheVariants as refusal
use Rattle.smil_model.specs.document.Document.{Document}
use Rattle.smil_model.specs.document.Limits.{limits}
use Rattle.smil_model.specs.shown.Orders.{node_inserted_by}
use Rattle.smil_grammar.specs.Formats.{formats}
use Rattle.smil_grammar.specs.Nodes.{Shape, kind_of, kind_of_shape}
use Rattle.smil_grammar.specs.Outlines.{in_line}
use Rattle.smil_tree.specs.Outcomes.{IsFaultOf, insert_outcome}
use Rattle.smil_tree.proofs.ResultClauses.{on_err}
use Rattle.smil_tree.specs.Refusals.{of_tree}
use Rattle.smil_revision.specs.Editing.{at_node}
use Rattle.smil_revision.specs.Refusing.{of_outcome}
use Rattle.smil_revision.proofs.EditedCopies.{attrs_unread, inserted_read, kind_given, kind_unread, may_bear_read, misplaced, outcome_refuses}
use Rattle.smil_revision.proofs.copies.with_child.Goals as goal
use Rattle.smil_revision.proofs.copies.with_child.Goals.{After-insert}

pub returns-in_default-clause-err : goal.returns-in_default-clause-err
returns-in_default-clause-err c =
    kind_unread c.args.tree.now c.args.parent c.args.child.place c.args.child.line.text.now c.args.child.line.column c.requires.known refusal.BadOutline
    (ap (λ (s : Option Shape). in_line (c.args.child.line.column - 1) (kind_of_shape s)) c.in_default.ensures)

pub read_line_attrs-requires-clause-kind : goal.read_line_attrs-requires-clause-kind
read_line_attrs-requires-clause-kind c = kind_given (c.args.child.line.column - 1) (kind_of c.args.child.line.text.now) c.in_ok-kind.kind c.in_ok-kind.ensures

pub returns-in_err-kind-clause-err : goal.returns-in_err-kind-clause-err
returns-in_err-kind-clause-err c =
    let given = c.in_err-kind.field-0.0 in
    on_err _ c.from_residual.result given c.from_residual.ensures.1
    (kind_unread c.args.tree.now c.args.parent c.args.child.place c.args.child.line.text.now c.args.child.line.column c.requires.known given c.in_err-kind.ensures)

pub returns-in_err-may_insert-clause-err : goal.returns-in_err-may_insert-clause-err
returns-in_err-may_insert-clause-err c =
    let fault = c.in_err-may_insert.field-0.0 in
    on_err _ c.from_residual-in_err-may_insert.result (of_tree fault) c.from_residual-in_err-may_insert.ensures.1
    (misplaced c.args.tree.now c.args.parent c.args.child.place c.args.child.line.text.now c.args.child.line.column c.in_ok-kind.kind c.requires.known c.in_ok-kind.ensures
    fault (of_tree fault) c.in_err-may_insert.ensures refl)

pub returns-in_err-attrs-clause-err : goal.returns-in_err-attrs-clause-err
returns-in_err-attrs-clause-err c =
    let given = c.in_err-attrs.field-0.0 in
    on_err _ c.from_residual-in_err-attrs.result given c.from_residual-in_err-attrs.ensures.1
    (attrs_unread c.args.tree.now c.args.parent c.args.child.place c.args.child.line.text.now c.args.child.line.column c.in_ok-kind.kind c.requires.known c.in_ok-kind.ensures
    c.in_ok-may_insert.ensures c.kind.result c.kind.ensures given c.in_err-attrs.ensures)

pub insert-requires : goal.insert-requires
insert-requires c =
    may_bear_read c.args.tree.now c.args.parent c.args.child.place c.args.child.line.text.now c.args.child.line.column c.in_ok-kind.kind c.requires.known c.in_ok-kind.ensures
    c.in_ok-may_insert.ensures c.kind.result c.kind.ensures c.in_ok-edited.edited c.in_ok-attrs.attrs c.in_ok-edited.ensures c.in_ok-attrs.ensures

-- what the edit comes to once the line is read
outcome : (c : After-insert) → at_node c.args.tree.now.nodes c.args.parent (λ p. node_inserted_by limits formats c.args.tree.now p c.args.child.place c.args.child.line.text.now c.args.child.line.column)
    ≡ of_outcome (insert_outcome c.args.tree.now c.args.parent c.args.child.place c.in_ok-kind.kind c.in_ok-attrs.attrs)
outcome c =
    inserted_read c.args.tree.now c.args.parent c.args.child.place c.args.child.line.text.now c.args.child.line.column c.in_ok-kind.kind c.requires.known c.in_ok-kind.ensures
    c.in_ok-may_insert.ensures c.kind.result c.kind.ensures c.in_ok-attrs.attrs c.in_ok-attrs.ensures

pub returns-clause-ok : goal.returns-clause-ok
returns-clause-ok c =
    outcome (goal.at.returns-clause-ok c).After-insert
    ∙ ap of_outcome (subst (λ (d : Document). insert_outcome d c.args.parent c.args.child.place c.in_ok-kind.kind c.in_ok-attrs.attrs ≡ Ok c.insert.new.self) c.in_ok-edited.ensures c.in_ok-insert.ensures.ok)

pub returns-in_err-insert-clause-err : goal.returns-in_err-insert-clause-err
returns-in_err-insert-clause-err c =
    let fault = c.in_err-insert.field-0.0 in
    on_err _ c.from_residual-in_err-insert.result (of_tree fault) c.from_residual-in_err-insert.ensures.1
    (outcome_refuses _ (insert_outcome c.args.tree.now c.args.parent c.args.child.place c.in_ok-kind.kind c.in_ok-attrs.attrs) fault (of_tree fault) (outcome (goal.at.returns-in_err-insert-clause-err c).After-insert) refl
    (subst (λ (d : Document). IsFaultOf (insert_outcome d c.args.parent c.args.child.place c.in_ok-kind.kind c.in_ok-attrs.attrs) fault) c.in_ok-edited.ensures c.in_err-insert.ensures.err))
