use Rattle.std.proofs.Common.{◌≡◌, Result, inr, ◌∙◌}
use Rattle.smil_model.specs.declared.document.Node.{Node}
use Rattle.smil_model.specs.declared.order.Refusal.{Refusal}
use Rattle.smil_model.specs.document.Document.{Document}
use Rattle.smil_model.specs.document.Limits.{limits}
use Rattle.smil_model.specs.shown.Orders.{node_inserted_by, on_node}
use Rattle.smil_grammar.specs.Formats.{formats}
use Rattle.smil_tree.proofs.ResultClauses.{on_err}
use Rattle.smil_revision.specs.Editing.{at_node}
use Rattle.smil_revision.specs.declared.values.Child.{Child}
use Rattle.smil_live.proofs.EditedPresentations.{edit_there, node_there, refused_at}
use Rattle.smil_live.proofs.EditOrders.{not_found}
use Rattle.smil_live.proofs.presentation.PresentationOver.insert_copy.Given.{Over}
use Rattle.smil_live.proofs.presentation.PresentationOver.insert_copy.Goals as goal
use Rattle.smil_live.proofs.presentation.PresentationOver.insert_copy.Goals.{After-with_child}

-- the edit of a node
abbrev made : Child → Document → Node → Result Document Refusal
made child d n = node_inserted_by limits formats d n child.place child.line.text.now child.line.column

pub with_child-requires-clause-line : goal.with_child-requires-clause-line
with_child-requires-clause-line g c = c.requires.1

pub with_child-requires-clause-column : goal.with_child-requires-clause-column
with_child-requires-clause-column g c = c.requires.2

pub with_child-requires-clause-known : goal.with_child-requires-clause-known
with_child-requires-clause-known g c =
    let same = c.tree-tree.ensures.document in
    node_there c.args.self.now c.tree-tree.result.now c.args.who.now c.in_ok-parent.parent c.tree-tree.ensures.valid same c.in_ok-parent.ensures.ok

-- the edit is that of the node that is named
there : (g : Over) (c : After-with_child g) → on_node c.args.self.now c.args.who.now (made c.args.child c.args.self.now.document) ≡ at_node c.tree-tree.result.now.nodes c.in_ok-parent.parent (made c.args.child c.tree-tree.result.now)
there g c =
    edit_there c.args.self.now c.tree-tree.result.now c.args.who.now c.in_ok-parent.parent (made c.args.child) c.tree-tree.ensures.valid (c.tree-tree.ensures.document) c.in_ok-parent.ensures.ok

pub returns-clause-ok : goal.returns-clause-ok
returns-clause-ok g c = there g (goal.at.returns-clause-ok g c).After-with_child ∙ c.in_ok-copy.ensures.ok

pub returns-in_err-copy-clause-err : goal.returns-in_err-copy-clause-err
returns-in_err-copy-clause-err g c =
    on_err _ c.from_residual-in_err-copy.result c.in_err-copy.field-0.0 c.from_residual-in_err-copy.ensures.1
    (refused_at _ _ c.in_err-copy.field-0.0 (there g (goal.at.returns-in_err-copy-clause-err g c).After-with_child) c.in_err-copy.ensures.err)

pub returns-in_err-parent-clause-err : goal.returns-in_err-parent-clause-err
returns-in_err-parent-clause-err g c =
    on_err _ c.from_residual.result c.in_err-parent.field-0.0 c.from_residual.ensures.1
    (inr (not_found c.args.self.now c.args.who.now (made c.args.child c.args.self.now.document) c.in_err-parent.field-0.0 c.in_err-parent.ensures.err))
