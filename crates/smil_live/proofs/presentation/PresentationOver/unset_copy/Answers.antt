use Rattle.std.proofs.Common.{◌≡◌, Result, ap, inr, sym, ◌∙◌}
use Rattle.smil_model.specs.declared.document.Node.{Node}
use Rattle.smil_model.specs.declared.order.Refusal.{Refusal}
use Rattle.smil_model.specs.document.Document.{Document}
use Rattle.smil_model.specs.shown.Orders.{attr_unset_by, on_node}
use Rattle.smil_grammar.specs.Formats.{formats}
use Rattle.smil_tree.proofs.ResultClauses.{on_err}
use Rattle.smil_revision.specs.Editing.{at_node}
use Rattle.smil_revision.specs.declared.values.LineText.{LineText}
use Rattle.smil_live.proofs.EditedPresentations.{edit_there, node_there, refused_at}
use Rattle.smil_live.specs.Counts.{serial_or_0}
use Rattle.smil_live.specs.declared.edits.Site.TheVariants as site
use Rattle.smil_live.proofs.EditOrders.{not_found}
use Rattle.smil_live.proofs.presentation.PresentationOver.unset_copy.Given.{Over}
use Rattle.smil_live.proofs.presentation.PresentationOver.unset_copy.Goals as goal
use Rattle.smil_live.proofs.presentation.PresentationOver.unset_copy.Goals.{After-without_name}

-- the edit of a node
abbrev made : LineText → Document → Node → Result Document Refusal
made attr d n = attr_unset_by formats d n attr.text.now attr.column

pub without_name-requires-clause-name : goal.without_name-requires-clause-name
without_name-requires-clause-name g c = c.requires.1

pub without_name-requires-clause-column : goal.without_name-requires-clause-column
without_name-requires-clause-column g c = c.requires.2

pub without_name-requires-clause-known : goal.without_name-requires-clause-known
without_name-requires-clause-known g c =
    let same = c.tree-tree.ensures.document in
    node_there c.args.self.now c.tree-tree.result.now c.args.who.now c.in_ok-serial.serial c.tree-tree.ensures.valid same c.in_ok-serial.ensures.ok

-- the edit is that of the node that is named
there : (g : Over) (c : After-without_name g) → on_node c.args.self.now c.args.who.now (made c.args.attr c.args.self.now.document) ≡ at_node c.tree-tree.result.now.nodes c.in_ok-serial.serial (made c.args.attr c.tree-tree.result.now)
there g c =
    edit_there c.args.self.now c.tree-tree.result.now c.args.who.now c.in_ok-serial.serial (made c.args.attr) c.tree-tree.ensures.valid (c.tree-tree.ensures.document) c.in_ok-serial.ensures.ok

pub returns-clause-ok : goal.returns-clause-ok
returns-clause-ok g c = there g (goal.at.returns-clause-ok g c).After-without_name ∙ c.in_ok-copy.ensures.ok

pub returns-in_err-copy-clause-err : goal.returns-in_err-copy-clause-err
returns-in_err-copy-clause-err g c =
    on_err _ c.from_residual-in_err-copy.result c.in_err-copy.field-0.0 c.from_residual-in_err-copy.ensures.1
    (refused_at _ _ c.in_err-copy.field-0.0 (there g (goal.at.returns-in_err-copy-clause-err g c).After-without_name) c.in_err-copy.ensures.err)

pub returns-in_err-serial-clause-err : goal.returns-in_err-serial-clause-err
returns-in_err-serial-clause-err g c =
    on_err _ c.from_residual.result c.in_err-serial.field-0.0 c.from_residual.ensures.1
    (inr (not_found c.args.self.now c.args.who.now (made c.args.attr c.args.self.now.document) c.in_err-serial.field-0.0 c.in_err-serial.ensures.err))

pub returns-clause-site : goal.returns-clause-site
returns-clause-site g c =
    let named = c.in_ok-serial.ensures.ok in
    ap site.Old (named.2 ∙ sym (ap serial_or_0 named.1))
