use Rattle.std.proofs.Common.{ap, ◌∙◌}
use Rattle.smil_model.specs.document.Document.{Document}
use Rattle.smil_model.specs.document.Edits.{attr_unset}
use Rattle.smil_tree.proofs.ResultClauses.{on_err}
use Rattle.smil_revision.proofs.EditedCopies.{name_unread, unset_read}
use Rattle.smil_revision.proofs.copies.without_name.Goals as goal

pub returns-clause-ok : goal.returns-clause-ok
returns-clause-ok c =
    unset_read c.args.tree.now c.args.serial c.requires.known c.named.result.kind c.named.result.parent c.named.ensures.kind c.named.ensures.parent c.args.attr.text.now c.args.attr.column c.in_ok-name.name c.unset.new.self
    (rw (← c.named.ensures.name, ← c.named.ensures.column) c.in_ok-name.ensures)
    (c.in_ok-unset.ensures.ok ∙ ap (λ (d : Document). attr_unset d c.args.serial c.in_ok-name.name) c.in_ok-edited.ensures)

pub returns-in_err-name-clause-err : goal.returns-in_err-name-clause-err
returns-in_err-name-clause-err c =
    let given = c.in_err-name.field-0.0 in
    on_err _ c.from_residual.result given c.from_residual.ensures.1
    (name_unread c.args.tree.now c.args.serial c.requires.known c.named.result.kind c.named.result.parent c.named.ensures.kind c.named.ensures.parent c.args.attr.text.now c.args.attr.column given
    (rw (← c.named.ensures.name, ← c.named.ensures.column) c.in_err-name.ensures))
