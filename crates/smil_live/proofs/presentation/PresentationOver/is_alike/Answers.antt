use Rattle.std.proofs.Common.{◌∙◌, ap, sym, subst}
use Rattle.smil_model.specs.document.Document.{Document, node_at}
use Rattle.smil_model.specs.document.Valid.{IsNumberedTree}
use Rattle.smil_live.specs.Sites.{IsMade}
use Rattle.smil_live.specs.declared.edits.Site.{Site}
use Rattle.smil_live.proofs.UnchangedDocuments.{read_alike}
use Rattle.smil_live.proofs.presentation.PresentationOver.is_alike.Goals as goal

pub returns-in-Old : goal.returns-in-Old
returns-in-Old g c alike =
    let found = c.are_alike_at.ensures.0 alike in
    read_alike c.args.self.now.document c.args.edited.now c.in-Old.serial found.0 found.1
    (subst IsNumberedTree c.tree.ensures.document c.tree.ensures.valid.numbered)
    (subst (λ (x : Site). IsMade c.args.self.now.document x c.args.edited.now) c.in-Old.is c.requires)
    (ap (λ (d : Document). node_at d.nodes c.in-Old.serial) (sym c.tree.ensures.document) ∙ found.2) found.3 found.4
