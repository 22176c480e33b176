use Rattle.std.proofs.Common.{◌∙◌, ap, sym, subst}
use Rattle.smil_model.specs.document.Document.{Document, node_at}
use Rattle.smil_model.specs.document.Valid.{IsNumberedTree}
use Rattle.smil_live.specs.Sites.{IsMade, site_next}
use Rattle.smil_live.specs.Texts.{AgreeButForTexts}
use Rattle.smil_live.specs.declared.edits.Site.{Site}
use Rattle.smil_live.proofs.UnchangedDocuments.{differ}
use Rattle.smil_live.proofs.presentation.PresentationOver.changes_texts_alone.Goals as goal

pub returns-in-Old-clause-alone : goal.returns-in-Old-clause-alone
returns-in-Old-clause-alone g c =
    let at : Document → Type 0 = λ (d : Document). AgreeButForTexts d c.args.edited.now c.args.site in (
      λ agree. subst at c.tree.ensures.document (subst (λ (x : Site). AgreeButForTexts c.tree.result.now c.args.edited.now x) (sym c.in-Old.is) (c.agree_but_for_texts.ensures.0 agree)),
      λ agree. c.agree_but_for_texts.ensures.1 (subst (λ (x : Site). AgreeButForTexts c.tree.result.now c.args.edited.now x) c.in-Old.is (subst at (sym c.tree.ensures.document) agree)),
    )

pub returns-in-Old-clause-differ : goal.returns-in-Old-clause-differ
returns-in-Old-clause-differ g c agree =
    let found = c.agree_but_for_texts.ensures.0 agree in
    differ c.args.self.now.document c.args.edited.now c.in-Old.serial found.0 found.1
    (subst IsNumberedTree c.tree.ensures.document c.tree.ensures.valid.numbered)
    (subst (λ (x : Site). IsMade c.args.self.now.document x c.args.edited.now) c.in-Old.is c.requires)
    (ap (λ (d : Document). node_at d.nodes c.in-Old.serial) (sym c.tree.ensures.document) ∙ found.2) found.3 found.4

pub returns-in-Old-clause-next : goal.returns-in-Old-clause-next
returns-in-Old-clause-next g c agree = c.requires.next_is ∙ ap (site_next c.args.self.now.document) c.in-Old.is
