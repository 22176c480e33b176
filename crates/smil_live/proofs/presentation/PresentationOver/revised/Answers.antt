use Rattle.std.proofs.Common.{◌≡◌, ◌∙◌, ap, sym}
use Rattle.smil_model.specs.diary.Diary.{History}
use Rattle.smil_model.specs.document.Document.{Document}
use Rattle.smil_model.specs.shown.Orders.{Presentation}
use Rattle.smil_graph.specs.Reduced.{all_reduced}
use Rattle.smil_live.specs.Texts.{current}
use Rattle.smil_live.proofs.TextReferences.{reduced_same}
use Rattle.smil_live.proofs.presentation.PresentationOver.revised.Goals as goal

pub shared-requires : goal.shared-requires
shared-requires g c =
    let made = c.self.inside.viewer.cells.presentation.document in
    let same : c.graph.result.now.nodes ≡ made.nodes = c.graph.ensures ∙ ap (λ (h : History). h.nodes) c.past.ensures in
    ap all_reduced same
    ∙ (reduced_same made.nodes (current made c.self.inside.edited).nodes c.self.invariant.differ
    ∙ (ap (λ (p : Presentation). all_reduced p.document.nodes) c.self.view_is ∙ c.is_alike.ensures c.if-is_alike.true))

pub returns-then-is_alike-clause-alike : goal.returns-then-is_alike-clause-alike
returns-then-is_alike-clause-alike g c known =
    c.is_alike.ensures c.if-is_alike.true ∙ ap (λ (d : Document). all_reduced d.nodes) (sym c.in_ok-graph.ensures)
