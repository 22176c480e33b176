use Rattle.std.proofs.Common.{◌≡◌, ◌∙◌, ap, sym, Bool, List}
use Rattle.std.proofs.lemmas.Result.{IfOk-weaker}
use Rattle.smil_model.specs.declared.document.Node.{Node}
use Rattle.smil_model.specs.diary.Diary.{History}
use Rattle.smil_model.specs.shown.Orders.{Presentation}
use Rattle.smil_revision.specs.References.{keeps_references}
use Rattle.smil_revision.proofs.AlikeReferences.{alike_keeps}
use Rattle.smil_live.specs.Texts.{current}
use Rattle.smil_live.proofs.TextReferences.{references_same}
use Rattle.smil_live.proofs.presentation.PresentationOver.keeps_references.Goals as goal

pub returns : goal.returns
returns g c =
    let made = c.self.inside.viewer.cells.presentation.document in
    let same : c.graph.result.now.nodes ≡ made.nodes = c.graph.ensures ∙ ap (λ (h : History). h.nodes) c.past.ensures in
    let kept : keeps_references c.args.serial made.nodes c.args.revised.now.graph.nodes ≡ keeps_references c.args.serial c.args.self.now.document.nodes c.args.revised.now.graph.nodes =
    references_same made.nodes (current made c.self.inside.edited).nodes c.args.revised.now.graph.nodes c.args.serial c.self.invariant.differ
    ∙ ap (λ (p : Presentation). keeps_references c.args.serial p.document.nodes c.args.revised.now.graph.nodes) c.self.view_is in
    IfOk-weaker c.keeps_references.result (λ (keeps : Bool). keeps ≡ keeps_references c.args.serial c.graph.result.now.nodes c.args.revised.now.graph.nodes)
    (λ (keeps : Bool). keeps ≡ keeps_references c.args.serial c.args.self.now.document.nodes c.args.revised.now.graph.nodes)
    (λ keeps is. is ∙ (ap (λ (ns : List Node). keeps_references c.args.serial ns c.args.revised.now.graph.nodes) same ∙ kept)) c.keeps_references.ensures

pub returns-then-revised : goal.returns-then-revised
returns-then-revised g c = sym (alike_keeps c.args.self.now.document.nodes c.args.revised.now.graph.nodes (c.requires c.if-revised.true) c.args.serial)
