use Rattle.std.proofs.Common.{◌∙◌, ap, sym}
use Rattle.std.proofs.lemmas.Result.{on_ok_weaker}
use Rattle.smil_model.specs.shown.Orders.{Presentation}
use Rattle.smil_model.specs.shown.Sandwich.{layers}
use Rattle.smil_live.proofs.ToldAnswers.{kept_elements, kept_sets, kept_views, stack_answer}
use Rattle.smil_live.proofs.TextsApart.{cells_playing, cells_with}
use Rattle.smil_live.proofs.presentation.PresentationOver.put_stack_at.Goals as goal

pub of-requires : goal.of-requires
of-requires g c = kept_elements (cells_with c.self.inside.viewer.cells c.self.inside.edited) c.self.inside.viewer.seen c.tree-tree.result.now c.views.result.now (cells_playing c.self.inside.viewer.cells c.self.inside.viewer.seen c.self.inside.edited c.self.invariant) (c.tree-tree.ensures.document ∙ sym (ap (λ (p : Presentation). p.document) c.self.view_is)) c.views.ensures

pub put_layers-requires : goal.put_layers-requires
put_layers-requires g c = record { setters = kept_sets (cells_with c.self.inside.viewer.cells c.self.inside.edited) c.self.inside.viewer.seen c.tree-tree.result.now c.views.result.now c.in_ok-sets.sets (cells_playing c.self.inside.viewer.cells c.self.inside.viewer.seen c.self.inside.edited c.self.invariant) (c.tree-tree.ensures.document ∙ sym (ap (λ (p : Presentation). p.document) c.self.view_is)) c.views.ensures c.in_ok-sets.ensures }

pub returns-clause-told : goal.returns-clause-told
returns-clause-told g c = λ n own.
    let d = c.tree-tree.result.now in
    let vs = c.views.result.now in
    let same = c.tree-tree.ensures.document in
    let is = kept_views (cells_with c.self.inside.viewer.cells c.self.inside.edited) c.self.inside.viewer.seen c.args.self.now vs (cells_playing c.self.inside.viewer.cells c.self.inside.viewer.seen c.self.inside.edited c.self.invariant) c.self.view_is c.views.ensures in
    on_ok_weaker c.put_layers.result
    (stack_answer d vs c.args.self.now n c.args.target c.args.attr.now c.args.out.now c.put_layers.new.out same is own)
    (c.put_layers.ensures.told (layers d.nodes vs) c.in_ok-sets.ensures)
