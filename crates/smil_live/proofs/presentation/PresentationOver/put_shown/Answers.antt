use Rattle.std.proofs.Common.{rules, ◌≡◌, refl, ◌∙◌, ap, sym, pos, to_z, of_z}
use mir.Syntax.{w64}
use mir.Val.{SFits}
use Rattle.std.specs.Prelude.{flat_map}
use Rattle.std.proofs.lemmas.Int.{to_z-of_z}
use Rattle.std.proofs.lemmas.Result.{on_ok_weaker}
use Rattle.smil_model.specs.shown.Answers.{change_text}
use Rattle.smil_model.specs.shown.Orders.{Presentation, at_moment}
use Rattle.smil_shown.proofs.AllViews.{of_nodes}
use Rattle.smil_live.proofs.ToldAnswers.{begins_or, kept_views, shown_answer}
use Rattle.smil_live.proofs.TextsApart.{cells_playing, cells_with}
use Rattle.smil_live.proofs.presentation.PresentationOver.put_shown.Goals as goal

pub put_views-requires : goal.put_views-requires
put_views-requires g c = of_nodes (cells_with c.self.inside.viewer.cells c.self.inside.edited) c.tree.result.now c.self.inside.viewer.seen (c.tree.ensures.document ∙ sym (ap (λ (p : Presentation). p.document) c.self.view_is)) (cells_playing c.self.inside.viewer.cells c.self.inside.viewer.seen c.self.inside.edited c.self.invariant).shown_is.views_are

pub returns-clause-told : goal.returns-clause-told
returns-clause-told g c =
    let fits : SFits w64 c.moment.result = search rules in
    let at : to_z w64 (of_z w64 c.moment.result) ≡ pos c.args.self.now.now = to_z-of_z w64 c.moment.result fits ∙ c.moment.ensures ∙ ap (λ (p : Presentation). pos p.now) c.self.view_is in
    let same = c.tree.ensures.document in
    let is = kept_views (cells_with c.self.inside.viewer.cells c.self.inside.edited) c.self.inside.viewer.seen c.args.self.now c.self.inside.viewer.seen (cells_playing c.self.inside.viewer.cells c.self.inside.viewer.seen c.self.inside.edited c.self.invariant) c.self.view_is refl in
    on_ok_weaker c.put_views.result
    (shown_answer c.args.self.now c.tree.result.now c.self.inside.viewer.seen c.args.out.now c.put_views.new.out same is)
    (c.put_views.ensures.ok c.args.self.now.now at)

pub returns-clause-begins : goal.returns-clause-begins
returns-clause-begins g c =
    let fits : SFits w64 c.moment.result = search rules in
    let at : to_z w64 (of_z w64 c.moment.result) ≡ pos c.args.self.now.now = to_z-of_z w64 c.moment.result fits ∙ c.moment.ensures ∙ ap (λ (p : Presentation). pos p.now) c.self.view_is in
    begins_or c.put_views.result c.args.out.now c.put_views.new.out (flat_map (change_text c.tree.result.now.nodes) (at_moment c.args.self.now.now c.self.inside.viewer.seen))
    (c.put_views.ensures.ok c.args.self.now.now at) c.put_views.ensures.err
