use Rattle.std.proofs.Common.{◌∙◌, ap, subst, ◌++◌, [], ◌∷◌, ◌<◌, length, get_or, List}
use Rattle.smil_model.specs.declared.view.View.{View}
use Rattle.smil_model.specs.shown.Views.{blank}
use Rattle.smil_report.proofs.Growing.{begins_by}
use Rattle.smil_shown.specs.Told.{told_between}
use Rattle.smil_shown.proofs.LinesTold.{difference_on}
use Rattle.smil_shown.proofs.lines.put_differences.Goals as goal

pub loop-view-preserved : goal.loop-view-preserved
loop-view-preserved g c =
    let nodes = c.args.scene.tree.now.nodes in
    let views = c.args.after.now in
    let before = c.args.before.now in
    let i = c.loop-view.view-index in
    let same = c.views-view-items.ensures in
    record {
      told = λ m q.
          difference_on g.I.ChangeItem.telling nodes m before views i (blank 0) _ c.loop-view.out _ (subst (λ (l : List View). i < length l) same c.loop-view-test.true) (c.loop-view.invariant.told m q)
          (c.in_ok-put_difference.ensures.ok m q ∙ ap (λ (l : List View). c.loop-view.out ++ told_between g.I.ChangeItem.telling nodes m before (get_or l i (blank 0) ∷ [])) same);
      begins = begins_by c.args.out.now c.loop-view.out _ c.loop-view.invariant.begins c.in_ok-put_difference.ensures.begins;
    }
