use Rattle.std.proofs.Common.{ap, ◌∙◌, w64, to_z, of_z}
use Rattle.std.proofs.Math.Seq.{take-append_seam}
use Rattle.std.proofs.lemmas.Result.{on_err_weaker, on_ok_weaker}
use Rattle.std.specs.Prelude.{length, take}
use Rattle.smil_report.proofs.Growing.{begins_by}
use Rattle.smil_shown.proofs.AllViews.{of_nodes}
use Rattle.smil_live.proofs.EditedPresentations.{on_err_always, told_edited}
use Rattle.smil_live.proofs.RebuiltCells.{moment_kept}
use Rattle.smil_live.proofs.SettledCells.{views_settled}
use Rattle.smil_live.proofs.viewer.Viewer.put_edited.Goals as goal

pub returns-in_err-put_all_gone-clause-err : goal.returns-in_err-put_all_gone-clause-err
returns-in_err-put_all_gone-clause-err g c = on_err_always c.from_residual.result c.in_err-put_all_gone.ensures.err

pub put_differences-requires : goal.put_differences-requires
put_differences-requires g c = of_nodes c.args.cells.now c.tree-3.result.now c.args.seen.now c.tree-3.ensures c.requires.after.shown_is.views_are

pub returns-clause-ok : goal.returns-clause-ok
returns-clause-ok g c =
    let now = moment_kept c.args.cells.now.presentation c.moment-now.result c.requires.after.shown_is.state c.moment-now.ensures in
    let before = c.requires.before.shown_is.views_are ∙ views_settled c.args.self.now.cells c.requires.before.shown_is.settled in
    let after = c.requires.after.shown_is.views_are ∙ views_settled c.args.cells.now c.requires.after.shown_is.settled in
    on_ok_weaker c.put_differences.result
    (told_edited g.I.ChangeItem.telling c.args.self.now.cells.presentation c.args.cells.now.presentation c.tree.result.now c.tree-2.result.now c.tree-3.result.now (to_z w64 (of_z w64 c.moment-now.result))
    c.args.self.now.seen c.args.seen.now c.args.out.now c.put_all_gone.new.out c.put_differences.new.out
    c.tree.ensures c.tree-2.ensures c.tree-3.ensures now before after c.in_ok-put_all_gone.ensures.ok)
    (c.put_differences.ensures.ok c.args.cells.now.presentation.now now)

pub returns-clause-err : goal.returns-clause-err
returns-clause-err g c =
    on_err_weaker c.put_differences.result
    (begins_by c.args.out.now c.put_all_gone.new.out c.put_differences.new.out
    (ap (take (length c.args.out.now)) c.in_ok-put_all_gone.ensures.ok ∙ take-append_seam c.args.out.now _))
    c.put_differences.ensures.err
