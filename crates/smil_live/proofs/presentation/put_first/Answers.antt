use Rattle.std.proofs.Common.{◌∙◌, refl, sym}
use Rattle.smil_report.proofs.Growing.{begins_long, cut_again}
use Rattle.smil_shown.proofs.AllViews.{of_nodes}
use Rattle.smil_live.proofs.EditedPresentations.{where_err}
use Rattle.smil_live.proofs.OpenedPresentations.{told_load}
use Rattle.smil_live.proofs.TouchedViews.{where_not_err}
use Rattle.smil_live.proofs.presentation.put_first.Goals as goal

pub put_differences-requires : goal.put_differences-requires
put_differences-requires g c =
    of_nodes c.args.cells.now c.tree.result.now c.in_ok-seen.seen c.tree.ensures c.in_ok-seen.ensures

pub cut_back-requires : goal.cut_back-requires
cut_back-requires g c =
    begins_long c.args.out.now c.put_differences.new.out c.len-len.result c.len-len.ensures (where_err c.put_differences.result _ (sym c.is_err.ensures.value ∙ c.if-is_err.true) c.put_differences.ensures.err)

pub returns-then-is_err-clause-text : goal.returns-then-is_err-clause-text
returns-then-is_err-clause-text g c =
    cut_again c.args.out.now c.put_differences.new.out c.cut_back.new.self c.len-len.result c.len-len.ensures (where_err c.put_differences.result _ (sym c.is_err.ensures.value ∙ c.if-is_err.true) c.put_differences.ensures.err)
    c.cut_back.ensures

pub returns-clause-answer : goal.returns-clause-answer
returns-clause-answer g c =
    told_load g.I.ChangeItem.telling c.args.cells.now c.tree.result.now c.in_ok-before.before c.in_ok-seen.seen 0 c.args.out.now c.put_differences.new.out c.requires.replayed.settled
    c.tree.ensures c.in_ok-before.ensures c.in_ok-seen.ensures (sym c.requires.moment)
    (where_not_err c.put_differences.result _ (sym c.is_err.ensures.value ∙ c.if-is_err.false) (c.put_differences.ensures.ok 0 refl))
