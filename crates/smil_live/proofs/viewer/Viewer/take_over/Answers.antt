use Rattle.std.proofs.Common.{sym, ◌∙◌, subst}
use Rattle.smil_report.proofs.Growing.{begins_long, cut_again}
use Rattle.smil_cells.specs.CellsState.{CellsState}
use Rattle.smil_shown.specs.ShownViews.{IsPlaying}
use Rattle.smil_live.proofs.EditedPresentations.{plays, where_err}
use Rattle.smil_live.proofs.TouchedViews.{where_not_err}
use Rattle.smil_live.proofs.viewer.Viewer.take_over.Given.{Over}
use Rattle.smil_live.proofs.viewer.Viewer.take_over.Goals as goal
use Rattle.smil_live.proofs.viewer.Viewer.take_over.Goals.{In_ok-seen}

-- what the new cells play
plays_new : (g : Over) (c : In_ok-seen g) → IsPlaying c.args.cells.now c.in_ok-seen.seen
plays_new g c = plays c.args.cells.now.presentation c.args.cells.now c.in_ok-seen.seen c.requires.state c.requires.replayed c.in_ok-seen.ensures

pub put_edited-requires-clause-before : goal.put_edited-requires-clause-before
put_edited-requires-clause-before g c = c.requires.playing

pub put_edited-requires-clause-after : goal.put_edited-requires-clause-after
put_edited-requires-clause-after g c = plays_new g (goal.at.put_edited-requires-clause-after g c).In_ok-seen

pub cut_back-requires : goal.cut_back-requires
cut_back-requires g c =
    begins_long c.args.out.now c.put_edited.new.out c.len-len.result c.len-len.ensures (where_err c.put_edited.result _ (sym c.is_err.ensures.value ∙ c.if-is_err.true) c.put_edited.ensures.err)

pub returns-then-is_err-clause-text : goal.returns-then-is_err-clause-text
returns-then-is_err-clause-text g c =
    cut_again c.args.out.now c.put_edited.new.out c.cut_back.new.self c.len-len.result c.len-len.ensures (where_err c.put_edited.result _ (sym c.is_err.ensures.value ∙ c.if-is_err.true) c.put_edited.ensures.err)
    c.cut_back.ensures

pub returns-clause-playing : goal.returns-clause-playing
returns-clause-playing g c =
    subst (λ (s : CellsState). IsPlaying s c.in_ok-seen.seen) (sym c.swap.ensures.x_after) (plays_new g (goal.at.returns-clause-playing g c).In_ok-seen)

pub returns-clause-told : goal.returns-clause-told
returns-clause-told g c = where_not_err c.put_edited.result _ (sym c.is_err.ensures.value ∙ c.if-is_err.false) c.put_edited.ensures.ok
