use Rattle.smil_live.proofs.TouchedViews.{IsUnderWay, touched_views}
use Rattle.smil_live.proofs.viewer.put_touched.Given as goal

abbrev pub invariant-loop-serial : goal.invariant-loop-serial
invariant-loop-serial g l =
    IsUnderWay g.I.ChangeItem.telling l.cells.presentation.document.nodes l.cells.presentation.now l.fn.seen (touched_views l.cells) l.fn.out l.seen l.serial-index l.out
