use Rattle.std.proofs.Common.{◌∙◌, ap, set}
use Rattle.smil_instance_rows.specs.Rows.{row_before}
use Rattle.smil_instance_rows.proofs.Noted.{over_next}
use Rattle.smil_instance_rows.proofs.rows.cut_each.Goals as goal

pub loop-row-preserved : goal.loop-row-preserved
loop-row-preserved c =
    ap (set c.loop-row.rows c.loop-row.row-index) c.cut_later.ensures
    ∙ over_next (row_before c.args.place) c.args.rows.now c.loop-row.rows c.loop-row.row-index c.row-item.result c.loop-row-test.true c.loop-row.invariant
