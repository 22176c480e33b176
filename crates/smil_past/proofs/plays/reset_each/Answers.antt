use Rattle.smil_instance_rows.proofs.Noted.{over_next}
use Rattle.smil_past.specs.Rows.{reset_row}
use Rattle.smil_past.proofs.plays.reset_each.Goals as goal

pub loop-row-preserved : goal.loop-row-preserved
loop-row-preserved c =
    over_next reset_row c.args.rows.now c.loop-row.rows c.loop-row.row-index _ c.loop-row-test.true c.loop-row.invariant
