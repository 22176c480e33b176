use Rattle.std.proofs.Common.{◌∙◌, ap, sym, List, length, arith}
use Rattle.smil_rounds.specs.declared.current_rows.CurrentRow.{CurrentRow}
use Rattle.smil_nodes.proofs.RowsPutBack.{row_past}
use Rattle.smil_nodes.proofs.live.put_back.Goals as goal
use Rattle.smil_nodes.proofs.live.put_back.Goals.{then-noted-rows, else-noted-rows}

pub returns-clause-rows : goal.returns-clause-rows
returns-clause-rows c =
    elim c.if-noted-rows.branch [
      | then-noted-rows w ↦ w.schedule-is ∙ w.put.ensures
      | else-noted-rows w ↦
          (w.schedule-is
          ∙ sym (row_past c.args.schedule.now c.args.noted.index c.args.noted.interval c.args.noted.comings (omega (arith, w.if-noted-rows.false, ap (λ (rows : List CurrentRow). length rows) c.rows.ensures))))
    ]
