use Rattle.std.proofs.Common.{◌∙◌, sym, ap, length, ◌<◌, arith}
use Rattle.smil_instance_rows.proofs.RowsBySerial.{index_kept}
use Rattle.smil_instance_rows.proofs.rows.Rows.cut.Goals as goal

pub invariant_of-self : goal.invariant_of-self
invariant_of-self c = λ who.
    let rows = c.self.inside.rows.items in
    let inside : c.args.cell.row < length rows = omega (arith, c.requires.row, ap length c.self.view_is) in
    c.self.invariant who ∙ sym (index_kept rows c.args.cell.row c.index_mut.result.now c.cut.new.self inside c.index_mut.ensures.value c.cut.ensures.serial who)
