use Rattle.std.proofs.Common.{◌∙◌, sym, ap, length, ◌<◌, arith}
use Rattle.smil_instance_rows.proofs.RowsBySerial.{index_kept}
use Rattle.smil_instance_rows.proofs.rows.Rows.add.Goals as goal

pub invariant_of-self : goal.invariant_of-self
invariant_of-self c = λ who.
    let rows = c.self.inside.rows.items in
    let inside : c.args.cell.row < length rows = omega (arith, c.requires.cell.row, ap length c.self.view_is) in
    c.self.invariant who ∙ sym (index_kept rows c.args.cell.row c.index_mut.result.now c.add.new.self inside c.index_mut.ensures.value c.add.ensures.serial who)
