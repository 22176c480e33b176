use Rattle.std.proofs.Common.{◌∙◌, ap, sym}
use Rattle.smil_model.specs.SerialTable.{low_place}
use Rattle.smil_model.proofs.SerialTables.{told_high, told_low}
use Rattle.smil_model.proofs.serial_table.SerialTable.get.Goals as goal

pub returns-then-serial-lt-LOW : goal.returns-then-serial-lt-LOW
returns-then-serial-lt-LOW c =
    c.low_place.ensures
    ∙ ap (λ low. low_place low c.args.serial) c.deref.ensures.value
    ∙ sym (told_low c.self.inside.low.items c.self.inside.high.entries c.args.self.now c.self.view_is c.args.serial c.if-serial-lt-LOW.true)

pub returns-else-serial-lt-LOW : goal.returns-else-serial-lt-LOW
returns-else-serial-lt-LOW c =
    c.high_place.ensures
    ∙ sym (told_high c.self.inside.low.items c.self.inside.high.entries c.args.self.now c.self.view_is c.args.serial c.if-serial-lt-LOW.false)
