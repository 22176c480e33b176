use Rattle.std.proofs.Common.{◌≡◌, ◌∙◌, ap, None, length, arith}
use Rattle.std.specs.Prelude.{cond, ◌==◌}
use Rattle.std.specs.FinMap.{get}
use Rattle.std.proofs.lemmas.List.{take_at}
use Rattle.smil_model.specs.SerialTable.{low_place, table_of}
use Rattle.smil_model.proofs.SerialTables.{high_changed, low_changed}
use Rattle.smil_model.proofs.serial_table.SerialTable.forget.Goals as goal

pub returns-then-serial-lt-LOW : goal.returns-then-serial-lt-LOW
returns-then-serial-lt-LOW c = λ s.
    let count : length c.forget_low.new.low ≡ c.self.inside.low.len = omega (arith, c.forget_low.auto.low, c.deref_mut.ensures.len, c.self.inside.low.ok.0) in
    ap (λ low. get (table_of low c.self.inside.high.entries) s) (take_at c.forget_low.new.low _ c.self.inside.low.len count)
    ∙ low_changed c.self.inside.low.items c.self.inside.high.entries c.args.self.now c.self.view_is c.forget_low.new.low c.args.serial None c.if-serial-lt-LOW.true
    (λ s. c.forget_low.ensures s ∙ ap (λ low. cond (c.args.serial == s) None (low_place low s)) c.deref_mut.ensures.value) s

pub returns-else-serial-lt-LOW : goal.returns-else-serial-lt-LOW
returns-else-serial-lt-LOW c =
    high_changed c.self.inside.low.items c.self.inside.high.entries c.args.self.now c.self.view_is c.remove.new.self.entries c.args.serial None c.if-serial-lt-LOW.false c.remove.ensures.updates.0
