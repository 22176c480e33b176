use Rattle.std.proofs.Common.{◌∙◌, ap, sym, Some, arith}
use Rattle.std.specs.Prelude.{is_some}
use Rattle.std.proofs.lemmas.Result.{on_ok_weaker}
use Rattle.smil_model.proofs.SerialTables.{high_changed, low_changed, low_within, told_high}
use Rattle.smil_model.proofs.serial_table.SerialTable.put.Goals as goal

pub returns-then-serial-lt-LOW-clause-ok : goal.returns-then-serial-lt-LOW-clause-ok
returns-then-serial-lt-LOW-clause-ok c =
    on_ok_weaker c.put_low.result
    (low_changed c.self.inside.low.items c.self.inside.high.entries c.args.self.now c.self.view_is c.put_low.new.low.items c.args.serial (Some c.args.place) c.if-serial-lt-LOW.true)
    c.put_low.ensures.ok

pub returns-then-serial-lt-LOW-clause-known : goal.returns-then-serial-lt-LOW-clause-known
returns-then-serial-lt-LOW-clause-known c = λ less some.
    let within = low_within c.self.inside.low.items c.self.inside.high.entries c.args.self.now c.self.view_is c.args.serial c.if-serial-lt-LOW.true some in
    c.put_low.ensures.known less (omega (arith, within, c.self.inside.low.ok.0))

pub returns-in_ok-insert-clause-ok : goal.returns-in_ok-insert-clause-ok
returns-in_ok-insert-clause-ok c =
    high_changed c.self.inside.low.items c.self.inside.high.entries c.args.self.now c.self.view_is c.insert.new.self.entries c.args.serial (Some c.args.place) c.if-serial-lt-LOW.false c.in_ok-insert.ensures.updates.0

pub returns-in_err-insert-clause-known : goal.returns-in_err-insert-clause-known
returns-in_err-insert-clause-known c = λ less some.
    let never = sym some ∙ ap is_some (told_high c.self.inside.low.items c.self.inside.high.entries c.args.self.now c.self.view_is c.args.serial c.if-serial-lt-LOW.false ∙ c.in_err-insert.ensures.absent) in
    cc
