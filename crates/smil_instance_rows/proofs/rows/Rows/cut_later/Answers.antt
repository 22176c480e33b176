use Rattle.std.proofs.Common.{◌∙◌, sym, ap, List, arith}
use Rattle.std.proofs.lemmas.List.{take_at}
use Rattle.smil_instance_rows.specs.Rows.{ElementTimes, rows_before}
use Rattle.smil_instance_rows.specs.Readings.{index_in}
use Rattle.smil_instance_rows.proofs.RowsBySerial.{index_before}
use Rattle.smil_instance_rows.proofs.rows.Rows.cut_later.Goals as goal

pub invariant_of-self : goal.invariant_of-self
invariant_of-self c = λ who.
    let now = c.cut_each.new.rows in
    c.self.invariant who
    ∙ sym (ap (λ (rs : List ElementTimes). index_in rs who)
    (take_at now _ c.self.inside.rows.len (omega (arith, c.cut_each.auto.rows, c.deref_mut.ensures.len)) ∙ c.cut_each.ensures ∙ ap (rows_before c.args.place) c.deref_mut.ensures.value)
    ∙ index_before c.args.place c.self.inside.rows.items who)
