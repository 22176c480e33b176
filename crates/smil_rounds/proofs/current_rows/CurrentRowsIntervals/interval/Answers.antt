use Rattle.std.proofs.Common.{◌∙◌, ap, sym, get_or}
use Rattle.smil_rounds.specs.declared.current_rows.CurrentRow.{CurrentRow}
use Rattle.std.specs.FinMap.{get}
use Rattle.smil_rounds.specs.Current.{interval_in}
use Rattle.smil_rounds.proofs.RowPut.{interval_none, interval_first, first_of_position}
use Rattle.smil_rounds.proofs.current_rows.CurrentRowsIntervals.interval.Goals as goal

pub returns-in_err-index-clause-value : goal.returns-in_err-index-clause-value
returns-in_err-index-clause-value c =
    c.from_residual.ensures
    ∙ sym (ap (λ rows. interval_in rows c.args.who) (sym c.self.view_is) ∙ interval_none c.args.who c.self.inside.rows.items (sym (c.in_err-index.ensures ∙ ap (λ places. get places c.args.who) c.deref.ensures ∙ c.self.invariant.1 c.args.who)))

pub returns-clause-value : goal.returns-clause-value
returns-clause-value c =
    let k = c.in_ok-index.index in
    let e = c.in_ok-get.field-0.now in
    ap (λ (r : CurrentRow). r.interval) c.in_ok-get.ensures.lookup.1
    ∙ ap (λ rows. (get_or rows k e).interval) c.deref-2.ensures.value
    ∙ sym (interval_first c.args.who c.self.inside.rows.items k e (first_of_position c.args.who c.self.inside.rows.items k e (sym (c.in_ok-index.ensures ∙ ap (λ places. get places c.args.who) c.deref.ensures ∙ c.self.invariant.1 c.args.who))))
    ∙ ap (λ rows. interval_in rows c.args.who) c.self.view_is
