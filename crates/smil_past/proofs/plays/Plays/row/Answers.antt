use Rattle.std.proofs.Common.{◌<◌, sym, ◌∙◌, ap, length, Some, get_or, arith}
use Rattle.std.specs.FinMap.{get}
use Rattle.std.specs.Option.{option_copied}
use Rattle.smil_past.specs.Rows.{row_of}
use Rattle.smil_past.proofs.PlayRows.{Row, first_below, first_indexed, none_indexed, row_first}
use Rattle.smil_past.proofs.plays.Plays.row.Goals as goal

pub returns-in_err-place : goal.returns-in_err-place
returns-in_err-place c =
    ap option_copied c.from_residual.ensures
    ∙ sym (ap (λ rows. row_of rows c.args.who) (sym c.self.view_is) ∙ none_indexed c.args.who c.self.inside.rows.items (get c.self.inside.places.value) c.self.invariant (sym c.in_err-place.ensures))

pub returns-in_err-get : goal.returns-in_err-get
returns-in_err-get c =
    let k = c.in_ok-place.place in
    let low : k < length c.self.inside.rows.items =
    first_below c.args.who c.self.inside.rows.items k (first_indexed c.args.who c.self.inside.rows.items (get c.self.inside.places.value) c.self.invariant k (sym c.in_ok-place.ensures)) in
    absurd (omega (arith, low, ap length c.deref.ensures.value, c.in_err-get.ensures.lookup))

pub returns : goal.returns
returns c =
    let k = c.in_ok-place.place in
    let e = c.in_ok-get.field-0.now in
    ap (λ (r : Row). Some r.1) c.in_ok-get.ensures.lookup.1
    ∙ ap (λ rows. Some (get_or rows k e).1) c.deref.ensures.value
    ∙ sym (row_first c.args.who c.self.inside.rows.items k e (first_indexed c.args.who c.self.inside.rows.items (get c.self.inside.places.value) c.self.invariant k (sym c.in_ok-place.ensures)))
    ∙ ap (λ rows. row_of rows c.args.who) c.self.view_is
