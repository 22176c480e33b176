use Rattle.std.proofs.Common.{◌∙◌, ap, sym, subst, Bool, List}
use Rattle.std.specs.Prelude.{option_map, slice_get}
use Rattle.smil_model.specs.declared.happening.Key.{Key}
use Rattle.smil_element.specs.Parts.{coming_meant}
use Rattle.smil_rounds.specs.declared.current_rows.CurrentRow.{CurrentRow}
use Rattle.smil_rounds.specs.Current.{AreCurrent}
use Rattle.smil_rounds.specs.Rows.{IsChosenBy}
use Rattle.smil_nodes.specs.Slots.{place_in}
use Rattle.smil_nodes.proofs.RowSlots.{first_comes, nothing_comes}
use Rattle.smil_nodes.proofs.schedule.Schedule.first.Goals as goal

pub returns-in_err-number : goal.returns-in_err-number
returns-in_err-number c = λ h now near are.
    let here = subst (λ (rows : List CurrentRow). AreCurrent rows h now) (sym c.self.view_is) are in
    ap (option_map coming_meant) c.from_residual.ensures
    ∙ nothing_comes h now c.self.inside.known c.self.inside.due near here c.self.invariant.slots_are c.in_err-number.ensures

pub returns : goal.returns
returns c = λ h now near are.
    let here = subst (λ (rows : List CurrentRow). AreCurrent rows h now) (sym c.self.view_is) are in
    let number = c.in_ok-number.number in
    first_comes h now c.self.inside.known c.self.inside.due near here c.self.invariant.slots_are number c.coming_at.result c.in_ok-number.ensures
    (λ r got.
    subst (λ (b : Bool). IsChosenBy (λ (k : Key). k.repeat) b r.comings.moved r.comings.repeat c.coming_at.result) c.repeats.ensures
    (c.coming_at.ensures r (ap (slice_get c.rows.result.now) c.place_in.ensures ∙ ap (λ (rows : List CurrentRow). slice_get rows (place_in number)) c.rows.ensures ∙ got)))
