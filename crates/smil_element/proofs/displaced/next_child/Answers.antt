use Rattle.std.proofs.Common.{◌∙◌, ◌+◌, ap, sym, ℕ}
use Rattle.std.specs.Prelude.{option_and_then, slice_get}
use Rattle.smil_model.specs.document.Document.{Document, serials, time_children}
use Rattle.smil_element.proofs.NextChild.{next_of_place}
use Rattle.smil_element.proofs.displaced.next_child.Goals as goal

pub returns-in_err-place : goal.returns-in_err-place
returns-in_err-place c =
    c.from_residual.ensures
    ∙ ap (option_and_then (λ (k : ℕ). slice_get c.time_children-children.result.now (k + 1))) (sym c.in_err-place.was)
    ∙ next_of_place c.args.who c.time_children-children.result.now (serials (time_children c.args.past.now.document.nodes c.args.parent)) c.position_in.result
    (c.time_children-children.ensures ∙ ap (λ (d : Document). serials (time_children d.nodes c.args.parent)) c.tree.ensures) c.position_in.ensures.place

pub returns : goal.returns
returns c =
    c.serial_after.ensures
    ∙ ap (option_and_then (λ (k : ℕ). slice_get c.time_children-children.result.now (k + 1))) (sym c.in_ok-place.was)
    ∙ next_of_place c.args.who c.time_children-children.result.now (serials (time_children c.args.past.now.document.nodes c.args.parent)) c.position_in.result
    (c.time_children-children.ensures ∙ ap (λ (d : Document). serials (time_children d.nodes c.args.parent)) c.tree.ensures) c.position_in.ensures.place
