use Rattle.std.proofs.Common.{◌≡◌, ◌∙◌, ap, sym, None, arith}
use Rattle.std.specs.Prelude.{if◌then◌else◌}
use Rattle.std.proofs.lemmas.List.{get_or_default}
use Rattle.smil_nodes.specs.Slots.{earlier_of, least_number, slot_at}
use Rattle.smil_nodes.proofs.LeastNumbers.{least_changed}
use Rattle.smil_nodes.proofs.due_tree.least_with.Goals as goal

pub returns-then-is_before : goal.returns-then-is_before
returns-then-is_before c =
    let places = c.args.places.now in
    let here = c.index-places-place.result in
    let is = c.requires.before in
    let got : here ≡ slot_at places c.args.place = c.index-places-place.is ∙ get_or_default places c.args.place here None (omega (arith, c.requires.known)) in
    sym
    (ap least_number is.now
    ∙ least_changed is.front is.back is.before c.args.changed
    (ap (λ t. earlier_of t c.args.changed) (sym (got ∙ is.was))
    ∙ c.is_before.ensures
    ∙ ap (λ t. if t then c.args.changed else here) c.if-is_before.true))
