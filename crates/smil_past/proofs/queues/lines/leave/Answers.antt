use Rattle.std.proofs.Common.{ap, ◌∙◌}
use Rattle.smil_model.specs.happening.Queue as model
use Rattle.smil_excl.specs.QueueState.{QueueState, without, line_in}
use Rattle.smil_excl.proofs.QueuePlaces.{without_is_without}
use Rattle.smil_past.proofs.QueuePut.{child_changed, child_absent, parent_there, line_there, none_left}
use Rattle.smil_past.proofs.queues.lines.leave.Goals as goal

pub returns-then-not-waits : goal.returns-then-not-waits
returns-then-not-waits c = λ queue is.
    is ∙ none_left c.args.tree.now.nodes c.args.who queue c.args.queues.now is (c.requires.outside c.if-not-waits.true)

pub returns-in-Some : goal.returns-in-Some
returns-in-Some c = λ queue is.
    let nodes = c.args.tree.now.nodes in
    let who = c.args.who in
    let of = parent_there nodes who c.in-Some.place c.in-Some.ensures in
    child_changed nodes who (model.without who) queue c.args.queues.now c.in-Some.place c.leave.new.self of c.valid.ensures.numbered.distinct is
    (c.leave.ensures.rest
    ∙ ap (λ (l : QueueState). record { held = without who l.held; room = l.room }) (line_there nodes queue c.args.queues.now c.in-Some.place of.parent c.index-queues-place.result is of.at)
    ∙ ap (λ held. record (line_in nodes of.parent (queue of.parent)) { held = held }) (without_is_without nodes who (queue of.parent)))

pub returns-in_default : goal.returns-in_default
returns-in_default c = λ queue is.
    is ∙ child_absent c.args.tree.now.nodes c.args.who (model.without c.args.who) queue c.in_default.ensures
