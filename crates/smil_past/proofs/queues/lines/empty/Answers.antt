use Rattle.std.proofs.Common.{refl, sym, ap, ◌∙◌, []}
use Rattle.std.specs.Prelude.{cond}
use Rattle.std.proofs.lemmas.Bool.{eq-eqb}
use Rattle.smil_excl.specs.QueueState.{QueueState, line_in}
use Rattle.smil_past.specs.Queues.{without_children}
use Rattle.smil_past.proofs.QueuePut.{queue_changed, queue_absent, line_there}
use Rattle.smil_past.proofs.queues.lines.empty.Goals as goal

pub returns-in-Some : goal.returns-in-Some
returns-in-Some c = λ queue is.
    let nodes = c.args.tree.now.nodes in
    let who = c.args.who in
    queue_changed nodes queue (without_children who queue) c.args.queues.now c.in-Some.place who c.clear.new.self c.valid.ensures.numbered.distinct is (c.in-Some.ensures)
    (c.clear.ensures
    ∙ ap (λ (l : QueueState). record { held = []; room = l.room }) (line_there nodes queue c.args.queues.now c.in-Some.place who c.index-queues-place.result is c.in-Some.ensures)
    ∙ ap (λ t. line_in nodes who (cond t [] (queue who))) (sym (eq-eqb who who refl)))
    (λ e r. ap (λ t. cond t [] (queue e)) (sym r))

pub returns-in_default : goal.returns-in_default
returns-in_default c = λ queue is.
    is ∙ queue_absent c.args.tree.now.nodes queue (without_children c.args.who queue) c.args.who c.in_default.ensures (λ e r. ap (λ t. cond t [] (queue e)) (sym r))
