use Rattle.std.proofs.Common.{sym, ap, ◌∙◌}
use Rattle.std.specs.Prelude.{is_some, option_map, slice_get}
use Rattle.smil_excl.specs.declared.queued_child.QueuedChild.{QueuedChild}
use Rattle.smil_excl.specs.QueueState.{QueueState}
use Rattle.smil_excl.proofs.QueueEntries.{first_of}
use Rattle.smil_past.proofs.KnownNodes.{known_place}
use Rattle.smil_past.proofs.QueuePut.{line_there}
use Rattle.smil_past.proofs.queues.lines.first_at.Goals as goal

pub unwrap-place-requires : goal.unwrap-place-requires
unwrap-place-requires c = ap is_some c.position.ensures ∙ known_place c.args.tree.now.nodes c.args.who c.requires.known

pub returns : goal.returns
returns c = λ queue is.
    c.first.ensures
    ∙ ap (λ (l : QueueState). option_map (λ (f : QueuedChild). f.who) (slice_get l.held 0)) c.index-queues-place.is
    ∙ ap (λ (l : QueueState). option_map (λ (f : QueuedChild). f.who) (slice_get l.held 0)) (line_there c.args.tree.now.nodes queue c.args.queues.now c.unwrap-place.result c.args.who c.index-queues-place.result is (sym c.unwrap-place.ensures ∙ c.position.ensures))
    ∙ first_of c.args.tree.now.nodes (queue c.args.who)
