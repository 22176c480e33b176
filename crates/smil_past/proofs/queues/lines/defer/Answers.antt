use Rattle.std.proofs.Common.{◌∙◌}
use Rattle.smil_model.specs.happening.Queue.{put_deferred}
use Rattle.smil_excl.specs.QueueState.{deferred_after}
use Rattle.smil_excl.proofs.QueuePlaces.{deferred_is_put}
use Rattle.smil_past.proofs.QueuePut.{child_absent, put_there, room_there}
use Rattle.smil_past.proofs.queues.lines.defer.Goals as goal

pub defer-requires : goal.defer-requires
defer-requires c = room_there c.args.tree.now.nodes c.args.who c.in-Some.place c.args.queues.now c.index-queues-place.result c.in-Some.ensures c.requires.room

pub returns-in-Some : goal.returns-in-Some
returns-in-Some c = λ queue is.
    let nodes = c.args.tree.now.nodes in
    let who = c.args.who in
    put_there nodes who c.in-Some.place c.args.queues.now c.index-queues-place.result c.in-Some.ensures deferred_after (put_deferred nodes who) (deferred_is_put nodes who) c.args.rank c.defer.new.self queue c.valid.ensures.numbered.distinct is c.requires.rank c.defer.ensures

pub returns-in_default : goal.returns-in_default
returns-in_default c = λ queue is.
    is ∙ child_absent c.args.tree.now.nodes c.args.who (put_deferred c.args.tree.now.nodes c.args.who) queue c.in_default.ensures
