use Rattle.std.proofs.Common.{◌∙◌}
use Rattle.smil_model.specs.happening.Queue.{put_paused}
use Rattle.smil_excl.specs.QueueState.{paused_before}
use Rattle.smil_excl.proofs.QueuePlaces.{paused_is_put}
use Rattle.smil_past.proofs.QueuePut.{child_absent, put_there, room_there}
use Rattle.smil_past.proofs.queues.lines.pause.Goals as goal

pub pause-requires : goal.pause-requires
pause-requires c = room_there c.args.tree.now.nodes c.args.who c.in-Some.place c.args.queues.now c.index-queues-place.result c.in-Some.ensures c.requires.room

pub returns-in-Some : goal.returns-in-Some
returns-in-Some c = λ queue is.
    let nodes = c.args.tree.now.nodes in
    let who = c.args.who in
    put_there nodes who c.in-Some.place c.args.queues.now c.index-queues-place.result c.in-Some.ensures paused_before (put_paused nodes who) (paused_is_put nodes who) c.args.rank c.pause.new.self queue c.valid.ensures.numbered.distinct is c.requires.rank c.pause.ensures

pub returns-in_default : goal.returns-in_default
returns-in_default c = λ queue is.
    is ∙ child_absent c.args.tree.now.nodes c.args.who (put_paused c.args.tree.now.nodes c.args.who) queue c.in_default.ensures
