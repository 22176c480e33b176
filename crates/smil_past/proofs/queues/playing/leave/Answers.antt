use Rattle.std.proofs.Common.{◌∙◌}
use Rattle.smil_past.specs.Queues.{without_play}
use Rattle.smil_past.proofs.PlayingChildren.{excl_absent, has_left, left_others}
use Rattle.smil_past.proofs.queues.playing.leave.Goals as goal

pub returns-in-Some : goal.returns-in-Some
returns-in-Some c = λ plays is.
    has_left c.args.tree.now.nodes c.args.who c.valid.ensures.numbered.distinct c.requires.known plays c.args.playing.now c.in-Some.place c.index-playing-place.result c.leave.new.self c.in-Some.ensures is c.leave.ensures.rest

pub returns-in_default : goal.returns-in_default
returns-in_default c = λ plays is.
    is ∙ excl_absent c.args.tree.now.nodes c.args.who c.valid.ensures.numbered.distinct c.requires.known plays (without_play c.args.who plays) (left_others c.args.tree.now.nodes c.args.who plays) c.in_default.ensures
