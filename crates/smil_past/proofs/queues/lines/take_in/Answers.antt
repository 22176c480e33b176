use Rattle.std.proofs.Common.{◌∙◌, inl, inr}
use Rattle.smil_model.specs.happening.Queue.{queue_of}
use Rattle.smil_past.specs.Queues.{without_children, without_child}
use Rattle.smil_past.proofs.QueuesAfterStep.{began_known, paused_known, deferred_known, leaving_known, paused_room, deferred_room, after_began, after_repeated, after_paused, after_deferred, after_leaving, after_other, began_without, deferred_without, ended_without}
use Rattle.smil_past.proofs.queues.lines.take_in.Goals as goal

pub leave-requires-clause-known : goal.leave-requires-clause-known
leave-requires-clause-known c = began_known _ _ _ _ c.requires.may.0 c.requires.may.1 c.in-Began.who c.in-Began.begin c.in-Began.is

pub class_at-requires-clause-known : goal.class_at-requires-clause-known
class_at-requires-clause-known c = paused_known _ _ _ _ c.requires.may.0 c.requires.may.1 c.in-Paused.who c.in-Paused.is

pub pause-requires-clause-known : goal.pause-requires-clause-known
pause-requires-clause-known c = paused_known _ _ _ _ c.requires.may.0 c.requires.may.1 c.in-Paused.who c.in-Paused.is

pub pause-requires-clause-room : goal.pause-requires-clause-room
pause-requires-clause-room c = paused_room _ _ _ _ c.requires.may.0 c.requires.may.1 c.in-Paused.who c.in-Paused.is

pub class_at-rank-requires-clause-known : goal.class_at-rank-requires-clause-known
class_at-rank-requires-clause-known c = deferred_known _ _ _ _ c.requires.may.0 c.requires.may.1 c.in-Deferred.who c.in-Deferred.begin c.in-Deferred.is

pub leave-requires-in-Deferred-clause-known : goal.leave-requires-in-Deferred-clause-known
leave-requires-in-Deferred-clause-known c = deferred_known _ _ _ _ c.requires.may.0 c.requires.may.1 c.in-Deferred.who c.in-Deferred.begin c.in-Deferred.is

pub defer-requires-clause-known : goal.defer-requires-clause-known
defer-requires-clause-known c = deferred_known _ _ _ _ c.requires.may.0 c.requires.may.1 c.in-Deferred.who c.in-Deferred.begin c.in-Deferred.is

pub defer-requires-clause-room : goal.defer-requires-clause-room
defer-requires-clause-room c = deferred_room _ _ _ _ c.requires.may.0 c.requires.may.1 c.in-Deferred.who c.in-Deferred.begin _ c.in-Deferred.is (c.leave-in-Deferred.ensures (queue_of c.requires.may.0) c.requires.may.1.value)

pub leave-requires-in-Resumed-clause-known : goal.leave-requires-in-Resumed-clause-known
leave-requires-in-Resumed-clause-known c = leaving_known _ _ _ _ c.requires.may.0 c.requires.may.1 c.in-Resumed.who (inl c.in-Resumed.is)

pub leave-requires-in-Ended-clause-known : goal.leave-requires-in-Ended-clause-known
leave-requires-in-Ended-clause-known c = leaving_known _ _ _ _ c.requires.may.0 c.requires.may.1 c.in-Ended.who (inr c.in-Ended.is)

pub leave-requires-clause-outside : goal.leave-requires-clause-outside
leave-requires-clause-outside c =
    began_without _ _ _ _ c.requires.may.0 c.requires.may.1 c.in-Began.who c.in-Began.begin _ c.in-Began.is (c.empty.ensures (queue_of c.requires.may.0) c.requires.may.1.value)

pub leave-requires-in-Deferred-clause-outside : goal.leave-requires-in-Deferred-clause-outside
leave-requires-in-Deferred-clause-outside c =
    deferred_without _ _ _ _ c.requires.may.0 c.requires.may.1 c.in-Deferred.who c.in-Deferred.begin c.in-Deferred.is

pub leave-requires-in-Ended-clause-outside : goal.leave-requires-in-Ended-clause-outside
leave-requires-in-Ended-clause-outside c =
    ended_without _ _ _ _ c.requires.may.0 c.requires.may.1 c.in-Ended.who c.in-Ended.is

pub returns-in-Began : goal.returns-in-Began
returns-in-Began c = λ h may.
    c.leave.ensures (without_children c.in-Began.who (queue_of h)) (c.empty.ensures (queue_of h) may.value) ∙ after_began _ _ _ _ h may c.in-Began.who c.in-Began.begin c.in-Began.is

pub returns-in-Repeated : goal.returns-in-Repeated
returns-in-Repeated c = λ h may.
    c.empty-in-Repeated.ensures (queue_of h) may.value ∙ after_repeated _ _ _ _ h may c.in-Repeated.who c.in-Repeated.start c.in-Repeated.is

pub returns-in-Paused : goal.returns-in-Paused
returns-in-Paused c = λ h may.
    c.pause.ensures (queue_of h) may.value ∙ after_paused _ _ _ _ h may c.in-Paused.who c.in-Paused.is

pub returns-in-Deferred : goal.returns-in-Deferred
returns-in-Deferred c = λ h may.
    c.defer.ensures (without_child c.args.tree.now.nodes c.in-Deferred.who (queue_of h)) (c.leave-in-Deferred.ensures (queue_of h) may.value) ∙ after_deferred _ _ _ _ h may c.in-Deferred.who c.in-Deferred.begin c.in-Deferred.is

pub returns-in-Resumed : goal.returns-in-Resumed
returns-in-Resumed c = λ h may.
    c.leave-in-Resumed.ensures (queue_of h) may.value ∙ after_leaving _ _ _ _ h may c.in-Resumed.who (inl c.in-Resumed.is)

pub returns-in-Ended : goal.returns-in-Ended
returns-in-Ended c = λ h may.
    c.leave-in-Ended.ensures (queue_of h) may.value ∙ after_leaving _ _ _ _ h may c.in-Ended.who (inr c.in-Ended.is)

pub returns-in-Passed : goal.returns-in-Passed
returns-in-Passed c = λ h may. may.value ∙ after_other _ _ _ _ h may c.in-Passed.is
