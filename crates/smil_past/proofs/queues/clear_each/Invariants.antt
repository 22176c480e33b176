use Rattle.std.proofs.Common.{◌≡◌, ◌++◌, drop, map, take}
use Rattle.smil_past.specs.Queues.{emptied}
use Rattle.smil_past.proofs.queues.clear_each.Given as goal

abbrev pub invariant-loop-queue : goal.invariant-loop-queue
invariant-loop-queue l = l.queues ≡ map emptied (take l.queue-index l.initial.queues) ++ drop l.queue-index l.initial.queues
