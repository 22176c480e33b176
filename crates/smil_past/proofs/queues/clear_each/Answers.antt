use Rattle.std.proofs.Common.{◌∙◌, ap, set}
use Rattle.smil_instance_rows.proofs.Noted.{over_next}
use Rattle.smil_past.specs.Queues.{emptied}
use Rattle.smil_past.proofs.queues.clear_each.Goals as goal

pub loop-queue-preserved : goal.loop-queue-preserved
loop-queue-preserved c =
    ap (set c.loop-queue.queues c.loop-queue.queue-index) c.clear.ensures
    ∙ over_next emptied c.args.queues.now c.loop-queue.queues c.loop-queue.queue-index c.queue-item.result c.loop-queue-test.true c.loop-queue.invariant
