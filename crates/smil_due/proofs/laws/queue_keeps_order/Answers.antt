use Rattle.smil_due.proofs.KeyOrder.{keeps_order}
use Rattle.smil_due.proofs.laws.queue_keeps_order.Goals as goal

pub returns : goal.returns
returns c = keeps_order
