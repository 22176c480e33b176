use Rattle.smil_due.proofs.KeyOrder.{total}
use Rattle.smil_due.proofs.laws.order_is_total.Goals as goal

pub returns : goal.returns
returns c = total
