use Rattle.smil_due.proofs.KeyOrder.{irreflexive}
use Rattle.smil_due.proofs.laws.order_is_irreflexive.Goals as goal

pub returns : goal.returns
returns c = irreflexive
