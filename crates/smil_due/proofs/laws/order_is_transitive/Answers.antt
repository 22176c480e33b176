use Rattle.smil_due.proofs.KeyOrder.{transitive}
use Rattle.smil_due.proofs.laws.order_is_transitive.Goals as goal

pub returns : goal.returns
returns c = transitive
