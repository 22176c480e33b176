use Rattle.smil_sandwich.proofs.LayersSorted.{applied_is_stack}
use Rattle.smil_sandwich.proofs.laws.applied_is_stack.Goals as goal

pub returns : goal.returns
returns c = applied_is_stack
