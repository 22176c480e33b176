use Rattle.smil_sandwich.proofs.LayersSorted.{applied_are_kept}
use Rattle.smil_sandwich.proofs.laws.applied_are_kept.Goals as goal

pub returns : goal.returns
returns c = applied_are_kept
