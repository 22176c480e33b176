use Rattle.smil_sandwich.proofs.LayersSorted.{change_is_kept}
use Rattle.smil_sandwich.proofs.laws.change_is_kept.Goals as goal

pub returns : goal.returns
returns c = change_is_kept
