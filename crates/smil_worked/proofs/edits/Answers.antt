use Rattle.std.proofs.Common.{refl}
use Rattle.smil_worked.proofs.edits.Goals as goal

pub returns : goal.returns
returns c = record { between = refl; behind = refl; removed = refl }
