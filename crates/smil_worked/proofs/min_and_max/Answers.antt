use Rattle.std.proofs.Common.{refl}
use Rattle.smil_worked.proofs.min_and_max.Goals as goal

pub returns : goal.returns
returns c = record { step_1 = refl }
