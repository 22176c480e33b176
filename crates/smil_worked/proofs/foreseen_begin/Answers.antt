use Rattle.std.proofs.Common.{refl}
use Rattle.smil_worked.proofs.foreseen_begin.Goals as goal

pub returns : goal.returns
returns c = record { step_1 = refl; step_2 = refl; click = refl; step_3 = refl }
