use Rattle.std.proofs.Common.{refl}
use Rattle.smil_worked.proofs.fraction_of_repeat.Goals as goal

pub returns : goal.returns
returns c = record { step_1 = refl; step_2 = refl }
