use Rattle.std.proofs.Common.{refl}
use Rattle.smil_worked.proofs.looped_by_edit.Goals as goal

pub returns : goal.returns
returns c = record { step_1 = refl; step_2 = refl; unset = refl; step_3 = refl }
