use Rattle.std.proofs.Common.{refl}
use Rattle.smil_worked.proofs.forgotten_event.Goals as goal

pub returns : goal.returns
returns c = record { step_1 = refl; step_2 = refl; step_3 = refl; step_4 = refl }
