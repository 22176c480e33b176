use Rattle.std.proofs.Common.{refl}
use Rattle.smil_worked.proofs.freeze_in_seq.Goals as goal

pub returns : goal.returns
returns c = record { step_1 = refl; step_2 = refl }
