use Rattle.std.proofs.Common.{refl}
use Rattle.smil_worked.proofs.self_reference.Goals as goal

pub returns : goal.returns
returns c = record { step_1 = refl }
