use Rattle.std.proofs.Common.{refl}
use Rattle.smil_worked.proofs.ping_pong.Goals as goal

pub returns : goal.returns
returns c = record { step_1 = refl; step_2 = refl }
