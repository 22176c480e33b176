use Rattle.std.proofs.Common.{refl}
use Rattle.smil_worked.proofs.reaches.Goals as goal

pub returns : goal.returns
returns c = record { root = refl; branch = refl; image = refl }
