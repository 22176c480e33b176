use Rattle.smil_laws.proofs.LargerLimits.{opening_same}
use Rattle.smil_laws.proofs.laws.openings_migrate.Goals as goal

pub returns : goal.returns
returns c = λ small large document below. opening_same small large below document
