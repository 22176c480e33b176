use Rattle.smil_laws.proofs.LargerLimits.{outcome_same}
use Rattle.smil_laws.proofs.laws.outcomes_migrate.Goals as goal

pub returns : goal.returns
returns c = λ small large formats p given below. outcome_same small large below formats p given
