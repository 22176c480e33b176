use Rattle.smil_laws.proofs.TouchedReached.{reaches_hold}
use Rattle.smil_laws.proofs.stays.reaches_hold.Goals as goal

pub returns : goal.returns
returns c = reaches_hold
