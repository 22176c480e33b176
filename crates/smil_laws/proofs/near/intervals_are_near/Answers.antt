use Rattle.smil_laws.proofs.NearIntervals.{interval_near}
use Rattle.smil_laws.proofs.near.intervals_are_near.Goals as goal

pub returns : goal.returns
returns c = interval_near
