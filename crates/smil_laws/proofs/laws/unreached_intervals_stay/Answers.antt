use Rattle.smil_laws.proofs.UnreachedIntervals.{leaves_beyond_reach}
use Rattle.smil_laws.proofs.laws.unreached_intervals_stay.Goals as goal

pub returns : goal.returns
returns c = λ h y now s first out. leaves_beyond_reach h first y now s out
