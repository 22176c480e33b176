use Rattle.smil_concern_laws.proofs.UnconcernedEnds.{leaves_ends}
use Rattle.smil_concern_laws.proofs.laws.unconcerned_ends_stay.Goals as goal

pub returns : goal.returns
returns c = λ h entries c. leaves_ends h entries c
