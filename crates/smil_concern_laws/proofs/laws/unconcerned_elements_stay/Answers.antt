use Rattle.smil_concern_laws.proofs.UnconcernedStay.{leaves_unconcerned}
use Rattle.smil_concern_laws.proofs.laws.unconcerned_elements_stay.Goals as goal

pub returns : goal.returns
returns c = λ h entries intervals now e. leaves_unconcerned h entries intervals now e
