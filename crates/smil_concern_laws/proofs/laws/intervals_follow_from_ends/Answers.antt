use Rattle.smil_concern_laws.proofs.EndsLocality.{follow_from_ends}
use Rattle.smil_concern_laws.proofs.laws.intervals_follow_from_ends.Goals as goal

pub returns : goal.returns
returns c = λ h before after now e. follow_from_ends h before after now e
