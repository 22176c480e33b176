use Rattle.smil_laws.proofs.QuietResolution.{same_later}
use Rattle.smil_laws.proofs.laws.quiet_changes_nothing.Goals as goal

pub returns : goal.returns
returns c = same_later
