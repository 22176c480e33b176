use Rattle.smil_laws.proofs.QuietResolution.{jumped}
use Rattle.smil_laws.proofs.laws.quiet_may_be_jumped.Goals as goal

pub returns : goal.returns
returns c = jumped
