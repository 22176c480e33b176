use Rattle.smil_past.proofs.SyncsExpected.{syncs_tell}
use Rattle.smil_past.proofs.syncs.laws.syncs_tell_expected.Goals as goal

pub returns : goal.returns
returns c = syncs_tell
