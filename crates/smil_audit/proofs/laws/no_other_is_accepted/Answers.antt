use Rattle.smil_audit.proofs.OwnDiaryAccepted.{no_other_is_accepted}
use Rattle.smil_audit.proofs.laws.no_other_is_accepted.Goals as goal

pub returns : goal.returns
returns c = no_other_is_accepted
