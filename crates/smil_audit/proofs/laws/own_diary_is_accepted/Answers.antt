use Rattle.smil_audit.proofs.OwnDiaryAccepted.{own_diary_is_accepted}
use Rattle.smil_audit.proofs.laws.own_diary_is_accepted.Goals as goal

pub returns : goal.returns
returns c = own_diary_is_accepted
