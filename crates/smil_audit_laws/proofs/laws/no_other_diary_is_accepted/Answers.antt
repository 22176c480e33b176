use Rattle.smil_audit_laws.proofs.OnlyOwnDiary.{no_other, only_own}
use Rattle.smil_audit_laws.proofs.laws.no_other_diary_is_accepted.Goals as goal

pub returns : goal.returns
returns c = record { one = no_other; own = only_own }
