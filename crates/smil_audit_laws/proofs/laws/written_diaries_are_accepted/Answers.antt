use Rattle.smil_audit_laws.proofs.WrittenDiaryAccepted.{written_accepted, written_read, written_right}
use Rattle.smil_audit_laws.proofs.laws.written_diaries_are_accepted.Goals as goal

pub returns : goal.returns
returns c = record { again = written_read; right = written_right; accepted = written_accepted }
