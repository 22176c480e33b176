use Rattle.smil_audit_laws.proofs.EntryRoundTrip.{entry_read, now_read}
use Rattle.smil_audit_laws.proofs.WrittenDiaryAccepted.{diaries_plain}
use Rattle.smil_audit_laws.proofs.laws.entry_lines_are_read_again.Goals as goal

pub returns : goal.returns
returns c = record { entries = entry_read; now = now_read; plain = diaries_plain }
