use Rattle.smil_laws.proofs.GroupEntries.{group_filled}
use Rattle.smil_laws.proofs.resolved.groups_have_an_entry.Goals as goal

pub returns : goal.returns
returns c = λ h moment serial change. group_filled h moment serial change
