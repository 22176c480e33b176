use Rattle.smil_laws.proofs.GroupEntries.{group_closes}
use Rattle.smil_laws.proofs.resolved.groups_end_with_begins.Goals as goal

pub returns : goal.returns
returns c = λ h moment serial change before entry after. group_closes h moment serial change before entry after
