use Rattle.smil_stretch.proofs.ClocksLeft.{others_leave}
use Rattle.smil_stretch.proofs.laws.other_entries_leave_clocks.Goals as goal

pub returns : goal.returns
returns c = others_leave
