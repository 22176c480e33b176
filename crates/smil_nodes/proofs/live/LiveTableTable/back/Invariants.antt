use Rattle.std.proofs.Common.{◌≡◌, length}
use Rattle.smil_nodes.specs.Marked.{back_from}
use Rattle.smil_nodes.proofs.live.LiveTableTable.back.Given as goal

-- the notes that are left to put back give the same
abbrev pub invariant-loop-noted : goal.invariant-loop-noted
invariant-loop-noted l =
    back_from l.self.undo l.self.schedule l.self.endings ≡ back_from l.fn.self.undo l.fn.self.schedule l.fn.self.endings

abbrev pub decreases-loop-noted : goal.decreases-loop-noted
decreases-loop-noted l = length l.self.undo
