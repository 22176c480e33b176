use Rattle.std.proofs.Common.{◌≡◌, ◌≤◌}
use Rattle.smil_past.specs.Past.{history_of}
use Rattle.smil_plain.specs.Plain.{IsUnderWay}
use Rattle.smil_plain.proofs.plain.PlainTable.take_all.Given as goal

-- the first elements of the order are evaluated, and the mark stays
abbrev pub invariant-loop-who : goal.invariant-loop-who
invariant-loop-who g l =
    IsUnderWay (history_of l.past) l.moment l.who-items l.who-index l.fn.self.known l.self.known l.fn.changed l.changed
    × (l.self.noted ≡ l.fn.self.noted)
    × (l.self.has_mark ≡ l.fn.self.has_mark)
    × (l.fn.steps ≤ l.steps)
