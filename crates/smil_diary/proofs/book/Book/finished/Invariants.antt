use Rattle.std.proofs.Common.{◌≡◌, ◌≤◌, take}
use Rattle.smil_diary.specs.Tallies.{tally_of}
use Rattle.smil_diary.proofs.book.Book.finished.Given as goal

-- the tally after the entries so far
abbrev pub invariant-loop-entry : goal.invariant-loop-entry
invariant-loop-entry l = (l.tally ≡ tally_of l.fn.parent l.fn.who (take l.entry-index l.fn.self)) × (l.tally.finished ≤ l.entry-index)
