use Rattle.std.proofs.Common.{take}
use Rattle.smil_model.specs.diary.Diary.{History, up_to}
use Rattle.smil_stretch.specs.Clocks.{IsHistoryOf, AreClocksOf}
use Rattle.smil_stretch.proofs.clocks.Clocks.of.Given as goal

-- the clocks after the entries so far
abbrev pub invariant-loop-entry : goal.invariant-loop-entry
invariant-loop-entry l = (h : History) → IsHistoryOf h l.tree l.book → AreClocksOf l.clocks (up_to h (take l.entry-index h.diary))
