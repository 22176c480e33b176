use Rattle.std.proofs.Common.{◌≡◌, ℕ, List, [], take}
use Rattle.smil_model.specs.diary.Diary.{History, up_to}
use Rattle.smil_model.specs.diary.Lawful.{IsLawful}
use Rattle.smil_model.specs.document.Words.{Begins}
use Rattle.smil_report.specs.Words.{who_of}
use Rattle.smil_shown.specs.Histories.{IsTold}
use Rattle.smil_shown.proofs.interval_teller.IntervalTeller.follow_all.Given as goal

-- what is told after the entries so far
abbrev pub invariant-loop-entry : goal.invariant-loop-entry
invariant-loop-entry l = record {
  told : (h : History) (start : List ℕ) → h.diary ≡ l.book → IsLawful h → IsTold (up_to h []) (who_of l.name) start l.fn.self l.fn.out → IsTold (up_to h (take l.entry-index h.diary)) (who_of l.name) start l.self l.out;
  who : l.self.who ≡ l.fn.self.who;
  begins : Begins l.fn.out l.out;
}
