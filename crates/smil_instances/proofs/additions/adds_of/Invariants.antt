use Rattle.std.proofs.Common.{◌≡◌, List, [], ◌∷◌, ◌++◌, take}
use Rattle.smil_model.specs.declared.diary.Entry.{Entry}
use Rattle.smil_instances.specs.Intake.{adds_to, history_of}
use Rattle.smil_instances.proofs.additions.adds_of.Given as goal

abbrev pub invariant-loop-cell : goal.invariant-loop-cell
invariant-loop-cell l =
    (before : List Entry) (y : Entry) → l.arrival.history.book.now ≡ before ++ y ∷ []
    → l.adds.items ≡ adds_to (history_of l.arrival.history.tree.now l.arrival.history.log.now before) y (take l.cell-index l.cells)
