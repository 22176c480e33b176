use Rattle.std.proofs.Common.{◌≡◌, List, [], map, take}
use Rattle.smil_model.specs.declared.diary.LogEntry.{LogEntry}
use Rattle.smil_model.specs.document.Document.{elements}
use Rattle.smil_instances.specs.SettledTimes.{row_of}
use Rattle.smil_instances.specs.Intake.{history_of}
use Rattle.smil_instances.proofs.idle.idle_list.Given as goal

-- the rows of the first elements
abbrev pub invariant-loop-place : goal.invariant-loop-place
invariant-loop-place l =
    (log : List LogEntry) → l.rows.items ≡ map (row_of (history_of l.tree log [])) (take l.place (elements l.tree.nodes))
