use Rattle.std.proofs.Common.{◌≡◌, List, [], length, take, map}
use Rattle.smil_model.specs.declared.diary.LogEntry.{LogEntry}
use Rattle.smil_model.specs.declared.document.Node.{Node}
use Rattle.smil_model.specs.document.Document.{Document}
use Rattle.smil_instance_rows.specs.Cells.{side_of}
use Rattle.smil_instances.specs.SettledTimes.{instances_of}
use Rattle.smil_instances.specs.Dependents.{AreDependentsOf}
use Rattle.smil_instances.specs.Idle.{IsListOf, with_items}
use Rattle.smil_instances.specs.Intake.{history_of}
use Rattle.smil_instances.proofs.idle.push_list.Given as goal

-- the row with the first items
abbrev pub invariant-loop-at : goal.invariant-loop-at
invariant-loop-at l =
    (length (side_of l.row l.side) ≡ l.at)
    × ((document : Document) (log : List LogEntry) (e : Node) → AreDependentsOf document.nodes l.sources.dependents.now → IsListOf document.nodes l.sources.place e l.side l.fn.items → l.row ≡ with_items l.fn.row l.side (map (instances_of (history_of document log []) e l.side) (take l.at l.fn.items)))
