use Rattle.std.proofs.Common.{◌≡◌, take, map}
use Rattle.smil_model.specs.document.Document.{elements}
use Rattle.smil_shown.specs.ViewTable.{view_now}
use Rattle.smil_shown.proofs.view_table.views_of.Given as goal

-- the views of the first elements
abbrev pub invariant-loop-who : goal.invariant-loop-who
invariant-loop-who g l = l.views.items ≡ map (view_now l.cells) (take l.who-index (elements l.cells.presentation.document.nodes))
