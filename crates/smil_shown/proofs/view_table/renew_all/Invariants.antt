use Rattle.std.proofs.Common.{◌≡◌, take, map, length}
use Rattle.smil_model.specs.document.Document.{elements}
use Rattle.smil_shown.specs.Sets.{AreOfElements}
use Rattle.smil_shown.specs.ViewTable.{view_now}
use Rattle.smil_shown.proofs.view_table.renew_all.Given as goal

-- the first rows are the views of the first elements, and all are of the elements
abbrev pub invariant-loop-place : goal.invariant-loop-place
invariant-loop-place g l = record {
  taken : take l.place l.rows.items ≡ map (view_now l.cells) (take l.place (elements l.cells.presentation.document.nodes));
  owned : AreOfElements l.cells.presentation.document.nodes l.rows.items;
  count : length l.rows.items ≡ length l.fn.rows.items;
}
