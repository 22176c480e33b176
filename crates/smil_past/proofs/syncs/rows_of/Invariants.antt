use Rattle.std.proofs.Common.{◌≡◌, take, map}
use Rattle.smil_model.specs.document.Document.{elements}
use Rattle.smil_past.specs.Syncs.{sync_row}
use Rattle.smil_past.proofs.syncs.rows_of.Given as goal

-- the rows of the first elements
abbrev pub invariant-loop-place : goal.invariant-loop-place
invariant-loop-place l = l.rows.items ≡ map (sync_row l.tree.nodes) (take l.place (elements l.tree.nodes))
