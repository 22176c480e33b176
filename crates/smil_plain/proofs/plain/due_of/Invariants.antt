use Rattle.std.proofs.Common.{◌≡◌, take}
use Rattle.smil_rounds.specs.Round.{due_in}
use Rattle.smil_plain.proofs.plain.due_of.Given as goal

-- the keys of the first rows
abbrev pub invariant-loop-row : goal.invariant-loop-row
invariant-loop-row l = l.due ≡ due_in (take l.row-index l.rows)
