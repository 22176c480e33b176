use Rattle.std.proofs.Common.{◌≡◌, take}
use Rattle.smil_rounds.specs.Round.{keys_in}
use Rattle.smil_audit.proofs.replay.fill_keys.Given as goal

-- the keys of the first rows
abbrev pub invariant-loop-row : goal.invariant-loop-row
invariant-loop-row l = l.keys.items ≡ keys_in (take l.row-index l.rows)
