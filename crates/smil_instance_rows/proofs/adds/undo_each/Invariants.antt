use Rattle.std.proofs.Common.{◌≡◌, ◌-◌, take, length, List}
use Rattle.smil_instance_rows.specs.Rows.{ElementTimes}
use Rattle.smil_instance_rows.specs.Changes.{with_adds, IsMade}
use Rattle.smil_instance_rows.proofs.adds.undo_each.Given as goal

-- the adds but the last are made
abbrev pub invariant-loop-add : goal.invariant-loop-add
invariant-loop-add l = (before : List ElementTimes) → IsMade l.initial.rows l.adds l.made before → l.rows ≡ with_adds before (take (l.made - length l.yielded) l.adds)
