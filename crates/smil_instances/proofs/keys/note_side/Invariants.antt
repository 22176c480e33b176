use Rattle.std.proofs.Common.{◌≡◌, List, Some}
use Rattle.std.specs.Prelude.{slice_get}
use Rattle.smil_instances.specs.Dependents.{ElementDependents}
use Rattle.smil_instances.specs.Keys.{TakesKeys, first_keys}
use Rattle.smil_instances.proofs.keys.note_side.Given as goal

-- the first items of the side were noted
abbrev pub invariant-loop-item : goal.invariant-loop-item
invariant-loop-item l =
    (rows : List ElementDependents) → slice_get rows l.row ≡ Some l.own
    → TakesKeys (first_keys rows l.row l.side l.item) l.initial.keys.items l.keys.items
