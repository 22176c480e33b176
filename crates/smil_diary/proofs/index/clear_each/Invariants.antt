use Rattle.std.proofs.Common.{◌≡◌, ◌++◌, drop, map, take}
use Rattle.smil_diary.specs.ElementPlaces.{cleared}
use Rattle.smil_diary.proofs.index.clear_each.Given as goal

-- the rows before this one are cleared
abbrev pub invariant-loop-row : goal.invariant-loop-row
invariant-loop-row l = l.elements ≡ map cleared (take l.row-index l.initial.elements) ++ drop l.row-index l.initial.elements
