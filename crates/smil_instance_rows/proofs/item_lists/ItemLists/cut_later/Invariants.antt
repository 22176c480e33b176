use Rattle.std.proofs.Common.{◌≡◌, ◌++◌, drop, map, take}
use Rattle.smil_instance_rows.specs.Rows.{before_place}
use Rattle.smil_instance_rows.proofs.item_lists.ItemLists.cut_later.Given as goal

abbrev pub invariant-loop-item : goal.invariant-loop-item
invariant-loop-item g l = l.self ≡ map (before_place l.place) (take l.item l.initial.self) ++ drop l.item l.initial.self
