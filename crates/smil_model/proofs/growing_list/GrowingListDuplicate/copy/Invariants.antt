use Rattle.std.proofs.Common.{◌≡◌, take}
use Rattle.smil_model.proofs.growing_list.GrowingListDuplicate.copy.Given as goal

-- the copy has the elements before the present one
abbrev pub invariant-loop-item : goal.invariant-loop-item
invariant-loop-item g l = l.items.items ≡ take l.item-index l.item-items
