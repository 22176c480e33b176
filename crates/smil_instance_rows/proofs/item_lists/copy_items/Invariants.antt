use Rattle.std.proofs.Common.{◌≡◌, take}
use Rattle.smil_instance_rows.proofs.item_lists.copy_items.Given as goal

-- the copy has the elements before the present one
abbrev pub invariant-loop-item : goal.invariant-loop-item
invariant-loop-item l = l.copies.items ≡ take l.item-index l.items
