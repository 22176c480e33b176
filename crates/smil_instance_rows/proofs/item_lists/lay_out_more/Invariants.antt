use Rattle.std.proofs.Common.{◌≡◌, ◌+◌, ◌-◌, length}
use Rattle.smil_instance_rows.specs.Values.{with_idle}
use Rattle.smil_instance_rows.proofs.item_lists.lay_out_more.Given as goal

-- all items are as before
abbrev pub invariant-loop-items : goal.invariant-loop-items
invariant-loop-items l = with_idle l.idle l.items.items ≡ with_idle l.initial.idle l.initial.items.items

abbrev pub decreases-loop-items : goal.decreases-loop-items
decreases-loop-items l = l.item + 1 - length l.items.items
