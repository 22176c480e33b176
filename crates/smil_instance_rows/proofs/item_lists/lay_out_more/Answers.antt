use Rattle.std.proofs.Common.{◌≡◌, ◌∙◌, [], ◌∷◌, ◌++◌, ◌-◌, ap, suc, length, arith}
use Rattle.smil_instance_rows.specs.Values.{with_idle}
use Rattle.smil_instance_rows.proofs.IdleItems.{laid_out, long_idle}
use Rattle.smil_instance_rows.proofs.item_lists.lay_out_more.Goals as goal

pub loop-items-preserved : goal.loop-items-preserved
loop-items-preserved c =
    let items = c.loop-items.items.items in
    let idle = c.loop-items.idle in
    let long = long_idle idle items in
    let same = ap length c.loop-items.invariant in
    let some : idle ≡ suc (idle - 1) = omega (arith, long, same, c.requires, c.loop-items-test.true, c.len.ensures.value) in
    ap (with_idle (idle - 1)) (c.in_ok-push.ensures.ok ∙ ap (λ list. items ++ list ∷ []) c.new.ensures)
    ∙ laid_out idle (idle - 1) items some
    ∙ c.loop-items.invariant
