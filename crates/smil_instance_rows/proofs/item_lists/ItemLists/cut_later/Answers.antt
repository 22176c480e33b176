use Rattle.std.proofs.Common.{◌≡◌, ◌∙◌, ◌+◌, ◌<◌, ◌++◌, [], sym, ap, length, map, take, drop, arith}
use Rattle.smil_instance_rows.specs.Rows.{before_place}
use Rattle.smil_instance_rows.proofs.IdleItems.{before_rest, long_idle}
use Rattle.smil_instance_rows.proofs.Noted.{over_next}
use Rattle.smil_instance_rows.proofs.item_lists.ItemLists.cut_later.Goals as goal

pub loop-item-preserved : goal.loop-item-preserved
loop-item-preserved g c =
    let whole : length c.self.inside.items.items + c.self.inside.idle ≡ length c.args.self.now = sym (long_idle c.self.inside.idle c.self.inside.items.items) ∙ ap length c.self.view_is in
    let inside : c.loop-item.item < length c.args.self.now = omega (arith, c.loop-item-test.true, c.len-item-end.ensures.value, whole) in
    c.cut_later_at.ensures
    ∙ over_next (before_place c.args.place) c.args.self.now c.loop-item.self c.loop-item.item [] inside c.loop-item.invariant

pub returns : goal.returns
returns g c =
    c.loop-item.invariant
    ∙ ap (λ xs. map (before_place c.args.place) (take c.loop-item.item xs) ++ drop c.loop-item.item xs) (sym c.self.view_is)
    ∙ before_rest c.args.place c.loop-item.item c.self.inside.idle c.self.inside.items.items (omega (arith, c.loop-item-test.false, c.len-item-end.ensures.value))
    ∙ ap (map (before_place c.args.place)) c.self.view_is
