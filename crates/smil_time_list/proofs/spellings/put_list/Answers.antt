use Rattle.std.proofs.Common.{◌∙◌, ◌++◌, ap}
use Rattle.smil_model.specs.declared.document.Item.{Item}
use Rattle.smil_time_list.specs.Joined.{next_text}
use Rattle.smil_time_list.proofs.ItemJoins.{one_more}
use Rattle.smil_time_list.proofs.spellings.put_list.Goals as goal

pub loop-index-preserved : goal.loop-index-preserved
loop-index-preserved c =
    let all = c.slice-item-items in
    let index = c.loop-index.index in
    let so_far = c.loop-index.out in
    one_more c.args.out.now so_far c.put_next.new.out all.result.now c.args.items.now index c.item-item.result all.ensures c.loop-index-test.true c.loop-index.invariant
    (c.in_ok-put_next.ensures.ok ∙ ap (λ (x : Item). so_far ++ next_text index x) c.item-item.is)
