use Rattle.std.proofs.Common.{◌∙◌, ap, sym, ◌++◌, [], ◌∷◌}
use Rattle.smil_instance_rows.specs.Cells.{list_of, with_list}
use Rattle.smil_instance_rows.specs.Rows.{ElementTimes, instance_at}
use Rattle.smil_instances.specs.Idle.{idle_kept, with_items}
use Rattle.smil_instances.proofs.StartingRows.{item_added, on_ok}
use Rattle.smil_instances.proofs.idle.push_item.Goals as goal

pub returns-in-Some : goal.returns-in-Some
returns-in-Some c =
    let row = c.args.row.now in
    let side = c.args.side in
    let kept = instance_at 0 c.in-Some.time in
    on_ok c.add.result c.add.ensures.ok (λ q.
    q
    ∙ ap (λ (r : ElementTimes). with_list r side c.args.item (list_of r side c.args.item ++ kept ∷ [])) c.in_ok-push_item.ensures.ok
    ∙ item_added row side c.args.item kept c.requires
    ∙ ap (λ t. with_items row side (idle_kept t ∷ [])) (sym c.in-Some.is))
