use Rattle.std.proofs.Common.{◌≡◌, ◌∙◌, ap, sym, List, Some, ◌+◌, ◌++◌, [], ◌∷◌, length, map, take, arith}
use Rattle.std.specs.Prelude.{slice_get}
use Rattle.std.proofs.lemmas.List.{take_all}
use Rattle.std.proofs.lemmas.Option.{slice_get-get_or}
use Rattle.smil_model.specs.declared.document.Item.{Item}
use Rattle.smil_instance_rows.specs.Cells.{side_of}
use Rattle.smil_instance_rows.specs.Rows.{ElementTimes}
use Rattle.smil_instances.specs.SettledTimes.{instances_of}
use Rattle.smil_instances.specs.Idle.{idle_kept, with_items}
use Rattle.smil_instances.specs.Intake.{history_of}
use Rattle.smil_instances.proofs.ListsMade.{map_next}
use Rattle.smil_instances.proofs.StartingRows.{items_grow, more_items, source_here}
use Rattle.smil_instances.proofs.idle.push_list.Goals as goal

pub loop-at-preserved : goal.loop-at-preserved
loop-at-preserved c =
    let side = c.args.side in
    let row = c.loop-at.row in
    let i = c.loop-at.at in
    let items = c.args.items.now in
    let item = c.item-item.result in
    let new = c.in_ok-push_item.ensures in (
      ap (λ (r : ElementTimes). length (side_of r side)) new ∙ items_grow row side _ ∙ ap (λ n. n + 1) c.loop-at.invariant.0,
      λ document log e are list.
          let kept = instances_of (history_of document log []) e side in
          let there : slice_get items i ≡ Some item =
          ap (λ (xs : List Item). slice_get xs i) (sym c.slice-item-items.ensures) ∙ slice_get-get_or c.slice-item-items.result.now i item c.loop-at-test.true ∙ ap Some (sym c.item-item.is) in
          new
          ∙ ap (λ (r : ElementTimes). with_items r side (idle_kept c.idle_time-time.result ∷ [])) (c.loop-at.invariant.1 document log e are list)
          ∙ more_items c.args.row.now side (map kept (take i items)) _
          ∙ ap (λ ks. with_items c.args.row.now side (map kept (take i items) ++ ks ∷ []))
          (sym (c.idle_time-time.ensures document log e (c.source-source.ensures ∙ source_here document.nodes c.args.sources.now.dependents.now _ e item are list.here (ap (λ is. slice_get is i) (sym list.same) ∙ there))))
          ∙ ap (with_items c.args.row.now side) (sym (map_next kept items i item there)),
    )

pub returns : goal.returns
returns c = λ document log e are list.
    let many = ap (λ (xs : List Item). length xs) c.slice-item-items.ensures in
    c.loop-at.invariant.1 document log e are list
    ∙ ap (λ is. with_items c.args.row.now c.args.side (map (instances_of (history_of document log []) e c.args.side) is)) (take_all c.loop-at.at c.args.items.now (omega (arith, many, c.loop-at-test.false)))
