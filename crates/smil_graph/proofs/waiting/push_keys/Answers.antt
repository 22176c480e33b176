use Rattle.std.proofs.Common.{◌≡◌, sym, ◌∙◌, ap, Some}
use Rattle.std.specs.Prelude.{slice_get}
use Rattle.std.proofs.lemmas.Option.{slice_get-get_or}
use Rattle.smil_graph.proofs.KeyRows.{with_item}
use Rattle.smil_graph.proofs.waiting.push_keys.Goals as goal

pub loop-item-preserved : goal.loop-item-preserved
loop-item-preserved c =
    let i = c.loop-item.item-index in
    let item = c.item-item.result in
    let items = c.slice-item-items.result.now in
    let at : slice_get items i ≡ Some item = slice_get-get_or items i item c.loop-item-test.true ∙ ap Some (sym c.item-item.is) in
    with_item items i item c.args.place c.args.rows.now.items c.loop-item.rows.items c.push_key.new.rows.items at c.loop-item.invariant (rw c.key_of.ensures at c.in_ok-push_key.ensures)
