use Rattle.std.proofs.Common.{◌≡◌, sym, ◌∙◌, ap, Some}
use Rattle.std.specs.Prelude.{bytes_eq, slice_get}
use Rattle.std.specs.HashMap.{get_by}
use Rattle.std.proofs.lemmas.Option.{slice_get-get_or}
use Rattle.smil_model.specs.document.Closure.{has}
use Rattle.smil_graph.specs.Places.{named_off_level}
use Rattle.smil_graph.proofs.RowsBuilt.{leads_more}
use Rattle.smil_graph.proofs.followers.push_unlooped.Goals as goal

pub loop-item-preserved : goal.loop-item-preserved
loop-item-preserved c =
    let i = c.loop-item.item-index in
    let item = c.item-item.result in
    let items = c.slice-item-items.result.now in
    let at : slice_get items i ≡ Some item = slice_get-get_or items i item c.loop-item-test.true ∙ ap Some (sym c.item-item.is) in
    λ k.
    leads_more (named_off_level c.args.loops.now.levels.now (λ id. get_by (λ key. bytes_eq id key.now) c.args.loops.now.ids.now) c.args.place) items i item c.named_off_level.result k (has c.args.row.now k) (has c.loop-item.row k) (has c.push_one.new.row k) at c.named_off_level.ensures (c.loop-item.invariant k) (c.in_ok-push_one.ensures k)
