use Rattle.std.proofs.Common.{◌≡◌, sym, ◌∙◌, ap, Some}
use Rattle.std.specs.Prelude.{bytes_eq, slice_get}
use Rattle.std.specs.HashMap.{get_by}
use Rattle.std.proofs.lemmas.Option.{slice_get-get_or}
use Rattle.smil_model.specs.declared.document.Item.{Item}
use Rattle.smil_graph.specs.Places.{is_on_level, named_by}
use Rattle.smil_graph.proofs.RowsBuilt.{marks_more}
use Rattle.smil_graph.proofs.looped.push_marks.Goals as goal

pub loop-item-preserved : goal.loop-item-preserved
loop-item-preserved c =
    let i = c.loop-item.item-index in
    let item = c.item-item.result in
    let items = c.slice-item-items.result.now in
    let at : slice_get items i ≡ Some item = slice_get-get_or items i item c.loop-item-test.true ∙ ap Some (sym c.item-item.is) in
    let marked = λ (x : Item). is_on_level c.args.loops.now.levels.now c.args.place (named_by (λ id. get_by (λ k. bytes_eq id k.now) c.args.loops.now.ids.now) x) in
    let mark : c.is_on_level.result ≡ marked item = rw (← c.named_by.ensures) c.is_on_level.ensures in
    marks_more marked items i item c.is_on_level.result c.args.row.now c.loop-item.row c.push.new.self at mark c.loop-item.invariant c.in_ok-push.ensures.ok
