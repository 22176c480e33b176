use Rattle.std.proofs.Common.{◌≡◌, ◌<◌, sym, ◌∙◌, ap, subst, List, length}
use Rattle.std.specs.Prelude.{slice_set}
use Rattle.std.proofs.lemmas.Result.{on_ok_weaker}
use Rattle.smil_instances.specs.declared.source.Source.{Source}
use Rattle.smil_instances.specs.declared.source.Source.TheVariants as source
use Rattle.smil_instance_rows.specs.declared.cell.Cell.{Cell}
use Rattle.smil_instances.specs.Keys.{TakesKeys, goes_to_key}
use Rattle.smil_instances.proofs.KeyCells.{key_pushed}
use Rattle.smil_instances.proofs.keys.note_key.Goals as goal

pub returns-in_ok-make_room-in-Key : goal.returns-in_ok-make_room-in-Key
returns-in_ok-make_room-in-Key c =
    let old = c.args.keys.now.items in
    let keys = c.make_room.new.keys.items in
    let place = c.from-place.result in
    let same : c.args.source ≡ source.Key place = c.in-Key.is ∙ ap source.Key (sym c.from-place.ensures) in
    let pushed = key_pushed old keys place c.index_mut.result.now c.args.cell c.in_ok-make_room-in-Key.ensures.same (subst (λ n. n < length keys) (sym c.from-place.ensures) c.in_ok-make_room-in-Key.ensures.room) c.index_mut.ensures.value in
    on_ok_weaker c.push.result
    (λ is.
    subst (λ (s : Source). TakesKeys (goes_to_key s c.args.cell) old (slice_set keys place c.push.new.self)) (sym same)
    (subst (λ (cells : List Cell). TakesKeys (goes_to_key (source.Key place) c.args.cell) old (slice_set keys place cells)) (sym is) pushed))
    c.push.ensures.ok
