use Rattle.std.proofs.Common.{◌≡◌, sym, ap, ◌∙◌, ◌<◌, ◌≤◌, List, Some, get_or, length, arith, ◌+◌}
use Rattle.std.specs.Prelude.{slice_get}
use Rattle.std.proofs.lemmas.Option.{slice_get-get_or, slice_get_within}
use Rattle.smil_instances.specs.declared.source.Source.{Source}
use Rattle.smil_instances.specs.declared.source.Source.TheVariants as source
use Rattle.smil_instances.specs.Dependents.{source_in, source_or, source_under, sources_of}
use Rattle.smil_instances.specs.Keys.{first_keys, goes_to_key, is_for_key, side_keys}
use Rattle.smil_instances.specs.Spread.{one_if}
use Rattle.smil_instances.proofs.KeyCells.{all_of_side, by_rows, keys_none, keys_same, keys_then}
use Rattle.smil_instances.proofs.CellSpreading.{items_next, no_items}
use Rattle.smil_instances.proofs.keys.note_side.Goals as goal

pub loop-item-init : goal.loop-item-init
loop-item-init c = λ rows at.
    keys_none (first_keys rows c.args.row c.args.side 0) c.args.keys.now.items (λ key d. no_items c.args.row c.args.side (is_for_key rows key) d)

pub loop-item-preserved : goal.loop-item-preserved
loop-item-preserved c = λ rows at.
    let row = c.args.row in
    let side = c.args.side in
    let item = c.loop-item.item in
    let all = c.sources-source-items.result.now in
    let s = get_or all item source.Start in
    let read : slice_get (sources_of c.args.own.now side) item ≡ Some s =
    ap (λ (ss : List Source). slice_get ss item) (sym c.sources-source-items.ensures) ∙ slice_get-get_or all item source.Start c.loop-item-test.true in
    let is : s ≡ source_in rows (record { row = row; side = side; item = item }) =
    sym (ap source_or read) ∙ sym (ap (source_under (record { row = row; side = side; item = item })) at) in
    keys_then (first_keys rows row side item) (goes_to_key s (record { row = row; side = side; item = item })) (first_keys rows row side (item + 1))
    c.args.keys.now.items c.loop-item.keys.items c.note_key.new.keys.items (c.loop-item.invariant rows at) c.in_ok-note_key.ensures
    (λ key d. ap (λ t. one_if (first_keys rows row side item key d) + one_if t) (by_rows rows s (record { row = row; side = side; item = item }) is key d) ∙ items_next row side item (is_for_key rows key) d)

pub returns : goal.returns
returns c = λ rows at.
    let own = c.args.own.now in
    let row = c.args.row in
    let below : row < length rows = slice_get_within rows row own at in
    let both : Some own ≡ Some (get_or rows row own) = sym at ∙ slice_get-get_or rows row own below in
    let is : own ≡ get_or rows row own = cc in
    let same : length c.sources-source-items.result.now ≡ length (sources_of own c.args.side) = ap length c.sources-source-items.ensures in
    let most : length (sources_of own c.args.side) ≤ c.loop-item.item = omega (arith, same, c.loop-item-test.false) in
    keys_same (first_keys rows row c.args.side c.loop-item.item) (side_keys rows row c.args.side) c.args.keys.now.items c.loop-item.keys.items (c.loop-item.invariant rows at)
    (all_of_side rows row c.args.side own c.loop-item.item is below most)
