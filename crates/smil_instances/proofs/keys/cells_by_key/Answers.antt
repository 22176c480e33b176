use Rattle.std.proofs.Common.{◌≡◌, subst, ◌+◌, [], length, arith}
use Rattle.smil_model.specs.declared.document.Edge.TheVariants.{Begin, End}
use Rattle.smil_instances.specs.Keys.{TakesKeys, first_row_keys, is_for_key, row_keys, side_keys}
use Rattle.smil_instances.proofs.KeyCells.{all_keyed, keys_then}
use Rattle.smil_instances.proofs.CellSpreading.{both_sides, row_there, rows_next}
use Rattle.smil_instances.proofs.keys.cells_by_key.Goals as goal

pub loop-row-preserved : goal.loop-row-preserved
loop-row-preserved c =
    let rows = c.args.rows.now in
    let row = c.loop-row.row in
    let at = row_there rows row c.index-rows-row.result c.index-rows-row.is c.loop-row-test.true in
    keys_then (first_row_keys rows row) (row_keys rows row) (first_row_keys rows (row + 1)) [] c.loop-row.keys.items c.note_side-in-loop-row.new.keys.items c.loop-row.invariant
    (keys_then (side_keys rows row Begin) (side_keys rows row End) (row_keys rows row) c.loop-row.keys.items c.note_side.new.keys.items c.note_side-in-loop-row.new.keys.items (c.in_ok-note_side.ensures rows at) (c.in_ok-note_side-2.ensures rows at) (λ key. both_sides row (is_for_key rows key)))
    (λ key. rows_next row (is_for_key rows key))

pub returns : goal.returns
returns c =
    let rows = c.args.rows.now in
    let end' : c.loop-row.row ≡ length rows = omega (arith, c.loop-row-test.false, c.loop-row.auto.row-end) in
    all_keyed rows c.loop-row.keys.items (subst (λ k. TakesKeys (first_row_keys rows k) [] c.loop-row.keys.items) end' c.loop-row.invariant)
