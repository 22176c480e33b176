use Rattle.std.proofs.Common.{◌<◌, length, arith, slice_index_or}
use Rattle.smil_graph.proofs.PlaceLists.{has_get}
use Rattle.smil_graph.proofs.components.mark_all.Goals as goal

pub index_mut-requires : goal.index_mut-requires
index_mut-requires c =
    let low : slice_index_or c.args.places.now c.loop-place.place-index 0 < length c.args.marks.now.items = c.requires _ (has_get c.args.places.now c.loop-place.place-index (omega arith)) in
    omega (arith, c.loop-place.invariant.count)
