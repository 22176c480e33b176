use Rattle.std.proofs.Common.{◌≡◌, sym, ap, ◌∙◌, ◌<◌, ◌≤◌, length, arith}
use Rattle.std.proofs.lemmas.Option.{slice_get_within}
use Rattle.smil_model.specs.document.Document.{elements}
use Rattle.smil_instances.specs.Sources.{concerns_cell}
use Rattle.smil_instances.specs.Dependents.{ElementDependents, sources_of}
use Rattle.smil_instances.specs.Spread.{first_items, goes_to_all, side_items}
use Rattle.smil_instances.proofs.CellGrowth.{sources_stay, takes_none, takes_same, takes_then}
use Rattle.smil_instances.proofs.CellSpreading.{items_all, items_next, no_items}
use Rattle.smil_instances.proofs.fill.Index.fill_side.Goals as goal

pub loop-item-init : goal.loop-item-init
loop-item-init c = takes_none c.args.self.now.tree.now.nodes (first_items c.args.self.now.tree.now.nodes c.args.row c.args.side 0) c.args.rows.now (λ row x b d at. no_items c.args.row c.args.side (concerns_cell c.args.self.now.tree.now.nodes b x.serial) d)

pub fill_cell-requires-clause-sources : goal.fill_cell-requires-clause-sources
fill_cell-requires-clause-sources c = sources_stay c.args.self.now.tree.now.nodes (first_items c.args.self.now.tree.now.nodes c.args.row c.args.side c.loop-item.item) c.args.rows.now c.loop-item.rows c.loop-item.invariant c.requires.sources

pub loop-item-preserved : goal.loop-item-preserved
loop-item-preserved c =
    takes_then c.args.self.now.tree.now.nodes (first_items c.args.self.now.tree.now.nodes c.args.row c.args.side c.loop-item.item) (goes_to_all c.args.self.now.tree.now.nodes (record { row = c.args.row; side = c.args.side; item = c.loop-item.item })) _
    c.args.rows.now c.loop-item.rows c.fill_cell.new.rows c.loop-item.invariant c.in_ok-fill_cell.ensures
    (λ b x. items_next c.args.row c.args.side c.loop-item.item (concerns_cell c.args.self.now.tree.now.nodes b x))

pub returns : goal.returns
returns c =
    let nodes = c.args.self.now.tree.now.nodes in
    let inside = slice_get_within (elements nodes) c.args.row c.requires.above.0 c.requires.above.1 in
    let below : c.args.row < length c.args.rows.now = omega (arith, inside, c.requires.rows) in
    let same : length c.sources-item-end.result.now ≡ length (sources_of c.index-rows-row.result c.args.side) = ap length c.sources-item-end.ensures ∙ ap (λ (r : ElementDependents). length (sources_of r c.args.side)) (sym c.index-rows-row.is) in
    let most : length (sources_of c.index-rows-row.result c.args.side) ≤ c.loop-item.item = omega (arith, same, c.loop-item-test.false) in
    takes_same nodes (first_items nodes c.args.row c.args.side c.loop-item.item) (side_items nodes c.args.row c.args.side) c.args.rows.now c.loop-item.rows c.loop-item.invariant
    (items_all nodes c.args.rows.now c.args.row c.args.side c.index-rows-row.result c.loop-item.item c.requires.sources c.index-rows-row.is below most)
