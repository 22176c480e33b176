use Rattle.std.proofs.Common.{◌≡◌, subst, ap, ◌∙◌, ◌+◌, arith, length}
use Rattle.smil_model.specs.declared.document.Edge.TheVariants.{Begin, End}
use Rattle.std.proofs.lemmas.List.{length-map}
use Rattle.smil_model.specs.declared.document.Node.{Node}
use Rattle.smil_model.specs.document.Document.{elements}
use Rattle.smil_instances.specs.Sources.{concerns_cell}
use Rattle.smil_instances.specs.Spread.{Takes, first_rows, row_items, side_items}
use Rattle.smil_instances.proofs.CellGrowth.{sources_stay, takes_none, takes_then}
use Rattle.smil_instances.proofs.CellSpreading.{both_sides, no_rows, parent_at, rows_next}
use Rattle.smil_instances.proofs.fill.fill.Goals as goal

pub loop-row-init : goal.loop-row-init
loop-row-init c = takes_none c.args.tree.now.nodes (first_rows c.args.tree.now.nodes 0) c.args.rows.now (λ row x b d at. no_rows (concerns_cell c.args.tree.now.nodes b x.serial) d)

pub fill_side-requires-clause-sources : goal.fill_side-requires-clause-sources
fill_side-requires-clause-sources c = sources_stay c.args.tree.now.nodes (first_rows c.args.tree.now.nodes c.loop-row.row) c.args.rows.now c.loop-row.rows c.loop-row.invariant c.requires.sources

pub fill_side-requires-clause-above : goal.fill_side-requires-clause-above
fill_side-requires-clause-above c =
    parent_at c.args.tree.now.nodes c.args.whos.now c.loop-row.row c.parent_of-above.result c.requires.whos c.loop-row-test.true c.parent_of-above.ensures

pub fill_side-requires-in-loop-row-clause-above : goal.fill_side-requires-in-loop-row-clause-above
fill_side-requires-in-loop-row-clause-above c =
    parent_at c.args.tree.now.nodes c.args.whos.now c.loop-row.row c.parent_of-above.result c.requires.whos c.loop-row-test.true c.parent_of-above.ensures

pub fill_side-requires-in-loop-row-clause-sources : goal.fill_side-requires-in-loop-row-clause-sources
fill_side-requires-in-loop-row-clause-sources c =
    let nodes = c.args.tree.now.nodes in
    sources_stay nodes (side_items nodes c.loop-row.row Begin) c.loop-row.rows c.fill_side.new.rows c.in_ok-fill_side.ensures
    (sources_stay nodes (first_rows nodes c.loop-row.row) c.args.rows.now c.loop-row.rows c.loop-row.invariant c.requires.sources)

pub loop-row-preserved : goal.loop-row-preserved
loop-row-preserved c =
    let nodes = c.args.tree.now.nodes in
    let row = c.loop-row.row in
    takes_then nodes (first_rows nodes row) (row_items nodes row) (first_rows nodes (row + 1)) c.args.rows.now c.loop-row.rows c.fill_side-in-loop-row.new.rows c.loop-row.invariant
    (takes_then nodes (side_items nodes row Begin) (side_items nodes row End) (row_items nodes row) c.loop-row.rows c.fill_side.new.rows c.fill_side-in-loop-row.new.rows c.in_ok-fill_side.ensures c.in_ok-fill_side-2.ensures (λ b x. both_sides row (concerns_cell nodes b x)))
    (λ b x. rows_next row (concerns_cell nodes b x))

pub returns : goal.returns
returns c =
    let nodes = c.args.tree.now.nodes in
    let count : length c.args.whos.now ≡ length (elements nodes) = ap length c.requires.whos ∙ length-map (elements nodes) (λ (n : Node). n.serial) in
    let end' : c.loop-row.row ≡ length (elements nodes) = omega (arith, count, c.loop-row-test.false, c.loop-row.auto.row-end) in
    subst (λ k. Takes nodes (first_rows nodes k) c.args.rows.now c.loop-row.rows) end' c.loop-row.invariant
