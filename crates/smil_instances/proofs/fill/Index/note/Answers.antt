use Rattle.std.proofs.Common.{sym, subst, ℕ, Some, Option, ◌<◌, length, arith}
use Rattle.std.specs.Prelude.{slice_set}
use Rattle.std.specs.FinMap.{get}
use Rattle.smil_instances.specs.Dependents.{ElementDependents}
use Rattle.smil_instances.specs.Spread.{Takes, goes_to, with_cell}
use Rattle.std.proofs.lemmas.Result.{on_ok_weaker}
use Rattle.smil_instances.proofs.CellGrowth.{index_below, noted, noted_none}
use Rattle.smil_instances.proofs.fill.Index.note.Goals as goal

pub returns-in-None : goal.returns-in-None
returns-in-None c =
    subst (λ (o : Option ℕ). Takes c.args.self.now.tree.now.nodes (goes_to o c.args.is_named c.args.cell) c.args.rows.now c.args.rows.now) (sym c.in-Some.is)
    (noted_none c.args.self.now.tree.now.nodes (get c.args.self.now.places.now) c.requires.places c.args.rows.now c.in-Some.who c.args.is_named c.args.cell c.in-None.ensures)

pub bounds-rows-row : goal.bounds-rows-row
bounds-rows-row c = index_below c.args.self.now.tree.now.nodes (get c.args.self.now.places.now) c.requires.places c.in-Some.who c.in-Some-get.row c.args.rows.now c.in-Some-get.ensures c.requires.rows

pub offset_bounds-rows-row : goal.offset_bounds-rows-row
offset_bounds-rows-row c =
    let low : c.in-Some-get.row < length c.args.rows.now = bounds-rows-row c in omega (arith, low)

pub returns-in-Some-get : goal.returns-in-Some-get
returns-in-Some-get c =
    let old = c.index-rows-row.result in
    let there = noted c.args.self.now.tree.now.nodes (get c.args.self.now.places.now) c.requires.places c.args.rows.now c.in-Some.who c.in-Some-get.row old c.args.is_named c.args.cell c.in-Some-get.ensures c.requires.rows c.index-rows-row.is in
    on_ok_weaker c.add.result
    (λ is.
    subst (λ (o : Option ℕ). Takes c.args.self.now.tree.now.nodes (goes_to o c.args.is_named c.args.cell) c.args.rows.now (slice_set c.args.rows.now c.in-Some-get.row c.add.new.self)) (sym c.in-Some.is)
    (subst (λ (r : ElementDependents). Takes c.args.self.now.tree.now.nodes (goes_to (Some c.in-Some.who) c.args.is_named c.args.cell) c.args.rows.now (slice_set c.args.rows.now c.in-Some-get.row r)) (sym is)
    (subst (λ (r : ElementDependents). Takes c.args.self.now.tree.now.nodes (goes_to (Some c.in-Some.who) c.args.is_named c.args.cell) c.args.rows.now (slice_set c.args.rows.now c.in-Some-get.row (with_cell r c.args.is_named c.args.cell))) c.index-rows-row.is there))) c.add.ensures
