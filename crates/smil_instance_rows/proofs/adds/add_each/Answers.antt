use Rattle.std.proofs.Common.{sym, subst}
use Rattle.std.specs.Prelude.{get_or}
use Rattle.smil_instance_rows.specs.Changes.{HasCell, cell_of}
use Rattle.smil_instance_rows.specs.Places.{IsNotAfter}
use Rattle.smil_instance_rows.proofs.CellChanges.{fits_at, blank}
use Rattle.smil_instance_rows.proofs.adds.add_each.Goals as goal

pub add-requires-clause-cell : goal.add-requires-clause-cell
add-requires-clause-cell c =
    subst (λ rs. HasCell rs (get_or c.args.adds.now c.loop-made.made blank).cell) (sym c.loop-made.invariant)
    (fits_at c.args.rows.now c.args.adds.now c.loop-made.made blank c.requires c.loop-made-test.true).0

pub add-requires-clause-order : goal.add-requires-clause-order
add-requires-clause-order c =
    subst (λ rs. IsNotAfter (get_or c.args.adds.now c.loop-made.made blank).kept.place (cell_of rs (get_or c.args.adds.now c.loop-made.made blank).cell)) (sym c.loop-made.invariant)
    (fits_at c.args.rows.now c.args.adds.now c.loop-made.made blank c.requires c.loop-made-test.true).1
