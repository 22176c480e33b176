use Rattle.std.proofs.Common.{arith, ◌∙◌, sym}
use Rattle.std.proofs.lemmas.Result.{IfOk-weaker}
use Rattle.smil_graph.specs.Links.{AreLevels}
use Rattle.smil_graph.proofs.SearchSteps.{begun, leveled}
use Rattle.smil_graph.proofs.levels.levels.Goals as goal

pub follow-requires-clause-grouping : goal.follow-requires-clause-grouping
follow-requires-clause-grouping c =
    rw c.in_ok-open_place.ensures (begun c.args.rows.now c.loop-place.components c.loop-place.invariant.grouping c.loop-place.invariant.none_open c.loop-place.place (omega (arith, c.len-place-end.ensures, c.loop-place-test.true)) (sym c.is_new.ensures ∙ c.if-is_new.true))

pub follow-requires-clause-count : goal.follow-requires-clause-count
follow-requires-clause-count c = omega (arith, c.len-place-end.ensures)

pub returns : goal.returns
returns c =
    IfOk-weaker c.levels.result _ (λ levels. AreLevels c.args.rows.now levels.items)
    (λ levels are. leveled c.args.rows.now c.loop-place.components c.loop-place.invariant.grouping c.loop-place.invariant.none_open (λ a l. c.loop-place.invariant.known a (omega (arith, l, c.len-place-end.ensures, c.loop-place-test.false, c.loop-place.auto.place-end))) levels.items are)
    c.levels.ensures
