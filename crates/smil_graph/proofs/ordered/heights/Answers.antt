use Rattle.smil_graph.proofs.ElementOrder.{heights_none, heights_step, heights_all}
use Rattle.std.proofs.Common.{◌≡◌, length, arith, rules, []}
use Rattle.smil_graph.specs.Ranks.{height_under}
use Rattle.smil_graph.specs.Places.{up}
use Rattle.smil_graph.proofs.ordered.heights.Goals as goal

pub loop-parent-init : goal.loop-parent-init
loop-parent-init c =
    let none : c.in_ok-heights.heights.items ≡ [] = search rules in
    rw none (heights_none c.args.time_parents.now (length c.args.time_parents.now))

pub loop-parent-preserved : goal.loop-parent-preserved
loop-parent-preserved c =
    let place = c.loop-parent.parent-index in
    let parents = c.args.time_parents.now in
    let height : c.height_under-height.result ≡ height_under c.loop-parent.heights.items (length parents) (up parents place) = rw (← c.as_slice.ensures.value) (search rules) in
    rw c.in_ok-push.ensures.items (rw height (heights_step parents c.requires (length parents) place (omega arith) c.loop-parent.heights.items c.loop-parent.invariant))

pub returns : goal.returns
returns c = heights_all c.args.time_parents.now c.loop-parent.parent-index c.loop-parent.heights.items (omega arith) c.loop-parent.invariant
