use Rattle.std.proofs.Common.{◌≡◌, arith}
use Rattle.smil_model.specs.document.Document.{time_parent}
use Rattle.smil_graph.specs.Places.{element_above, up}
use Rattle.smil_graph.proofs.NodesByPlace.{time_parent_step, table_all}
use Rattle.smil_graph.proofs.outline.time_parents.Goals as goal

pub loop-parent-preserved : goal.loop-parent-preserved
loop-parent-preserved c =
    let place = c.loop-parent.parent-index in
    let parents = c.args.parents.now in
    let entry : c.element_above-next.result ≡ element_above c.args.tree.now.nodes c.loop-parent.above.items (up parents place) = rw (← c.as_slice.ensures.value) c.element_above-next.ensures in
    rw c.in_ok-push.ensures.items (rw entry (time_parent_step c.args.tree.now c.requires.tree parents c.requires.parents place c.loop-parent.above.items c.loop-parent.invariant))

pub returns : goal.returns
returns c = table_all c.args.tree.now.nodes (λ n. time_parent c.args.tree.now.nodes n.serial) c.loop-parent.parent-index c.loop-parent.above.items (omega (arith, c.requires.parents.count)) c.loop-parent.invariant
