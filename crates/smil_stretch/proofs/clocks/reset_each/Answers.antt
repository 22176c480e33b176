use Rattle.std.proofs.Common.{◌<◌, length, get_or, None, false, arith}
use Rattle.std.specs.Prelude.{pos}
use Rattle.std.proofs.lemmas.List.{get_or_default}
use Rattle.std.proofs.lemmas.List.Edits.{map_over_more}
use Rattle.smil_stretch.specs.declared.clock.Clock.TheVariants.{Runs}
use Rattle.smil_stretch.specs.declared.clock.NodeClock.{NodeClock}
use Rattle.smil_stretch.specs.NodeClocks.{reset_clock}
use Rattle.smil_stretch.proofs.clocks.reset_each.Goals as goal

-- what stands for a clock where there is none
abbrev no_clock : NodeClock
no_clock = record { serial = 0; parent = None; paused = false; clock = Runs (pos 0) }

pub loop-node-preserved : goal.loop-node-preserved
loop-node-preserved c =
    let now = c.loop-node.clocks in
    let i = c.loop-node.node-index in
    let inside : i < length now = omega (arith, c.loop-node-test.true, c.loop-node.auto.clocks) in
    map_over_more reset_clock c.args.clocks.now now i (get_or now i no_clock) c.loop-node-test.true c.loop-node.invariant (get_or_default now i no_clock (get_or now i no_clock) inside)
