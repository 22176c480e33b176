use Rattle.std.proofs.Common.{arith}
use Rattle.smil_audit.proofs.AgreeingFronts.{none_left}
use Rattle.smil_audit.proofs.entries.agreed.Goals as goal

pub returns-else-count-other : goal.returns-else-count-other
returns-else-count-other c =
    let none = none_left c.loop-count.count c.args.one.now c.args.other.now c.if-count-other.false in
    record { same = omega (arith, none, c.loop-count.invariant.so_far) }
