use Rattle.std.proofs.Common.{rules}
use mir.Syntax.{w64}
use mir.Val.{SFits}
use Rattle.smil_model.specs.diary.Clocks.{outer}
use Rattle.smil_instances.proofs.SumsFit.{carried_is, read_at}
use Rattle.smil_instances.proofs.edge_times.time_of.Goals as goal

pub returns : goal.returns
returns c = λ h are.
    let fits : SFits w64 c.args.sync.offset = search rules in
    carried_is c.outer-own.result c.outer-other.result c.args.value c.args.sync.offset _ _ c.carried.result c.carried.ensures c.outer-own.ensures.near c.ranges.value c.outer-other.ensures.near fits
    (read_at h c.args.clocks.now c.args.who c.args.moment c.outer-own.result outer c.requires are c.outer-own.ensures.value)
    (read_at h c.args.clocks.now c.args.sync.of c.args.moment c.outer-other.result outer c.requires are c.outer-other.ensures.value)
