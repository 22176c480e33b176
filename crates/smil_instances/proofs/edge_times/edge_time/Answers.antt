use Rattle.std.proofs.Common.{◌∙◌, ap, sym, Some, rules}
use mir.Syntax.{w64}
use mir.Val.{SFits}
use Rattle.smil_instances.proofs.EdgeGifts.{began_is, ended_is}
use Rattle.smil_instances.proofs.SumsFit.{time_is}
use Rattle.smil_instances.proofs.edge_times.edge_time.Goals as goal

pub returns-in-Began : goal.returns-in-Began
returns-in-Began c = λ h are.
    let fits : SFits w64 c.in-Began.begin = search rules in
    ap Some (time_is h c.args.clocks.now c.args.who c.args.sync.of c.in-Began.begin c.args.entry.moment c.args.sync.offset c.time_of.result c.requires fits are c.time_of.ensures)
    ∙ sym (began_is h c.args.who c.args.sync.of c.args.sync.offset c.args.entry.moment c.args.sync.edge c.args.entry.step c.in-Began.on c.in-Began.begin c.in-Begin.is c.in-Began.is c.if-on-of.true)

pub returns-in-Ended : goal.returns-in-Ended
returns-in-Ended c = λ h are.
    let fits : SFits w64 c.in-Ended.end = search rules in
    ap Some (time_is h c.args.clocks.now c.args.who c.args.sync.of c.in-Ended.end c.args.entry.moment c.args.sync.offset c.time_of-in-Ended.result c.requires fits are c.time_of-in-Ended.ensures)
    ∙ sym (ended_is h c.args.who c.args.sync.of c.args.sync.offset c.args.entry.moment c.args.sync.edge c.args.entry.step c.in-Ended.on c.in-Ended.end c.in-End.is c.in-Ended.is c.if-on-of-2.true)
