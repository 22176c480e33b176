use Rattle.std.proofs.Common.{sym}
use Rattle.smil_model.specs.interval.Instances.{begin_times, end_times}
use Rattle.smil_past.specs.Past.{history_of}
use Rattle.smil_element.proofs.AbsentIntervals.{absent}
use Rattle.smil_element.proofs.OutcomeParts.{none_given}
use Rattle.smil_element.proofs.outcome.has_none.Goals as goal

pub returns-then-is_out-clause-idle : goal.returns-then-is_out-clause-idle
returns-then-is_out-clause-idle g c = λ q. c.is_out.ensures.idle c.if-is_out.true

pub returns-then-is_out-clause-none : goal.returns-then-is_out-clause-none
returns-then-is_out-clause-none g c = λ q e here.
    let present = c.args.present.now in
    let h = history_of present.past.now in
    let given = g.J.Intervals.given c.args.intervals.now in
    sym (none_given h present.moment present.who e here (c.is_out.ensures.idle c.if-is_out.true) given _ (c.is_out.ensures.out c.if-is_out.true)
    (λ facts idle out. absent facts (begin_times h given present.moment e) (end_times h given present.moment e) idle out))
