use Rattle.std.proofs.Common.{◌-◌}
use Rattle.smil_top.proofs.ServeStep.{Evaluates-ran, Evaluates-nothing}
use Rattle.smil_top.proofs.top.session.Goals as goal

pub returns-in-Ok-clause-evaluated : goal.returns-in-Ok-clause-evaluated
returns-in-Ok-clause-evaluated g c =
    Evaluates-ran (c.answer_all.ensures.evaluated c.args.setup.checks c.in-Ok.ensures.run)

pub returns-in-Ok-clause-serves : goal.returns-in-Ok-clause-serves
returns-in-Ok-clause-serves g c = (returns-in-Ok-clause-evaluated g c).serves

pub returns-in-Err-clause-evaluated : goal.returns-in-Err-clause-evaluated
returns-in-Err-clause-evaluated g c =
    Evaluates-nothing c.args.setup.checks (g.S.Source.rest c.args.source.now) (g.K.Sink.taken c.args.sink.now) (g.K.Sink.sure_room c.args.sink.now) (c.args.steps.now - c.args.steps.now)

pub returns-in-Err-clause-serves : goal.returns-in-Err-clause-serves
returns-in-Err-clause-serves g c = (returns-in-Err-clause-evaluated g c).serves
