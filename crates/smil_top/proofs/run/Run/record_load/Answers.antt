use Rattle.std.proofs.Common.{Some}
use Rattle.smil_top.specs.Cut.{OrderLines, load}
use Rattle.smil_top.specs.declared.run.Run.{Run}
use Rattle.smil_top.proofs.LoadsGiven.{made-evaluated, made-tells, recorded-makes}
use Rattle.smil_top.proofs.run.Run.record_load.Goals as goal

pub returns-clause-tells : goal.returns-clause-tells
returns-clause-tells g c whole told lines read tells =
    let recorded = c.record_load-recorded in
    let order : OrderLines = load lines (Some c.args.number) in
    let new : Run = record c.args.self.now { session = recorded.new.self; counts = c.count.new.self } in
    let made = recorded-makes recorded.result recorded.new.changes recorded.new.self told.session order (recorded.ensures.recorded told.session lines tells.keeps read) in
    made-tells c.args.self.now new whole told order tells recorded.result made.0 made.1 recorded.ensures.checks c.count.ensures

pub returns-clause-evaluated : goal.returns-clause-evaluated
returns-clause-evaluated g c whole told lines read tells =
    let recorded = c.record_load-recorded in
    let order : OrderLines = load lines (Some c.args.number) in
    let new : Run = record c.args.self.now { session = recorded.new.self; counts = c.count.new.self } in
    let made = recorded-makes recorded.result recorded.new.changes recorded.new.self told.session order (recorded.ensures.recorded told.session lines tells.keeps read) in
    made-evaluated c.args.self.now new whole told order tells recorded.result made.0 c.args.steps.now recorded.new.steps made.1
    (recorded.ensures.evaluated told.session lines tells.keeps read) recorded.ensures.counted c.count.ensures
