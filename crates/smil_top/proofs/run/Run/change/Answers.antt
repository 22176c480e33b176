use Rattle.std.proofs.Common.{◌≡◌, Result, ap, ◌∙◌}
use Rattle.smil_outside.specs.Faults.{last_count}
use Rattle.smil_top.specs.declared.fault.Fault.{Fault}
use Rattle.smil_top.specs.declared.run.Run.{Run}
use Rattle.smil_top.specs.Answers.{at_line}
use Rattle.smil_top.specs.Recorded.{done}
use Rattle.smil_top.specs.Running.{with_order}
use Rattle.smil_top.proofs.Carried.{recorded-evaluated, recorded-tells}
use Rattle.smil_top.proofs.run.Run.change.Given.{Over}
use Rattle.smil_top.proofs.run.Run.change.Goals as goal
use Rattle.smil_top.proofs.run.Run.change.Goals.{After-count}

-- the counts after it
counts : (g : Over) (c : After-count g) → c.count.new.self ≡ with_order (at_line c.args.given.now.number (done c.change-changed.result)) last_count c.args.self.now.counts
counts g c =
    c.count.ensures
    ∙ ap (λ (a : Result (Unit {0}) Fault). with_order a last_count c.args.self.now.counts) (c.at-answered.ensures ∙ ap (at_line c.args.given.now.number) c.done.ensures)

pub returns-clause-tells : goal.returns-clause-tells
returns-clause-tells g c whole told line says tells =
    let given = c.args.given.now in
    let changed = c.change-changed in
    let new : Run = record c.args.self.now { session = changed.new.self; counts = c.count.new.self } in
    recorded-tells given.name.now given.order.now changed.new.changes given.number line says c.args.self.now new whole told tells changed.result
    (changed.ensures.recorded told.session tells.keeps) changed.ensures.checks (counts g (goal.at.returns-clause-tells g c).After-count)

pub returns-clause-evaluated : goal.returns-clause-evaluated
returns-clause-evaluated g c whole told line says tells =
    let given = c.args.given.now in
    let changed = c.change-changed in
    let new : Run = record c.args.self.now { session = changed.new.self; counts = c.count.new.self } in
    recorded-evaluated given.name.now given.order.now changed.new.changes given.number line says c.args.self.now new whole told tells changed.result
    c.args.steps.now changed.new.steps (changed.ensures.recorded told.session tells.keeps) (changed.ensures.evaluated told.session tells.keeps) changed.ensures.counted (counts g (goal.at.returns-clause-evaluated g c).After-count)
