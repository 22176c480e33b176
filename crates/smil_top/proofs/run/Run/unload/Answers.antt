use Rattle.std.proofs.Common.{◌≡◌, Result, ap, ◌∙◌}
use Rattle.smil_outside.specs.Faults.{last_count}
use Rattle.smil_top.specs.declared.fault.Fault.{Fault}
use Rattle.smil_top.specs.declared.run.Run.{Run}
use Rattle.smil_top.specs.Answers.{at_line}
use Rattle.smil_top.specs.Running.{with_order}
use Rattle.smil_top.proofs.ClosesGiven.{close-evaluated, close-tells}
use Rattle.smil_top.proofs.run.Run.unload.Goals as goal

pub returns-clause-tells : goal.returns-clause-tells
returns-clause-tells c whole told line says tells =
    let closed = c.unload-closed in
    let new : Run = record c.args.self.now { session = closed.new.self; counts = c.count.new.self } in
    let counts : new.counts ≡ with_order (at_line c.args.number closed.result) last_count c.args.self.now.counts =
    c.count.ensures ∙ ap (λ (a : Result (Unit {0}) Fault). with_order a last_count c.args.self.now.counts) c.at.ensures
    in
    close-tells c.args.name.now c.args.number line says c.args.self.now new whole told tells closed.result
    (closed.ensures.closed told.session c.args.number tells.keeps) counts closed.ensures.checks

pub returns-clause-evaluated : goal.returns-clause-evaluated
returns-clause-evaluated c whole told line steps says tells =
    let closed = c.unload-closed in
    let new : Run = record c.args.self.now { session = closed.new.self; counts = c.count.new.self } in
    let counts : new.counts ≡ with_order (at_line c.args.number closed.result) last_count c.args.self.now.counts =
    c.count.ensures ∙ ap (λ (a : Result (Unit {0}) Fault). with_order a last_count c.args.self.now.counts) c.at.ensures
    in
    close-evaluated c.args.name.now c.args.number line says c.args.self.now new whole told tells closed.result
    (closed.ensures.closed told.session c.args.number tells.keeps) counts steps
