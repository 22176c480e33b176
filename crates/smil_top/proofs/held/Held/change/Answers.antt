use Rattle.std.proofs.Common.{◌≡◌, ℕ, ℤ, ◌+◌, false, None, Some, Ok, Err, refl, ◌∙◌, arith, rules}
use Rattle.std.specs.Prelude.{is_some}
use Rattle.smil_top.proofs.GoneOn.{evaluates-on, goes-on, has-none, is-none, single-said}
use Rattle.smil_top.proofs.held.Held.change.Goals as goal

pub returns-in-Ok-clause-like : goal.returns-in-Ok-clause-like
returns-in-Ok-clause-like g c cut told line is says =
    let held = c.args.self.now in
    let none : is_some held.run.load ≡ false = first_of (cc, search rules) in
    let number : ℕ = held.number + 1 in
    let out : cut.«open» ≡ None = has-none held.run.load told.session.wanted cut.«open» is.running.load none in
    goes-on cut line (single-said c.args.name.now c.args.order.now line says) out {A = ℤ} (Ok c.in-Ok.now) (record { run = c.change.new.self; number = number; changes = c.change.new.changes; fault = None }) told number
    (omega (arith, is.number)) refl (c.change.ensures.load ∙ is-none held.run.load none) (c.in-Ok.ensures.tells cut.whole told line says is.running.tells)

pub returns-in-Err-clause-like : goal.returns-in-Err-clause-like
returns-in-Err-clause-like g c cut told line is says =
    let held = c.args.self.now in
    let none : is_some held.run.load ≡ false = first_of (cc, search rules) in
    let number : ℕ = held.number + 1 in
    let out : cut.«open» ≡ None = has-none held.run.load told.session.wanted cut.«open» is.running.load none in
    goes-on cut line (single-said c.args.name.now c.args.order.now line says) out {A = ℤ} (Err c.in-Err.refusal) (record { run = c.change.new.self; number = number; changes = c.change.new.changes; fault = Some (record { line = number; refusal = c.in-Err.refusal }) }) told number
    (omega (arith, is.number)) refl (c.change.ensures.load ∙ is-none held.run.load none) (c.in-Err.ensures.tells cut.whole told line says is.running.tells)

pub returns-in-Ok-clause-evaluated : goal.returns-in-Ok-clause-evaluated
returns-in-Ok-clause-evaluated g c cut told line is says =
    let held = c.args.self.now in
    let none : is_some held.run.load ≡ false = first_of (cc, search rules) in
    let out : cut.«open» ≡ None = has-none held.run.load told.session.wanted cut.«open» is.running.load none in
    evaluates-on cut line (single-said c.args.name.now c.args.order.now line says) out held.run.counts c.change.new.self.counts (held.number + 1) c.args.steps.now c.change.new.steps
    (omega (arith, is.number)) (c.in-Ok.ensures.evaluated cut.whole told line says is.running.tells)

pub returns-in-Err-clause-evaluated : goal.returns-in-Err-clause-evaluated
returns-in-Err-clause-evaluated g c cut told line is says =
    let held = c.args.self.now in
    let none : is_some held.run.load ≡ false = first_of (cc, search rules) in
    let out : cut.«open» ≡ None = has-none held.run.load told.session.wanted cut.«open» is.running.load none in
    evaluates-on cut line (single-said c.args.name.now c.args.order.now line says) out held.run.counts c.change.new.self.counts (held.number + 1) c.args.steps.now c.change.new.steps
    (omega (arith, is.number)) (c.in-Err.ensures.evaluated cut.whole told line says is.running.tells)
