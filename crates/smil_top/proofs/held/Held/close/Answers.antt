use Rattle.std.proofs.Common.{◌≡◌, ℕ, ◌+◌, false, None, Some, Ok, Err, refl, ◌∙◌, arith, rules}
use Rattle.std.specs.Prelude.{is_some}
use Rattle.smil_top.proofs.GoneOn.{evaluates-on, goes-on, has-none, is-none, single-closes}
use Rattle.smil_top.proofs.held.Held.close.Goals as goal

pub returns-in-Ok-clause-like : goal.returns-in-Ok-clause-like
returns-in-Ok-clause-like c cut told line is says =
    let held = c.args.self.now in
    let none : is_some held.run.load ≡ false = first_of (cc, search rules) in
    let number : ℕ = held.number + 1 in
    let out : cut.«open» ≡ None = has-none held.run.load told.session.wanted cut.«open» is.running.load none in
    goes-on cut line (single-closes c.args.name.now line says) out {A = Unit {0}} (Ok tt) (record { run = c.unload.new.self; number = number; changes = c.cut_back.new.self; fault = None }) told number
    (omega (arith, is.number)) refl (c.unload.ensures.load ∙ is-none held.run.load none) (c.in-Ok.ensures.tells cut.whole told line says is.running.tells)

pub returns-in-Err-clause-like : goal.returns-in-Err-clause-like
returns-in-Err-clause-like c cut told line is says =
    let held = c.args.self.now in
    let none : is_some held.run.load ≡ false = first_of (cc, search rules) in
    let number : ℕ = held.number + 1 in
    let out : cut.«open» ≡ None = has-none held.run.load told.session.wanted cut.«open» is.running.load none in
    goes-on cut line (single-closes c.args.name.now line says) out {A = Unit {0}} (Err c.in-Err.refusal) (record { run = c.unload.new.self; number = number; changes = c.cut_back.new.self; fault = Some (record { line = number; refusal = c.in-Err.refusal }) }) told number
    (omega (arith, is.number)) refl (c.unload.ensures.load ∙ is-none held.run.load none) (c.in-Err.ensures.tells cut.whole told line says is.running.tells)

pub returns-in-Ok-clause-evaluated : goal.returns-in-Ok-clause-evaluated
returns-in-Ok-clause-evaluated c cut told line steps is says =
    let held = c.args.self.now in
    let none : is_some held.run.load ≡ false = first_of (cc, search rules) in
    let out : cut.«open» ≡ None = has-none held.run.load told.session.wanted cut.«open» is.running.load none in
    evaluates-on cut line (single-closes c.args.name.now line says) out held.run.counts c.unload.new.self.counts (held.number + 1) steps steps
    (omega (arith, is.number)) (c.in-Ok.ensures.evaluated cut.whole told line steps says is.running.tells)

pub returns-in-Err-clause-evaluated : goal.returns-in-Err-clause-evaluated
returns-in-Err-clause-evaluated c cut told line steps is says =
    let held = c.args.self.now in
    let none : is_some held.run.load ≡ false = first_of (cc, search rules) in
    let out : cut.«open» ≡ None = has-none held.run.load told.session.wanted cut.«open» is.running.load none in
    evaluates-on cut line (single-closes c.args.name.now line says) out held.run.counts c.unload.new.self.counts (held.number + 1) steps steps
    (omega (arith, is.number)) (c.in-Err.ensures.evaluated cut.whole told line steps says is.running.tells)

pub returns-in-Err-clause-closed : goal.returns-in-Err-clause-closed
returns-in-Err-clause-closed c session number keeps = (c.cut_back.ensures, c.in-Err.ensures.closed session number keeps)
