use Rattle.std.proofs.Common.{◌≡◌, ℕ, ◌+◌, false, None, Some, Ok, Err, refl, ◌∙◌, arith, rules}
use Rattle.std.specs.Prelude.{is_some}
use Rattle.smil_top.proofs.GoneOn.{has-none, is-none}
use Rattle.smil_top.proofs.HeldLoads.{lines_at, loads-evaluated, loads-into, loads-on, read-by}
use Rattle.smil_top.proofs.held.Held.load.Goals as goal

pub returns-in-Ok-clause-loaded : goal.returns-in-Ok-clause-loaded
returns-in-Ok-clause-loaded g c session keeps =
    let held = c.args.self.now in
    let number : ℕ = c.read-load.result.1 + 1 in
    loads-into c.args.head.now c.args.outline.now (Ok tt) c.record_load.new.changes c.record_load.new.self.session session held.number (held.number + 1) number (omega arith) (omega (arith, c.read-load.ensures.last))
    (c.in-Ok.ensures.recorded session (lines_at c.args.head.now c.args.outline.now (held.number + 1)) keeps (read-by c.args.head.now c.args.outline.now c.open-opened.result c.read-load.result.0 (held.number + 1) session.wanted held.run.session.preferences keeps.wanted c.open-opened.ensures c.read-load.ensures.read))

pub returns-in-Err-clause-loaded : goal.returns-in-Err-clause-loaded
returns-in-Err-clause-loaded g c session keeps =
    let held = c.args.self.now in
    let number : ℕ = c.read-load.result.1 + 1 in (
      c.in-Err.fault,
      refl,
      refl,
      loads-into c.args.head.now c.args.outline.now (Err c.in-Err.fault) c.record_load.new.changes c.record_load.new.self.session session held.number (held.number + 1) number (omega arith) (omega (arith, c.read-load.ensures.last))
          (c.in-Err.ensures.recorded session (lines_at c.args.head.now c.args.outline.now (held.number + 1)) keeps (read-by c.args.head.now c.args.outline.now c.open-opened.result c.read-load.result.0 (held.number + 1) session.wanted held.run.session.preferences keeps.wanted c.open-opened.ensures c.read-load.ensures.read)),
    )

pub returns-in-Ok-clause-like : goal.returns-in-Ok-clause-like
returns-in-Ok-clause-like g c cut told is =
    let held = c.args.self.now in
    let none : is_some held.run.load ≡ false = first_of (cc, search rules) in
    let number : ℕ = c.read-load.result.1 + 1 in (
      has-none held.run.load told.session.wanted cut.«open» is.running.load none,
      loads-on c.args.head.now c.args.outline.now cut (held.number + 1) number (omega (arith, is.number)) (omega (arith, is.number, c.read-load.ensures.last)) (Ok tt)
          (record { run = c.record_load.new.self; number = number; changes = c.record_load.new.changes; fault = None }) told refl (c.record_load.ensures.load ∙ is-none held.run.load none)
          (c.in-Ok.ensures.tells cut.whole told (lines_at c.args.head.now c.args.outline.now (held.number + 1)) (read-by c.args.head.now c.args.outline.now c.open-opened.result c.read-load.result.0 (held.number + 1) told.session.wanted held.run.session.preferences is.running.tells.keeps.wanted c.open-opened.ensures c.read-load.ensures.read) is.running.tells),
    )

pub returns-in-Err-clause-like : goal.returns-in-Err-clause-like
returns-in-Err-clause-like g c cut told is =
    let held = c.args.self.now in
    let none : is_some held.run.load ≡ false = first_of (cc, search rules) in
    let number : ℕ = c.read-load.result.1 + 1 in (
      has-none held.run.load told.session.wanted cut.«open» is.running.load none,
      c.in-Err.fault,
      refl,
      refl,
      loads-on c.args.head.now c.args.outline.now cut (held.number + 1) number (omega (arith, is.number)) (omega (arith, is.number, c.read-load.ensures.last)) (Err c.in-Err.fault)
          (record { run = c.record_load.new.self; number = number; changes = c.record_load.new.changes; fault = Some c.in-Err.fault }) told refl (c.record_load.ensures.load ∙ is-none held.run.load none)
          (c.in-Err.ensures.tells cut.whole told (lines_at c.args.head.now c.args.outline.now (held.number + 1)) (read-by c.args.head.now c.args.outline.now c.open-opened.result c.read-load.result.0 (held.number + 1) told.session.wanted held.run.session.preferences is.running.tells.keeps.wanted c.open-opened.ensures c.read-load.ensures.read) is.running.tells),
    )

pub returns-in-Ok-clause-evaluated : goal.returns-in-Ok-clause-evaluated
returns-in-Ok-clause-evaluated g c cut told is =
    let held = c.args.self.now in
    loads-evaluated c.args.head.now c.args.outline.now cut (held.number + 1) (c.read-load.result.1 + 1) (omega (arith, is.number)) (omega (arith, is.number, c.read-load.ensures.last)) held.run.counts c.record_load.new.self.counts c.args.steps.now c.record_load.new.steps
    (c.in-Ok.ensures.evaluated cut.whole told (lines_at c.args.head.now c.args.outline.now (held.number + 1)) (read-by c.args.head.now c.args.outline.now c.open-opened.result c.read-load.result.0 (held.number + 1) told.session.wanted held.run.session.preferences is.running.tells.keeps.wanted c.open-opened.ensures c.read-load.ensures.read) is.running.tells)

pub returns-in-Err-clause-evaluated : goal.returns-in-Err-clause-evaluated
returns-in-Err-clause-evaluated g c cut told is =
    let held = c.args.self.now in
    loads-evaluated c.args.head.now c.args.outline.now cut (held.number + 1) (c.read-load.result.1 + 1) (omega (arith, is.number)) (omega (arith, is.number, c.read-load.ensures.last)) held.run.counts c.record_load.new.self.counts c.args.steps.now c.record_load.new.steps
    (c.in-Err.ensures.evaluated cut.whole told (lines_at c.args.head.now c.args.outline.now (held.number + 1)) (read-by c.args.head.now c.args.outline.now c.open-opened.result c.read-load.result.0 (held.number + 1) told.session.wanted held.run.session.preferences is.running.tells.keeps.wanted c.open-opened.ensures c.read-load.ensures.read) is.running.tells)
