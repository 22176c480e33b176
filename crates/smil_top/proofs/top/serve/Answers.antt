use Rattle.std.proofs.Common.{◌≡◌, ◌-◌, Option, Some, ap, sym, subst, ◌∙◌}
use Rattle.smil_words.specs.declared.mode.Mode.{Mode}
use Rattle.smil_words.specs.declared.mode.Mode.TheVariants as mode
use Rattle.smil_words.specs.Words.{mode_of}
use Rattle.smil_top.specs.Evaluations.{Evaluates}
use Rattle.smil_top.specs.Serving.{Serves, reads}
use Rattle.smil_top.proofs.ServeStep.{Evaluates-audited, Evaluates-unread, Serves-explained, Serves-generated}
use Rattle.smil_top.proofs.top.serve.Goals as goal

pub returns-in-Ok-Gen-clause-serves : goal.returns-in-Ok-Gen-clause-serves
returns-in-Ok-Gen-clause-serves g c =
    let rest = g.S.Source.rest c.args.source.now in
    let before = g.K.Sink.taken c.args.sink.now in
    let after = g.K.Sink.taken c.generated.new.sink in
    let room = g.K.Sink.sure_room c.args.sink.now in
    let e = c.generated.ensures.generates in
    let is : Some (mode.Gen c.in-Ok-Gen.number) ≡ mode_of c.args.words.now = ap (λ (m : Mode). Some m) (sym c.in-Ok-Gen.field-0-is) ∙ c.in-Ok-Gen.ensures in
    subst (λ (m : Option Mode). Serves m c.generated.result rest rest before after room) is
    (Serves-generated rest e.0 e.1 e.2)

pub returns-in-Err-clause-serves : goal.returns-in-Err-clause-serves
returns-in-Err-clause-serves g c =
    let rest = g.S.Source.rest c.args.source.now in
    let before = g.K.Sink.taken c.args.sink.now in
    let after = g.K.Sink.taken c.explain.new.sink in
    let room = g.K.Sink.sure_room c.args.sink.now in
    let e = c.explain.ensures.explains in
    subst (λ (m : Option Mode). Serves m c.explain.result rest rest before after room) c.in-Err.ensures
    (Serves-explained rest e.0 e.1 e.2)

pub returns-in-Ok-Gen-clause-evaluated : goal.returns-in-Ok-Gen-clause-evaluated
returns-in-Ok-Gen-clause-evaluated g c =
    let is : Some (mode.Gen c.in-Ok-Gen.number) ≡ mode_of c.args.words.now = ap (λ (m : Mode). Some m) (sym c.in-Ok-Gen.field-0-is) ∙ c.in-Ok-Gen.ensures in
    Evaluates-unread (ap reads (sym is)) (returns-in-Ok-Gen-clause-serves g c)

pub returns-in-Err-clause-evaluated : goal.returns-in-Err-clause-evaluated
returns-in-Err-clause-evaluated g c = Evaluates-unread (ap reads (sym c.in-Err.ensures)) (returns-in-Err-clause-serves g c)

pub returns-in-Ok-Audit-clause-evaluated : goal.returns-in-Ok-Audit-clause-evaluated
returns-in-Ok-Audit-clause-evaluated g c =
    let is : Some mode.Audit ≡ mode_of c.args.words.now = ap (λ (m : Mode). Some m) (sym c.in-Ok-Audit.field-0-is) ∙ c.in-Ok-Audit.ensures in
    subst
    (λ (m : Option Mode). Evaluates m c.audited.result (g.S.Source.rest c.args.source.now) (g.S.Source.rest c.audited.new.source) (g.K.Sink.taken c.args.sink.now) (g.K.Sink.taken c.audited.new.sink) (g.K.Sink.sure_room c.args.sink.now) (c.audited.new.steps - c.args.steps.now)) is
    (Evaluates-audited c.audited.ensures.serves)
