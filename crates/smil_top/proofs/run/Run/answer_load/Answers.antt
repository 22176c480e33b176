use Rattle.std.proofs.Common.{ℕ, ◌-◌, Some, Err, sym, subst}
use Rattle.std.proofs.lemmas.Result.{err_from_is_err_and}
use Rattle.smil_top.specs.Cut.{OrderLines, load}
use Rattle.smil_top.specs.Evaluations.{number_of}
use Rattle.smil_top.specs.Running.{IsOrderCounted, MakesAnswer, answering, no_text}
use Rattle.smil_top.proofs.EvaluationCounts.{counted-fault, counted-load}
use Rattle.smil_top.proofs.TranscriptStep.{load-made, unread-made}
use Rattle.smil_top.proofs.run.Run.answer_load.Goals as goal

pub returns-clause-answer : goal.returns-clause-answer
returns-clause-answer g c session lines keeps read =
    let checks = c.args.self.now.session.checks in
    let new = c.answer_load-answered.new in
    let made = load-made checks c.answer_load-answered.result new.answer new.self session lines c.args.load.line c.args.number c.in_ok-given.given read.line (c.in_ok-given.ensures.given session.wanted lines read) (c.answer_load-answered.ensures.answer session keeps) in
    subst (λ r. MakesAnswer r new.answer new.self session (answering checks) (load lines (Some c.args.number))) (sym c.at.ensures) made

pub returns-clause-evaluated : goal.returns-clause-evaluated
returns-clause-evaluated g c session lines keeps read runs =
    let answered = c.answer_load-answered in
    let rise : ℕ = answered.new.steps - c.args.steps.now in
    subst (λ a. IsOrderCounted a (λ bound. number_of bound session (load lines (Some c.args.number))) rise) (sym c.at.ensures)
    (counted-load answered.result session lines c.args.load.line c.args.number c.in_ok-given.given rise (c.in_ok-given.ensures.given session.wanted lines read) (answered.ensures.evaluated session keeps runs))

pub returns-in_err-given-clause-answer : goal.returns-in_err-given-clause-answer
returns-in_err-given-clause-answer g c session lines keeps read =
    let checks = c.args.self.now.session.checks in
    let so_far = c.args.self.now.session in
    let order : OrderLines = load lines (Some c.args.number) in
    let p = err_from_is_err_and c.from_residual.result c.from_residual.ensures.1 in
    rw p.1 (subst (λ e. MakesAnswer (Err e) no_text so_far session (answering checks) order) (sym p.2)
    (unread-made checks no_text so_far session lines c.args.number c.in_err-given.field-0.0 keeps (c.in_err-given.ensures.given session.wanted lines read)))

pub returns-in_err-given-clause-evaluated : goal.returns-in_err-given-clause-evaluated
returns-in_err-given-clause-evaluated g c session lines keeps read runs =
    let p = err_from_is_err_and c.from_residual.result c.from_residual.ensures.1 in
    subst (λ a. IsOrderCounted a (λ bound. number_of bound session (load lines (Some c.args.number))) (c.args.steps.now - c.args.steps.now)) (sym p.1)
    (counted-fault p.0 (λ bound. number_of bound session (load lines (Some c.args.number))) c.args.steps.now)
