use Rattle.std.proofs.Common.{ℕ, ◌-◌, Some, Err, sym, subst}
use Rattle.std.proofs.lemmas.Result.{err_from_is_err_and}
use Rattle.smil_top.specs.Cut.{OrderLines, load}
use Rattle.smil_top.specs.Evaluations.{number_of}
use Rattle.smil_top.specs.GivenLoads.{RecordsLoad}
use Rattle.smil_top.specs.Running.{IsOrderCounted}
use Rattle.smil_top.proofs.EvaluationCounts.{counted-fault, counted-load}
use Rattle.smil_top.proofs.LoadsGiven.{given-order, unread-order}
use Rattle.smil_top.proofs.session.Session.record_load.Goals as goal

pub returns-clause-recorded : goal.returns-clause-recorded
returns-clause-recorded g c session lines keeps read =
    let recorded = c.record_given-recorded in
    subst (λ r. RecordsLoad r recorded.new.changes recorded.new.self session (load lines (Some c.args.number))) (sym c.at.ensures)
    (given-order recorded.result recorded.new.changes recorded.new.self session lines c.args.load.line c.args.number c.in_ok-given.given read.line (c.in_ok-given.ensures.given session.wanted lines read) (recorded.ensures.recorded session c.args.load.line keeps))

pub returns-clause-evaluated : goal.returns-clause-evaluated
returns-clause-evaluated g c session lines keeps read =
    let recorded = c.record_given-recorded in
    let rise : ℕ = recorded.new.steps - c.args.steps.now in
    subst (λ a. IsOrderCounted a (λ bound. number_of bound session (load lines (Some c.args.number))) rise) (sym c.at.ensures)
    (counted-load recorded.result session lines c.args.load.line c.args.number c.in_ok-given.given rise (c.in_ok-given.ensures.given session.wanted lines read) (recorded.ensures.evaluated session keeps))

pub returns-in_err-given-clause-recorded : goal.returns-in_err-given-clause-recorded
returns-in_err-given-clause-recorded g c session lines keeps read =
    let so_far = c.args.self.now in
    let order : OrderLines = load lines (Some c.args.number) in
    let p = err_from_is_err_and c.from_residual.result c.from_residual.ensures.1 in
    rw p.1 (subst (λ e. RecordsLoad (Err e) c.args.changes.now so_far session order) (sym p.2)
    (unread-order c.args.changes.now so_far session lines c.args.number c.in_err-given.field-0.0 c.requires.empty keeps (c.in_err-given.ensures.given session.wanted lines read)))

pub returns-in_err-given-clause-evaluated : goal.returns-in_err-given-clause-evaluated
returns-in_err-given-clause-evaluated g c session lines keeps read =
    let p = err_from_is_err_and c.from_residual.result c.from_residual.ensures.1 in
    subst (λ a. IsOrderCounted a (λ bound. number_of bound session (load lines (Some c.args.number))) (c.args.steps.now - c.args.steps.now)) (sym p.1)
    (counted-fault p.0 (λ bound. number_of bound session (load lines (Some c.args.number))) c.args.steps.now)
