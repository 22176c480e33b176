use Rattle.std.proofs.Common.{◌≡◌, ◌-◌, ◌++◌, ℕ, List, Ok, Err, ap, sym, subst, ◌∙◌}
use Rattle.std.proofs.lemmas.Result.{err_from_is_err_and}
use Rattle.smil_model.specs.declared.order.Refusal.{Refusal}
use Rattle.smil_model.specs.document.Limits.{limits}
use Rattle.smil_house.specs.House.{load_refusal}
use Rattle.smil_report.specs.declared.records.Change.{Change}
use Rattle.smil_report.specs.Records.{as_records}
use Rattle.smil_report.specs.Tellings.{load_told}
use Rattle.smil_top.specs.Answers.{loaded_within}
use Rattle.smil_top.specs.Evaluations.{loaded_number}
use Rattle.smil_top.specs.GivenLoads.{RecordsGiven}
use Rattle.smil_top.specs.Running.{IsCounted, given_of}
use Rattle.smil_top.proofs.AnswersMade.{in_house, refusal-of}
use Rattle.smil_top.proofs.EvaluationCounts.{counted-loaded, counted-refused, counted-unloaded}
use Rattle.smil_top.proofs.LoadsGiven.{given-recorded, given-unopened, given-untaken}
use Rattle.smil_top.proofs.session.Session.record_given.Goals as goal

pub returns-in_err-may_load-clause-recorded : goal.returns-in_err-may_load-clause-recorded
returns-in_err-may_load-clause-recorded g c session number keeps =
    let so_far = c.args.self.now in
    let house = so_far.house in
    let refusal : Refusal = c.in_err-may_load.field-0.0 in
    let p = err_from_is_err_and c.from_residual.result c.from_residual.ensures.1 in
    let taken : load_refusal c.args.given.name house ≡ Err refusal = refusal-of c.args.given.name c.slice.result.now house (Err refusal) c.slice.ensures c.in_err-may_load.ensures in
    let made = loaded_within limits session number (given_of c.args.given) in
    subst (λ r. RecordsGiven r c.args.changes.now so_far session made) (sym p.1)
    (subst (λ e. RecordsGiven (Err e) c.args.changes.now so_far session made) (sym p.2)
    (given-untaken (given_of c.args.given) so_far session number keeps c.args.changes.now refusal c.requires.empty taken))

pub returns-clause-recorded : goal.returns-clause-recorded
returns-clause-recorded g c session number keeps =
    let so_far = c.args.self.now in
    let house = so_far.house in
    let p = c.in_ok-player.player in
    let told : List Change = c.new.new.out in
    let free : load_refusal c.args.given.name house ≡ Ok tt = refusal-of c.args.given.name c.slice.result.now house (Ok c.in_ok-may_load.field-0) c.slice.ensures c.in_ok-may_load.ensures in
    let is : told ≡ load_told as_records p = c.in_ok-player.ensures.answer ∙ ap (λ (cs : List Change). cs ++ load_told as_records p) c.requires.empty in
    subst
    (λ h. RecordsGiven (Ok tt) told (in_house so_far h) session (loaded_within limits session number (given_of c.args.given)))
    (sym c.load.ensures)
    (given-recorded (given_of c.args.given) so_far session number keeps p told free c.in_ok-player.ensures.state is)

pub returns-in_err-player-clause-recorded : goal.returns-in_err-player-clause-recorded
returns-in_err-player-clause-recorded g c session number keeps =
    let so_far = c.args.self.now in
    let house = so_far.house in
    let free : load_refusal c.args.given.name house ≡ Ok tt = refusal-of c.args.given.name c.slice.result.now house (Ok c.in_ok-may_load.field-0) c.slice.ensures c.in_ok-may_load.ensures in
    let refusal : Refusal = c.in_err-player.field-0.0 in
    let p = err_from_is_err_and c.from_residual-in_err-player.result c.from_residual-in_err-player.ensures.1 in
    let told : List Change = c.new.new.out in
    let made = loaded_within limits session number (given_of c.args.given) in
    subst (λ r. RecordsGiven r told so_far session made) (sym p.1)
    (subst (λ e. RecordsGiven (Err e) told so_far session made) (sym p.2)
    (given-unopened (given_of c.args.given) so_far session number keeps told refusal (c.in_err-player.ensures.text ∙ c.requires.empty) free c.in_err-player.ensures.refused))

pub returns-in_err-may_load-clause-evaluated : goal.returns-in_err-may_load-clause-evaluated
returns-in_err-may_load-clause-evaluated g c session keeps =
    let p = err_from_is_err_and c.from_residual.result c.from_residual.ensures.1 in
    subst (λ r. IsCounted r (λ bound. loaded_number bound session (given_of c.args.given)) (c.args.steps.now - c.args.steps.now)) (sym p.1)
    (counted-refused p.0 (λ bound. loaded_number bound session (given_of c.args.given)) c.args.steps.now)

pub returns-clause-evaluated : goal.returns-clause-evaluated
returns-clause-evaluated g c session keeps =
    let house = c.args.self.now.house in
    let free : load_refusal c.args.given.name house ≡ Ok tt = refusal-of c.args.given.name c.slice.result.now house (Ok c.in_ok-may_load.field-0) c.slice.ensures c.in_ok-may_load.ensures in
    counted-loaded (given_of c.args.given) house session keeps.held c.in_ok-player.player (c.new.new.steps - c.args.steps.now) free c.in_ok-player.ensures.state c.in_ok-player.ensures.most c.in_ok-player.ensures.least

pub returns-in_err-player-clause-evaluated : goal.returns-in_err-player-clause-evaluated
returns-in_err-player-clause-evaluated g c session keeps =
    let rise : ℕ = c.new.new.steps - c.args.steps.now in
    let refusal : Refusal = c.in_err-player.field-0.0 in
    let p = err_from_is_err_and c.from_residual-in_err-player.result c.from_residual-in_err-player.ensures.1 in
    subst (λ r. IsCounted r (λ bound. loaded_number bound session (given_of c.args.given)) rise) (sym p.1)
    (subst (λ e. IsCounted (Err e) (λ bound. loaded_number bound session (given_of c.args.given)) rise) (sym p.2)
    (counted-unloaded (given_of c.args.given) c.args.self.now.house session keeps.held rise refusal c.in_err-player.ensures.refused))
