use Rattle.std.proofs.Common.{◌≡◌, ◌-◌, ◌++◌, ◌∷◌, [], ℕ, List, pos, Ok, Err, ap, sym, subst, ◌∙◌}
use Rattle.std.proofs.lemmas.Result.{err_from_is_err_and}
use Rattle.smil_model.specs.declared.order.Refusal.{Refusal}
use Rattle.smil_model.specs.document.Limits.{limits}
use Rattle.smil_model.specs.shown.Answers.{load_text}
use Rattle.smil_model.specs.shown.Lines.{ok_line}
use Rattle.smil_house.specs.House.{load_refusal}
use Rattle.smil_top.specs.declared.answer.Answer.{Answer as AnswerText}
use Rattle.smil_top.specs.Answers.{loaded_within}
use Rattle.smil_top.specs.Evaluations.{loaded_number}
use Rattle.smil_top.specs.Running.{IsCounted, Makes, given_of}
use Rattle.smil_top.proofs.EvaluationCounts.{counted-loaded, counted-refused, counted-unloaded}
use Rattle.smil_top.proofs.AnswersMade.{in_house, made-loaded, refusal-of, unmade-loaded, unloaded}
use Rattle.smil_top.proofs.session.Session.open.Goals as goal

pub returns-in_err-may_load-clause-answer : goal.returns-in_err-may_load-clause-answer
returns-in_err-may_load-clause-answer g c session keeps =
    let so_far = c.args.self.now in
    let house = so_far.house in
    let refusal : Refusal = c.in_err-may_load.field-0.0 in
    let p = err_from_is_err_and c.from_residual.result c.from_residual.ensures.1 in
    let taken : load_refusal c.args.given.name house ≡ Err refusal = refusal-of c.args.given.name c.slice.result.now house (Err refusal) c.slice.ensures c.in_err-may_load.ensures in
    let made = loaded_within limits session c.args.number (given_of c.args.given) in
    subst (λ r. Makes r c.args.answer.now so_far session made) (sym p.1)
    (subst (λ e. Makes (Err e) c.args.answer.now so_far session made) (sym p.2)
    (unloaded (given_of c.args.given) so_far session c.args.number keeps c.args.answer.now refusal taken))

pub returns-clause-answer : goal.returns-clause-answer
returns-clause-answer g c session keeps =
    let so_far = c.args.self.now in
    let house = so_far.house in
    let number : ℕ = c.args.number in
    let name : List ℕ = c.args.given.name in
    let p = c.in_ok-player.player in
    let told : List ℕ = c.new.new.out in
    let free : load_refusal name house ≡ Ok tt = refusal-of c.args.given.name c.slice.result.now house (Ok c.in_ok-may_load.field-0) c.slice.ensures c.in_ok-may_load.ensures in
    let is : told ≡ load_text p = c.in_ok-player.ensures.answer ∙ ap (λ (a : AnswerText). a.told ++ load_text p) c.requires.empty in
    let last : c.ok-answer.result ≡ ok_line number name (pos 0) = c.ok-answer.ensures ∙ ap (λ n. ok_line number n (pos 0)) c.slice-2.ensures in
    let made = made-loaded (given_of c.args.given) so_far session number keeps p told free c.in_ok-player.ensures.state is in
    subst
    (λ h. Makes (Ok tt) (record { told = told; last = c.ok-answer.result }) (in_house so_far h) session (loaded_within limits session number (given_of c.args.given)))
    (sym c.load.ensures)
    (subst
    (λ l. Makes (Ok tt) (record { told = told; last = l }) (in_house so_far (house ++ record { name = name; player = p } ∷ [])) session (loaded_within limits session number (given_of c.args.given)))
    (sym last)
    made)

pub returns-in_err-player-clause-answer : goal.returns-in_err-player-clause-answer
returns-in_err-player-clause-answer g c session keeps =
    let so_far = c.args.self.now in
    let house = so_far.house in
    let free : load_refusal c.args.given.name house ≡ Ok tt = refusal-of c.args.given.name c.slice.result.now house (Ok c.in_ok-may_load.field-0) c.slice.ensures c.in_ok-may_load.ensures in
    let refusal : Refusal = c.in_err-player.field-0.0 in
    let p = err_from_is_err_and c.from_residual-in_err-player.result c.from_residual-in_err-player.ensures.1 in
    let text : AnswerText = record { told = c.new.new.out; last = c.args.answer.now.last } in
    let made = loaded_within limits session c.args.number (given_of c.args.given) in
    subst (λ r. Makes r text so_far session made) (sym p.1)
    (subst (λ e. Makes (Err e) text so_far session made) (sym p.2)
    (unmade-loaded (given_of c.args.given) so_far session c.args.number keeps text refusal free c.in_err-player.ensures.refused))

pub returns-in_err-may_load-clause-evaluated : goal.returns-in_err-may_load-clause-evaluated
returns-in_err-may_load-clause-evaluated g c session keeps =
    let p = err_from_is_err_and c.from_residual.result c.from_residual.ensures.1 in
    subst (λ r. IsCounted r (λ bound. loaded_number bound session (given_of c.args.given)) (c.args.steps.now - c.args.steps.now)) (sym p.1)
    (counted-refused p.0 (λ bound. loaded_number bound session (given_of c.args.given)) c.args.steps.now)

pub returns-clause-evaluated : goal.returns-clause-evaluated
returns-clause-evaluated g c session keeps =
    let house = c.args.self.now.house in
    let free : load_refusal c.args.given.name house ≡ Ok tt = refusal-of c.args.given.name c.slice.result.now house (Ok c.in_ok-may_load.field-0) c.slice.ensures c.in_ok-may_load.ensures in
    counted-loaded (given_of c.args.given) house session keeps.held c.in_ok-player.player (c.new.new.steps - c.args.steps.now) free c.in_ok-player.ensures.state c.in_ok-player.ensures.most c.in_ok-player.ensures.least

pub returns-in_err-player-clause-evaluated : goal.returns-in_err-player-clause-evaluated
returns-in_err-player-clause-evaluated g c session keeps =
    let rise : ℕ = c.new.new.steps - c.args.steps.now in
    let refusal : Refusal = c.in_err-player.field-0.0 in
    let p = err_from_is_err_and c.from_residual-in_err-player.result c.from_residual-in_err-player.ensures.1 in
    subst (λ r. IsCounted r (λ bound. loaded_number bound session (given_of c.args.given)) rise) (sym p.1)
    (subst (λ e. IsCounted (Err e) (λ bound. loaded_number bound session (given_of c.args.given)) rise) (sym p.2)
    (counted-unloaded (given_of c.args.given) c.args.self.now.house session keeps.held rise refusal c.in_err-player.ensures.refused))
