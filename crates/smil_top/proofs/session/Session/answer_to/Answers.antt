use Rattle.std.proofs.Common.{◌≡◌, ◌++◌, ◌-◌, ℕ, List, length, drop, Ok, Err, ap, sym, subst, ◌∙◌, arith, to_z, of_z, w64}
use Rattle.std.proofs.lemmas.Int.{ints}
use Rattle.std.proofs.lemmas.Result.{err_from_is_err_and}
use Rattle.smil_model.specs.declared.order.Refusal.{Refusal}
use Rattle.smil_model.specs.document.Limits.{limits}
use Rattle.smil_model.specs.shown.Lines.{ok_line}
use Rattle.smil_top.specs.declared.answer.Answer.{Answer as AnswerText}
use Rattle.smil_top.specs.Answers.{ordered_within}
use Rattle.smil_top.specs.Evaluations.{ordered_number}
use Rattle.smil_top.specs.Running.{IsCounted, Makes}
use Rattle.smil_top.proofs.EvaluationCounts.{counted-ordered, counted-unordered}
use Rattle.smil_top.proofs.AnswersMade.{in_house, made-ordered, unmade-ordered}
use Rattle.smil_top.proofs.session.Session.answer_to.Goals as goal

pub returns-clause-answer : goal.returns-clause-answer
returns-clause-answer g c session keeps =
    let so_far = c.args.self.now in
    let new = c.answer.new.self in
    let number : ℕ = c.args.number in
    let name : List ℕ = c.args.named.now.name.now in
    let order = c.args.named.now.order.now in
    let told : List ℕ = c.answer.new.out in
    let text : List ℕ = drop (length c.args.answer.now.told) told in
    let is : told ≡ text = c.in_ok-now.ensures.appended ∙ ap (λ (a : AnswerText). a.told ++ text) c.requires.empty in
    let now : to_z w64 (of_z w64 c.in_ok-now.now) ≡ c.in_ok-now.now = omega (arith, ints) in
    let last : c.put_ok.new.self ≡ ok_line number name c.in_ok-now.now = c.put_ok.ensures ∙ ap (ok_line number name) now in
    let made = made-ordered name order so_far new session number keeps text told (c.answer.new.steps - c.args.steps.now) c.in_ok-now.now is c.in_ok-now.ensures.ok in
    subst (λ l. Makes (Ok tt) (record { told = told; last = l }) (in_house so_far new) session (ordered_within limits session number name order)) (sym last) made

pub returns-in_err-now-clause-answer : goal.returns-in_err-now-clause-answer
returns-in_err-now-clause-answer g c session keeps =
    let so_far = c.args.self.now in
    let new = c.answer.new.self in
    let number : ℕ = c.args.number in
    let name : List ℕ = c.args.named.now.name.now in
    let order = c.args.named.now.order.now in
    let text : AnswerText = c.args.answer.now in
    let refusal : Refusal = c.in_err-now.field-0.0 in
    let p = err_from_is_err_and c.from_residual.result c.from_residual.ensures.1 in
    let unmade = unmade-ordered name order so_far new session number keeps text (c.answer.new.steps - c.args.steps.now) refusal c.in_err-now.ensures.refused c.in_err-now.ensures.kept in
    rw p.1 (subst (λ e. Makes (Err e) text (in_house so_far new) session (ordered_within limits session number name order)) (sym p.2) unmade)

pub returns-clause-evaluated : goal.returns-clause-evaluated
returns-clause-evaluated g c session keeps =
    let house = c.args.self.now.house in
    let order = c.args.named.now.order.now in
    let text : List ℕ = drop (length c.args.answer.now.told) c.answer.new.out in
    let rise : ℕ = c.answer.new.steps - c.args.steps.now in
    counted-ordered c.args.named.now.name.now order house c.answer.new.self session keeps.held text rise c.in_ok-now.now c.in_ok-now.ensures.ok

pub returns-in_err-now-clause-evaluated : goal.returns-in_err-now-clause-evaluated
returns-in_err-now-clause-evaluated g c session keeps =
    let house = c.args.self.now.house in
    let order = c.args.named.now.order.now in
    let rise : ℕ = c.answer.new.steps - c.args.steps.now in
    let refusal : Refusal = c.in_err-now.field-0.0 in
    let p = err_from_is_err_and c.from_residual.result c.from_residual.ensures.1 in
    rw p.1 (subst (λ e. IsCounted (Err e) (λ bound. ordered_number bound session c.args.named.now.name.now order) rise) (sym p.2)
    (counted-unordered c.args.named.now.name.now order house c.answer.new.self session keeps.held rise refusal c.in_err-now.ensures.refused))
