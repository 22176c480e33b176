use Rattle.std.proofs.Common.{◌≡◌, ℕ, List, [], Ok, Err, ap, sym, subst, ◌∙◌}
use Rattle.std.proofs.lemmas.Result.{err_from_is_err_and}
use Rattle.smil_model.specs.declared.order.Refusal.{Refusal}
use Rattle.smil_model.specs.shown.Lines.{closed_line}
use Rattle.smil_top.specs.declared.answer.Answer.{Answer as AnswerText}
use Rattle.smil_top.specs.Answers.{close_answer}
use Rattle.smil_top.specs.Running.{Makes}
use Rattle.smil_top.proofs.AnswersMade.{in_house, made-closed, unmade-closed}
use Rattle.smil_top.proofs.session.Session.close.Goals as goal

pub returns-clause-answer : goal.returns-clause-answer
returns-clause-answer c session keeps =
    let so_far = c.args.self.now in
    let new = c.close.new.self in
    let number : ℕ = c.args.number in
    let name : List ℕ = c.slice.result.now in
    let last : c.closed-answer.result ≡ closed_line number name =
    c.closed-answer.ensures ∙ ap (closed_line number) (c.slice-2.ensures ∙ sym c.slice.ensures)
    in
    let made = made-closed name so_far new session number keeps c.in_ok-close.ensures.absent c.in_ok-close.ensures.closed in
    subst
    (λ (a : AnswerText). Makes (Ok tt) (record { told = a.told; last = c.closed-answer.result }) (in_house so_far new) session (close_answer session number c.args.name.now))
    (sym c.requires.empty)
    (subst
    (λ n. Makes (Ok tt) (record { told = []; last = c.closed-answer.result }) (in_house so_far new) session (close_answer session number n))
    c.slice.ensures
    (subst (λ l. Makes (Ok tt) (record { told = []; last = l }) (in_house so_far new) session (close_answer session number name)) (sym last) made))

pub returns-in_err-close-clause-answer : goal.returns-in_err-close-clause-answer
returns-in_err-close-clause-answer c session keeps =
    let so_far = c.args.self.now in
    let new = c.close.new.self in
    let number : ℕ = c.args.number in
    let name : List ℕ = c.slice.result.now in
    let text : AnswerText = c.args.answer.now in
    let refusal : Refusal = c.in_err-close.field-0.0 in
    let p = err_from_is_err_and c.from_residual.result c.from_residual.ensures.1 in
    let unmade = unmade-closed name so_far new session number text refusal keeps c.in_err-close.ensures.absent c.in_err-close.ensures.closed c.in_err-close.ensures.kept in
    rw p.1 (subst (λ e. Makes (Err e) text (in_house so_far new) session (close_answer session number c.args.name.now)) (sym p.2)
    (subst (λ n. Makes (Err refusal) text (in_house so_far new) session (close_answer session number n)) c.slice.ensures unmade))
