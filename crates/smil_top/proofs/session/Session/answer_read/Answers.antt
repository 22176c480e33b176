use Rattle.std.proofs.Common.{◌≡◌, ◌++◌, ℕ, ◌-◌, false, Ok, ap, sym, subst, ◌∙◌}
use Rattle.smil_top.specs.Evaluations.{ordered_number, said_number}
use Rattle.smil_top.specs.declared.answer.Answer.{Answer as AnswerText}
use Rattle.smil_top.specs.Answers.{preferring, preferred_line}
use Rattle.smil_top.specs.Running.{IsCounted, Makes, single_by, text_of}
use Rattle.smil_top.proofs.AnswersMade.{made-preferred}
use Rattle.smil_top.proofs.session.Session.answer_read.Goals as goal

pub returns-in-To-clause-evaluated : goal.returns-in-To-clause-evaluated
returns-in-To-clause-evaluated g c session keeps runs =
    let rise : ℕ = c.answer_to.new.steps - c.args.steps.now in
    subst (λ r. IsCounted c.answer_to.result (λ bound. said_number bound session r) rise) (sym c.in-To.is)
    (subst (λ n. IsCounted c.answer_to.result (λ bound. ordered_number bound session n c.in-To.order) rise) c.slice-name.ensures (c.answer_to.ensures.evaluated session keeps))

pub returns-in_ok-prefer-in-Prefer-clause-answer : goal.returns-in_ok-prefer-in-Prefer-clause-answer
returns-in_ok-prefer-in-Prefer-clause-answer g c session keeps =
    let number : ℕ = c.args.number in
    let new = c.prefer.new.self in
    let text : AnswerText = record { told = c.args.answer.now.told; last = c.preferred-answer.result } in
    let is : text_of text ≡ preferred_line number = ap (λ (a : AnswerText). a.told ++ c.preferred-answer.result) c.requires.empty ∙ c.preferred-answer.ensures in
    subst (λ b. Makes (Ok tt) text new session (single_by b session number c.args.read.now)) (sym c.if-self.false)
    (subst (λ r. Makes (Ok tt) text new session (single_by false session number r)) (sym c.in-Prefer.is)
    (made-preferred text number new session _ is (c.in_ok-prefer-in-Prefer.ensures.preferring session keeps)))
