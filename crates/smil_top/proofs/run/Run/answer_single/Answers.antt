use Rattle.std.proofs.Common.{◌≡◌, ℕ, ◌-◌, List, Bool, false, ap, sym, subst, ◌∙◌}
use Rattle.smil_top.specs.Cut.{OrderLines, single}
use Rattle.smil_top.specs.Evaluations.{line_number}
use Rattle.smil_top.specs.Answers.{at_line}
use Rattle.smil_top.specs.Transcript.{TranscriptState}
use Rattle.smil_top.specs.Running.{MakesAnswer, Makes, Tells, answering, line_by}
use Rattle.smil_top.proofs.EvaluationCounts.{counted-single, evaluated-more}
use Rattle.smil_top.proofs.TranscriptStep.{counted_as, single-made, told-order}
use Rattle.smil_top.proofs.run.Run.answer_single.Given.{Over}
use Rattle.smil_top.proofs.run.Run.answer_single.Goals as goal
use Rattle.smil_top.proofs.run.Run.answer_single.Goals.{After-answer_line-answered}

-- what is made of the line is what it is answered
made : (g : Over) (c : After-answer_line-answered g) (checks : Bool) (whole : List OrderLines) (told : TranscriptState) → Tells checks c.args.self.now whole told
    → MakesAnswer (at_line c.args.number c.answer_line-answered.result) c.answer_line-answered.new.answer c.answer_line-answered.new.self told.session (answering checks) (single (record { number = c.args.number; text = c.args.text.now }))
made g c checks whole told tells =
    let r = c.answer_line-answered.result in
    let text = c.answer_line-answered.new.answer in
    let so_far = c.answer_line-answered.new.self in
    single-made checks r text so_far told.session c.args.number c.args.text.now c.requires.short c.answer_line-answered.ensures.copied
    (subst (λ (k : Bool). Makes r text so_far told.session (line_by k told.session c.args.number c.args.text.now)) tells.checks_is (c.answer_line-answered.ensures.answer told.session tells.keeps))

pub returns-clause-answers : goal.returns-clause-answers
returns-clause-answers g c checks whole told tells =
    let text = c.answer_line-answered.new.answer in
    let between = c.answer_line-answered.new.self in
    let order : OrderLines = single (record { number = c.args.number; text = c.args.text.now }) in
    told-order between order c.at.result text tells
    (subst (λ a. MakesAnswer a text between told.session (answering checks) order) (sym c.at.ensures) (made g (goal.at.returns-clause-answers g c).After-answer_line-answered checks whole told tells))
    c.tell.ensures.session c.answer_line-answered.ensures.checks c.tell.ensures.counts c.tell.ensures.writes c.tell.ensures.answer

pub returns-clause-evaluated : goal.returns-clause-evaluated
returns-clause-evaluated g c whole told tells =
    let number : ℕ = c.args.number in
    let line : List ℕ = c.args.text.now in
    let r = c.answer_line-answered.result in
    let e = c.answer_line-answered.ensures in
    let text = c.answer_line-answered.new.answer in
    let rise : ℕ = c.answer_line-answered.new.steps - c.args.steps.now in
    let counts : c.tell.new.self.counts ≡ counted_as c.at.result text c.args.self.now.counts = c.tell.ensures.counts in
    evaluated-more (single (record { number = number; text = line })) (at_line number r) text c.answer_line-answered.new.self c.args.steps.now c.answer_line-answered.new.steps tells (made g (goal.at.returns-clause-evaluated g c).After-answer_line-answered false whole told tells)
    (counted-single r number (λ bound. line_number bound told.session line) rise (e.evaluated told.session tells.keeps tells.checks_is)) e.counted
    (counts ∙ ap (λ a. counted_as a text c.args.self.now.counts) c.at.ensures)
