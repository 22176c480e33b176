use Rattle.std.proofs.Common.{◌≡◌, List, Bool, false, Some, ap, subst, ◌∙◌}
use Rattle.smil_top.specs.declared.counts.Counts.{Counts}
use Rattle.smil_top.specs.Cut.{LoadLines, OrderLines, load}
use Rattle.smil_top.specs.Transcript.{TranscriptState}
use Rattle.smil_top.specs.Running.{IsRead, MakesAnswer, Tells, answering}
use Rattle.smil_top.proofs.EvaluationCounts.{evaluated-more}
use Rattle.smil_top.proofs.TranscriptStep.{told-order, counted_as}
use Rattle.smil_top.proofs.run.Run.end_load.Given.{Over}
use Rattle.smil_top.proofs.run.Run.end_load.Goals as goal
use Rattle.smil_top.proofs.run.Run.end_load.Goals.{After-answer_load-answered}

-- what is made of the load is what it is answered
made : (g : Over) (c : After-answer_load-answered g) (checks : Bool) (whole : List OrderLines) (lines : LoadLines) (told : TranscriptState) → IsRead c.args.load told.session.wanted lines → Tells checks c.args.self.now whole told
    → MakesAnswer c.answer_load-answered.result c.answer_load-answered.new.self.answer c.answer_load-answered.new.self.session told.session (answering checks) (load lines (Some c.args.number))
made g c checks whole lines told read tells =
    let between = c.answer_load-answered.new.self in
    subst (λ (k : Bool). MakesAnswer c.answer_load-answered.result between.answer between.session told.session (answering k) (load lines (Some c.args.number))) tells.checks_is
    (c.answer_load-answered.ensures.answer told.session lines tells.keeps read)

pub returns-clause-answers : goal.returns-clause-answers
returns-clause-answers g c checks whole lines told read tells =
    let answered = c.answer_load-answered.result in
    let between = c.answer_load-answered.new.self in
    let e = c.answer_load-answered.ensures in
    told-order between.session (load lines (Some c.args.number)) answered between.answer tells (made g (goal.at.returns-clause-answers g c).After-answer_load-answered checks whole lines told read tells)
    c.tell.ensures.session e.checks (c.tell.ensures.counts ∙ ap (λ (k : Counts). counted_as answered between.answer k) e.counts) c.tell.ensures.writes c.tell.ensures.answer

pub returns-clause-evaluated : goal.returns-clause-evaluated
returns-clause-evaluated g c whole lines told read tells =
    let answered = c.answer_load-answered.result in
    let between = c.answer_load-answered.new.self in
    let e = c.answer_load-answered.ensures in
    let counts : c.tell.new.self.counts ≡ counted_as answered between.answer between.counts = c.tell.ensures.counts in
    evaluated-more (load lines (Some c.args.number)) answered between.answer between.session c.args.steps.now c.answer_load-answered.new.steps tells (made g (goal.at.returns-clause-evaluated g c).After-answer_load-answered false whole lines told read tells)
    (e.evaluated told.session lines tells.keeps read tells.checks_is) e.counted
    (counts ∙ ap (λ (k : Counts). counted_as answered between.answer k) e.counts)
