use Rattle.std.proofs.Common.{◌-◌, Err, sym, subst}
use Rattle.std.proofs.lemmas.Result.{err_from_is_err_and}
use Rattle.smil_script.specs.Copies.{line_copies}
use Rattle.smil_top.specs.Evaluations.{line_number}
use Rattle.smil_top.specs.Running.{Makes, line_by}
use Rattle.smil_top.proofs.EvaluationCounts.{counted-line, counted-refused}
use Rattle.smil_top.proofs.AnswersMade.{unmade-line}
use Rattle.smil_top.proofs.CopiedLines.{copied-any, copied-read}
use Rattle.smil_top.proofs.ShortNames.{read-short}
use Rattle.smil_top.proofs.session.Session.answer_other.Goals as goal

pub answer_read-requires-clause-name : goal.answer_read-requires-clause-name
answer_read-requires-clause-name g c = read-short c.args.line.now c.in_ok-read.read c.in_ok-read.ensures.reading

pub returns-in_err-read-clause-answer : goal.returns-in_err-read-clause-answer
returns-in_err-read-clause-answer g c session keeps =
    let checks = c.args.self.now.checks in
    let so_far = c.args.self.now in
    let p = err_from_is_err_and c.from_residual.result c.from_residual.ensures.1 in
    rw p.1 (subst (λ e. Makes (Err e) c.args.answer.now so_far session (line_by checks session c.args.number c.args.line.now)) (sym p.2)
    (unmade-line checks so_far session c.args.number c.args.line.now keeps c.args.answer.now c.in_err-read.field-0.0 c.in_err-read.ensures.reading))

pub returns-clause-evaluated : goal.returns-clause-evaluated
returns-clause-evaluated g c session keeps runs =
    counted-line c.answer_read.result session c.args.line.now c.in_ok-read.read (c.answer_read.new.steps - c.args.steps.now) c.requires.short c.in_ok-read.ensures.reading
    (c.answer_read.ensures.evaluated session keeps runs)

pub returns-in_err-read-clause-evaluated : goal.returns-in_err-read-clause-evaluated
returns-in_err-read-clause-evaluated g c session keeps runs =
    let p = err_from_is_err_and c.from_residual.result c.from_residual.ensures.1 in
    rw p.1 (counted-refused p.0 (λ bound. line_number bound session c.args.line.now) c.args.steps.now)

pub returns-clause-copied : goal.returns-clause-copied
returns-clause-copied g c = copied-any (line_copies c.args.line.now) c.answer_read.result (copied-read c.args.line.now c.in_ok-read.read c.in_ok-read.ensures.reading)
