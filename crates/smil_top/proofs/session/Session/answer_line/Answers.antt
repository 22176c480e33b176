use Rattle.std.proofs.Common.{◌-◌, Ok, ap, sym, ◌∙◌}
use Rattle.smil_grammar.specs.declared.read.Read.TheVariants.{To}
use Rattle.smil_top.proofs.EvaluationCounts.{counted-line}
use Rattle.smil_top.proofs.CopiedLines.{said-of}
use Rattle.smil_top.proofs.ShortNames.{read-short}
use Rattle.smil_top.proofs.session.Session.answer_line.Goals as goal

pub answer_order-requires-clause-name : goal.answer_order-requires-clause-name
answer_order-requires-clause-name g c =
    read-short c.args.line.now (To c.in-Some.name.now c.read.new.self) (said-of _ _ _ c.in-Some.is c.in_ok-name.ensures.reading)

pub returns-in-Some-clause-evaluated : goal.returns-in-Some-clause-evaluated
returns-in-Some-clause-evaluated g c session keeps runs =
    counted-line c.answer_order.result session c.args.line.now (To c.in-Some.name.now c.order-given.result.now) (c.answer_order.new.steps - c.args.steps.now) c.requires.short
    (said-of _ _ _ c.in-Some.is c.in_ok-name.ensures.reading ∙ ap (λ o. Ok (To c.in-Some.name.now o)) (sym c.order-given.ensures))
    (c.answer_order.ensures.evaluated session keeps runs)
