use Rattle.std.proofs.Common.{◌++◌, false, ap, sym, ◌∙◌, arith}
use Rattle.smil_top.proofs.OrderCuts.{count-with_line}
use Rattle.smil_top.proofs.held.Held.line.Goals as goal

pub returns-clause-answers : goal.returns-clause-answers
returns-clause-answers g c cut told is =
    let a = c.line.ensures.answers false cut told c.args.text.now is.running (omega (arith, is.number)) c.shown.ensures.line in
    record {
      more = a.more;
      held_is = record { running = a.running; number = omega (arith, is.number, count-with_line cut c.args.text.now) };
      answer_is = a.goes.text_is ∙ ap (λ zs. told.text ++ zs) (sym a.stands);
    }

pub returns-clause-evaluated : goal.returns-clause-evaluated
returns-clause-evaluated g c cut told is = c.line.ensures.evaluated cut told c.args.text.now is.running (omega (arith, is.number)) c.shown.ensures.line
