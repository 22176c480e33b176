use Rattle.std.proofs.Common.{ap, subst, sym, Err, ◌∙◌}
use Rattle.std.proofs.lemmas.Result.{err_from_is_err_and}
use Rattle.smil_model.specs.declared.order.Order.{Order}
use Rattle.smil_grammar.specs.Gives.{GivesReading}
use Rattle.smil_grammar.specs.Positions.{Piece}
use Rattle.smil_grammar.specs.Scripts.{event_line, finish, with_who}
use Rattle.smil_script.proofs.EventLines.{event_read, event_unended, event_unnamed}
use Rattle.smil_script.proofs.verbs.put_event.Goals as goal

pub returns-in_err-put_event_name-clause-reading : goal.returns-in_err-put_event_name-clause-reading
returns-in_err-put_event_name-clause-reading c =
    let p = err_from_is_err_and c.from_residual-in_err-put_event_name.result c.from_residual-in_err-put_event_name.ensures.1 in
    rw p.1 (subst (λ e. GivesReading {A = Order} (Err e) (finish (with_who event_line c.args.line.now))) (sym p.2)
    (event_unnamed c.args.line.now c.first-element.result c.first-word.result c.element.inside.text.now c.word.inside.text.now c.put_who.new.who c.first-element.ensures c.first-word.ensures (ap (λ (p : Piece). p.text) c.element.view_is)
    (ap (λ (p : Piece). p.text) c.word.view_is) c.in_ok-put_who.ensures.reading c.in_err-put_event_name.field-0.0 c.in_err-put_event_name.ensures.reading))

pub returns-then-is_ended-clause-reading : goal.returns-then-is_ended-clause-reading
returns-then-is_ended-clause-reading c =
    event_read c.args.line.now c.first-element.result c.first-word.result c.element.inside.text.now c.word.inside.text.now c.put_who.new.who c.first-element.ensures c.first-word.ensures (ap (λ (p : Piece). p.text) c.element.view_is)
    (ap (λ (p : Piece). p.text) c.word.view_is) c.in_ok-put_who.ensures.reading c.put_event_name.new.name c.in_ok-put_event_name.ensures.reading (sym c.is_ended.ensures ∙ c.if-is_ended.true)

pub returns-else-is_ended-clause-reading : goal.returns-else-is_ended-clause-reading
returns-else-is_ended-clause-reading c =
    event_unended c.args.line.now c.first-element.result c.first-word.result c.element.inside.text.now c.word.inside.text.now c.put_who.new.who c.first-element.ensures c.first-word.ensures (ap (λ (p : Piece). p.text) c.element.view_is)
    (ap (λ (p : Piece). p.text) c.word.view_is) c.in_ok-put_who.ensures.reading c.put_event_name.new.name c.in_ok-put_event_name.ensures.reading (sym c.is_ended.ensures ∙ c.if-is_ended.false)
