use Rattle.std.proofs.Common.{◌∙◌, ap, subst, sym, Err}
use Rattle.std.proofs.lemmas.Result.{err_from_is_err_and}
use Rattle.smil_grammar.specs.declared.read.Read.{Read}
use Rattle.smil_grammar.specs.Gives.{GivesReading}
use Rattle.smil_grammar.specs.Positions.{Piece}
use Rattle.smil_grammar.specs.Scripts.{finish, line_of, order_line, to}
use Rattle.smil_script.proofs.CopiedLines.{copies_is, line_to, stopped}
use Rattle.smil_script.proofs.last_order.LastOrder.read.Goals as goal

pub returns-in_err-put-clause-refused : goal.returns-in_err-put-clause-refused
returns-in_err-put-clause-refused c =
    let name = c.word.inside.text.now in
    let said = c.verb.inside.text.now in
    let verb = c.first-verb.result in
    let line = line_to c.args.line.now c.first-word.result verb name said c.first-word.ensures c.first-verb.ensures (ap (λ (p : Piece). p.text) c.word.view_is) (ap (λ (p : Piece). p.text) c.verb.view_is)
    (sym c.is_blank.ensures ∙ c.if-is_blank.false) (sym c.is_presentation_name.ensures ∙ c.if-not-is_presentation_name.false) (sym c.is_preference.ensures ∙ c.if-is_preference.false)
    in
    let p = err_from_is_err_and c.from_residual.result c.from_residual.ensures.1 in
    rw p.1 (subst (λ e. GivesReading {A = Read} (Err e) (line_of c.args.line.now)) (sym p.2)
    (stopped c.in_err-put.field-0.0 (finish (order_line said verb.1)) (line_of c.args.line.now) (λ is. line ∙ ap (to name) is) c.in_err-put.ensures.reading))

pub returns-in_err-put-clause-copied : goal.returns-in_err-put-clause-copied
returns-in_err-put-clause-copied c =
    let name = c.word.inside.text.now in
    let said = c.verb.inside.text.now in
    let verb = c.first-verb.result in
    let copies = copies_is c.args.line.now c.first-word.result verb name said c.first-word.ensures c.first-verb.ensures (ap (λ (p : Piece). p.text) c.word.view_is) (ap (λ (p : Piece). p.text) c.verb.view_is)
    (sym c.is_blank.ensures ∙ c.if-is_blank.false) (sym c.is_presentation_name.ensures ∙ c.if-not-is_presentation_name.false) (sym c.is_preference.ensures ∙ c.if-is_preference.false)
    in
    let p = err_from_is_err_and c.from_residual.result c.from_residual.ensures.1 in
    rw p.1 (λ memory. copies ∙ c.in_err-put.ensures.copied (sym p.2 ∙ memory))

pub returns-clause-reading : goal.returns-clause-reading
returns-clause-reading c =
    let name = c.word.inside.text.now in
    let said = c.verb.inside.text.now in
    let verb = c.first-verb.result in
    let line = line_to c.args.line.now c.first-word.result verb name said c.first-word.ensures c.first-verb.ensures (ap (λ (p : Piece). p.text) c.word.view_is) (ap (λ (p : Piece). p.text) c.verb.view_is)
    (sym c.is_blank.ensures ∙ c.if-is_blank.false) (sym c.is_presentation_name.ensures ∙ c.if-not-is_presentation_name.false) (sym c.is_preference.ensures ∙ c.if-is_preference.false)
    in
    line ∙ ap (to name) c.in_ok-put.ensures.reading
