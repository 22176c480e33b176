use Rattle.std.proofs.Common.{sym, ◌∙◌, ap, ◌++◌, append-nil, w64, rules}
use Rattle.std.proofs.lemmas.Int.{to_z-of_z}
use Rattle.std.specs.Prelude.{is_some, not}
use Rattle.std.proofs.lemmas.Result.{on_ok_weaker}
use Rattle.smil_report.specs.Words.{who_of}
use Rattle.smil_shown.proofs.LinesTold.{gone_one, not_gone, still_there}
use Rattle.smil_shown.proofs.lines.put_where_gone.Goals as goal
use Rattle.smil_shown.proofs.lines.put_where_gone.Goals.{else-is_element-via-then-is_element+else-is_none, else-is_element-via-else-is_element}

pub returns-then-is_none-clause-ok : goal.returns-then-is_none-clause-ok
returns-then-is_none-clause-ok g c = λ n at.
    let before = c.args.scene.tree.now.nodes in
    let after = c.args.after.now.nodes in
    let out = c.args.out.now in
    let told = gone_one g.I.ChangeItem.telling before after c.args.scene.moment c.args.serial c.kind.result n at c.kind.ensures (sym c.is_element.ensures ∙ c.if-is_element.true)
    (ap is_some (sym c.position.ensures) ∙ (c.is_none.ensures ∙ ap not c.if-is_none.true)) in
    on_ok_weaker c.put_gone.result
    (λ made. made
    ∙ (ap (λ z. out ++ g.I.ChangeItem.telling.gone z (who_of c.name_of.result) c.args.serial) (to_z-of_z w64 c.args.scene.moment (search rules))
    ∙ (ap (λ name. out ++ g.I.ChangeItem.telling.gone c.args.scene.moment name c.args.serial) c.name_of.ensures ∙ ap (λ l. out ++ l) (sym told))))
    c.put_gone.ensures.ok

pub returns-else-is_element-clause-ok : goal.returns-else-is_element-clause-ok
returns-else-is_element-clause-ok g c = λ n at.
    let before = c.args.scene.tree.now.nodes in
    let after = c.args.after.now.nodes in
    let out = c.args.out.now in
    sym (append-nil out) ∙ ap (λ l. out ++ l) (sym (elim c.else-is_element.branch [
      | else-is_element-via-then-is_element+else-is_none w ↦
          still_there g.I.ChangeItem.telling before after c.args.scene.moment c.args.serial n at (ap is_some (sym w.position.ensures) ∙ (w.is_none.ensures ∙ ap not w.if-is_none.false))
      | else-is_element-via-else-is_element w ↦
          not_gone g.I.ChangeItem.telling before after c.args.scene.moment c.args.serial c.kind.result n at c.kind.ensures (sym c.is_element.ensures ∙ w.if-is_element.false)
    ]))
