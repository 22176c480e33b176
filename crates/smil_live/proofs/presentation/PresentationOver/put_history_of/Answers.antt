use Rattle.std.proofs.Common.{sym, ◌∙◌, ap, ◌++◌, Option}
use Rattle.smil_model.specs.declared.document.Node.{Node as AnyNode}
use Rattle.smil_model.specs.shown.Answers.{history_text}
use Rattle.smil_live.proofs.OrderOutcomes.{found_named}
use Rattle.smil_live.proofs.presentation.PresentationOver.put_history_of.Goals as goal

pub put_history_at-requires : goal.put_history_at-requires
put_history_at-requires g c = let n = c.in_ok-serial.ensures.ok in (c.args.who.now, n.0, n.1, n.2)

pub returns-clause-told : goal.returns-clause-told
returns-clause-told g c =
    let n = c.in_ok-serial.ensures.ok in
    c.in_ok-put_history_at.ensures.told c.args.who.now n.0 n.1 n.2
    ∙ ap (λ (o : Option AnyNode). c.args.out.now ++ history_text c.args.self.now o) (sym (found_named c.args.self.now c.args.who.now n.0 n.1).0)
