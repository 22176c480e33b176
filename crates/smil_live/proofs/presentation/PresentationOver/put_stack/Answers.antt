use Rattle.std.proofs.Common.{sym, ◌∙◌, ap, ◌++◌, Option}
use Rattle.smil_model.specs.declared.document.Node.{Node as AnyNode}
use Rattle.smil_model.specs.shown.Answers.{stack_text}
use Rattle.smil_live.proofs.presentation.PresentationOver.put_stack.Goals as goal

pub returns-clause-told : goal.returns-clause-told
returns-clause-told g c =
    let n = c.in_ok-target.ensures.ok in
    c.in_ok-put_stack_at.ensures.told n.0 (sym n.2) ∙ ap (λ (o : Option AnyNode). c.args.out.now ++ stack_text c.args.self.now c.args.attr.now o) (sym n.1)
