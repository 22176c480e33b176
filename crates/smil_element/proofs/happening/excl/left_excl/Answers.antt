use Rattle.std.proofs.Common.{sym, ap, ◌∙◌, List, true, false}
use Rattle.smil_model.specs.declared.document.Node.{Node}
use Rattle.smil_model.specs.document.Document.{serial_of, time_parent}
use Rattle.smil_past.specs.Queues.{excl_in}
use Rattle.smil_element.proofs.PlayingChild.{no_left, left_is}
use Rattle.smil_model.specs.reach.Reach.{is_option}
use Rattle.smil_element.proofs.happening.excl.left_excl.Goals as goal

pub returns-in_err-excl : goal.returns-in_err-excl
returns-in_err-excl c = λ h parts.
    let above = c.in_err-excl.ensures.above ∙ ap (λ (ns : List Node). serial_of (excl_in (time_parent ns c.args.who))) (sym parts.same_nodes) in
    c.from_residual.ensures ∙ no_left h c.args.who (time_parent h.nodes c.args.who) above

pub returns-then-is_it : goal.returns-then-is_it
returns-then-is_it c = λ h parts.
    let above = c.in_ok-excl.ensures.above ∙ ap (λ (ns : List Node). serial_of (excl_in (time_parent ns c.args.who))) (sym parts.same_nodes) in
    left_is h c.args.who c.in_ok-excl.excl (time_parent h.nodes c.args.who) true above
    (ap (is_option c.args.who) (sym (c.playing.ensures h parts.queues_are)) ∙ sym c.is_it.ensures ∙ c.if-is_it.true)

pub returns-else-is_it : goal.returns-else-is_it
returns-else-is_it c = λ h parts.
    let above = c.in_ok-excl.ensures.above ∙ ap (λ (ns : List Node). serial_of (excl_in (time_parent ns c.args.who))) (sym parts.same_nodes) in
    left_is h c.args.who c.in_ok-excl.excl (time_parent h.nodes c.args.who) false above
    (ap (is_option c.args.who) (sym (c.playing.ensures h parts.queues_are)) ∙ sym c.is_it.ensures ∙ c.if-is_it.false)

pub playing-requires : goal.playing-requires
playing-requires c = c.in_ok-excl.ensures.kind
