use Rattle.std.proofs.Common.{sym, ap, ◌∙◌, List}
use Rattle.smil_model.specs.declared.document.Node.{Node}
use Rattle.smil_model.specs.document.Document.{serial_of, time_parent}
use Rattle.smil_past.specs.Queues.{excl_in}
use Rattle.smil_element.proofs.PlayingChild.{no_rival, rival_is}
use Rattle.smil_element.proofs.happening.excl.rival.Goals as goal

pub returns-in_err-excl : goal.returns-in_err-excl
returns-in_err-excl c = λ h parts.
    let above = c.in_err-excl.ensures.above ∙ ap (λ (ns : List Node). serial_of (excl_in (time_parent ns c.args.who))) (sym parts.same_nodes) in
    c.from_residual.ensures ∙ no_rival h (time_parent h.nodes c.args.who) above

pub returns : goal.returns
returns c = λ h parts.
    let above = c.in_ok-excl.ensures.above ∙ ap (λ (ns : List Node). serial_of (excl_in (time_parent ns c.args.who))) (sym parts.same_nodes) in
    c.playing.ensures h parts.queues_are ∙ rival_is h c.in_ok-excl.excl (time_parent h.nodes c.args.who) above

pub playing-requires : goal.playing-requires
playing-requires c = c.in_ok-excl.ensures.kind
