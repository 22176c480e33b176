use Rattle.std.proofs.Common.{sym, ap, ◌∙◌, Some}
use Rattle.smil_instances.specs.Occurrence.{occurs_in}
use Rattle.smil_instances.proofs.EarlierHistory.{before_of}
use Rattle.smil_instances.proofs.occurrence.occurs.Goals as goal

pub returns-in-Repeat-Some : goal.returns-in-Repeat-Some
returns-in-Repeat-Some c = λ h y clocks is.
    c.is_repeat.ensures h y is.same_nodes (before_of h y c.args.arrival.now.history.tree.now clocks c.args.arrival.now.history.log.now c.args.arrival.now.history.book.now is)
    ∙ ap (occurs_in h y (Some c.in-Repeat-Some.of)) (sym c.in-Repeat-Some.is-0)
    ∙ ap (λ o. occurs_in h y o c.args.item.now) (sym c.in-Repeat-Some.is-1)
