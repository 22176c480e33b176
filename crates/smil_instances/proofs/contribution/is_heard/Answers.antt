use Rattle.std.proofs.Common.{◌∙◌, ap, sym}
use Rattle.std.specs.Prelude.{◌&&◌}
use Rattle.smil_model.specs.interval.Instances.{hears}
use Rattle.smil_instances.proofs.IdTargets.{means_known}
use Rattle.smil_instances.proofs.contribution.is_heard.Goals as goal

pub occurs-requires-clause-element : goal.occurs-requires-clause-element
occurs-requires-clause-element c = λ x q. means_known c.args.arrival.now.history.tree.now.nodes c.args.own.now.who x c.args.own.now.item.now c.requires.element (sym c.requires.means ∙ q)

pub returns-else-occurs : goal.returns-else-occurs
returns-else-occurs c = λ h y e is at.
    c.if-occurs.false
    ∙ sym (ap (λ t. t && hears h e c.args.own.now.side c.args.own.now.item.now) (sym (c.occurs.ensures h y c.args.arrival.now.clocks.now is) ∙ c.if-occurs.false))
