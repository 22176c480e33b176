use Rattle.std.proofs.Common.{sym, ◌∙◌}
use Rattle.smil_instances.proofs.IdTargets.{means_known}
use Rattle.smil_instances.proofs.sensitivity.is_same_event.Goals as goal

pub means-requires : goal.means-requires
means-requires c = λ x q. means_known c.args.tree.now.nodes c.args.own.now.who x c.args.own.now.item.now c.requires.element (sym c.requires.means ∙ q)

pub means-requires-in-Repeat-Repeat : goal.means-requires-in-Repeat-Repeat
means-requires-in-Repeat-Repeat c = λ x q. means_known c.args.tree.now.nodes c.args.own.now.who x c.args.own.now.item.now c.requires.element (sym c.requires.means ∙ q)
