use Rattle.smil_instances.proofs.IdTargets.{known_node}
use Rattle.smil_instances.proofs.before.was_alive.Goals as goal

pub time_parent-requires : goal.time_parent-requires
time_parent-requires c = known_node c.args.tree.now.nodes c.args.who c.requires.element
