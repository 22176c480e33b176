use Rattle.smil_nodes.proofs.EndingPlaces.{housed}
use Rattle.smil_nodes.proofs.endings.Endings.of.Goals as goal

pub invariant_of-result : goal.invariant_of-result
invariant_of-result c =
    housed c.args.tree.now.nodes c.in_ok-homes_of.field-0.items c.in_ok-ends_of.field-0.items c.in_ok-homes_of.ensures c.in_ok-ends_of.ensures
