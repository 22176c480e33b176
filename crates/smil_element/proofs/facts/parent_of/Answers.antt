use Rattle.smil_element.proofs.ElementReadings.{parent_known, tree_node, tree_parent}
use Rattle.smil_element.proofs.facts.parent_of.Goals as goal

pub time_parent-requires : goal.time_parent-requires
time_parent-requires c = tree_node c.args.past.now.document c.tree.result.now c.args.who c.tree.ensures c.requires

pub returns-clause-element : goal.returns-clause-element
returns-clause-element c =
    parent_known c.args.past.now.document.nodes c.args.who c.time_parent.result c.possible.ensures.valid.numbered.distinct c.requires
    (tree_parent c.args.past.now.document c.tree.result.now c.args.who c.time_parent.result c.tree.ensures c.time_parent.ensures)
