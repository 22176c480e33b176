use Rattle.smil_element.proofs.ElementReadings.{tree_node, tree_attrs}
use Rattle.smil_element.proofs.facts.attrs_of.Goals as goal

pub attrs-requires : goal.attrs-requires
attrs-requires c = tree_node c.args.past.now.document c.tree.result.now c.args.who c.tree.ensures c.requires

pub returns : goal.returns
returns c = λ e at.
    tree_attrs c.args.past.now.document c.tree.result.now c.args.who e c.attrs.result.now c.possible.ensures.valid.numbered.distinct c.tree.ensures at c.attrs.ensures
