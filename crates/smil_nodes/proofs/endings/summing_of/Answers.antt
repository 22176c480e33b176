use Rattle.std.proofs.Common.{◌∙◌, refl, sym}
use Rattle.smil_element.proofs.ElementReadings.{tree_node}
use Rattle.smil_nodes.proofs.endings.summing_of.Goals as goal

pub attrs-requires : goal.attrs-requires
attrs-requires c = tree_node c.args.tree.now c.args.tree.now c.args.who refl c.requires

pub returns-then-is_summed : goal.returns-then-is_summed
returns-then-is_summed c = λ e here. sym c.if-is_summed.true ∙ c.is_summed.ensures e here

pub returns-else-is_summed : goal.returns-else-is_summed
returns-else-is_summed c = λ e here. sym c.if-is_summed.false ∙ c.is_summed.ensures e here
