use Rattle.smil_switch.proofs.PushGrowsTree.{of_the_tree}
use Rattle.smil_switch.proofs.laws.choice_is_of_the_tree.Goals as goal

pub returns : goal.returns
returns c = λ wanted lines kept e. of_the_tree wanted lines kept e
