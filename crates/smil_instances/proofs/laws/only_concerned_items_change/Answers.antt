use Rattle.smil_instances.proofs.UnconcernedItems.{unconcerned}
use Rattle.smil_instances.proofs.laws.only_concerned_items_change.Goals as goal

pub returns : goal.returns
returns c = λ h y e side item timely free. unconcerned h y e side item timely free
