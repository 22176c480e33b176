use Rattle.smil_instances.proofs.TimesAfterEntry.{taken_in}
use Rattle.smil_instances.proofs.laws.entries_are_taken_in.Goals as goal

pub returns : goal.returns
returns c = λ h y e side item timely. taken_in h y e side item timely
