use Rattle.smil_instances.proofs.ExpectedBegins.{are_merged}
use Rattle.smil_instances.proofs.laws.instances_are_merged.Goals as goal

pub returns : goal.returns
returns c = λ h intervals now e. are_merged h intervals now e
