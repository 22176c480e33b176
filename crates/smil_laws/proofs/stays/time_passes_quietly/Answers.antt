use Rattle.smil_laws.proofs.QuietAfterEntry.{passes_quietly}
use Rattle.smil_laws.proofs.stays.time_passes_quietly.Goals as goal

pub returns : goal.returns
returns c = passes_quietly
