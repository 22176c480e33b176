use Rattle.smil_laws.proofs.QuietJumps.{over_quiet}
use Rattle.smil_laws.proofs.courses.reaches_over_quiet.Goals as goal

pub returns : goal.returns
returns c = over_quiet
