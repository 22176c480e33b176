use Rattle.smil_laws.proofs.ResolutionEnds.{too_long_is_full}
use Rattle.smil_laws.proofs.courses.too_long_is_full.Goals as goal

pub returns : goal.returns
returns c = too_long_is_full
