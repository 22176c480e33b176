use Rattle.smil_laws.proofs.TouchedStay.{leaves_untouched}
use Rattle.smil_laws.proofs.stays.untouched_elements_stay.Goals as goal

pub returns : goal.returns
returns c = leaves_untouched
