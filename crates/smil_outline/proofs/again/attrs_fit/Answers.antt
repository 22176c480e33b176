use Rattle.smil_outline.proofs.FittingAttributes.{fits}
use Rattle.smil_outline.proofs.ReadValuesFit.{ranges}
use Rattle.smil_outline.proofs.again.attrs_fit.Goals as goal

pub returns : goal.returns
returns c = record { can_write = fits; is_read = ranges }
