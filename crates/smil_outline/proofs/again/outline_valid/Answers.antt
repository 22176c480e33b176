use Rattle.smil_outline.proofs.OutlineValid.{outline_is_valid}
use Rattle.smil_outline.proofs.again.outline_valid.Goals as goal

pub returns : goal.returns
returns c = outline_is_valid
