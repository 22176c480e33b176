use Rattle.smil_outline.proofs.OutlineRoundTrip.{outline_read}
use Rattle.smil_outline.proofs.again.outline_again.Goals as goal

pub returns : goal.returns
returns c = outline_read
