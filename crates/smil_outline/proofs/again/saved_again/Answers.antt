use Rattle.smil_outline.proofs.OutlineRoundTrip.{saved_outline_read}
use Rattle.smil_outline.proofs.again.saved_again.Goals as goal

pub returns : goal.returns
returns c = saved_outline_read
