use Rattle.smil_wall_laws.proofs.RewrittenRoundTrip.{items_read}
use Rattle.smil_wall_laws.proofs.rewritten.rewritten_items_are_read.Goals as goal

pub returns : goal.returns
returns c = items_read
