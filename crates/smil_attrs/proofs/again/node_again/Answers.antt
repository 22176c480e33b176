use Rattle.smil_attrs.proofs.LineRoundTrip.{node_is, node_read}
use Rattle.smil_attrs.proofs.again.node_again.Goals as goal

pub returns : goal.returns
returns c = record { is_child = node_is; again = node_read }
