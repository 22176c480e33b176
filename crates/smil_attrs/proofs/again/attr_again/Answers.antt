use Rattle.smil_attrs.proofs.LineRoundTrip.{attribute_is, attribute_read}
use Rattle.smil_attrs.proofs.again.attr_again.Goals as goal

pub returns : goal.returns
returns c = record { is_attr = attribute_is; again = attribute_read }
