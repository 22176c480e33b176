use Rattle.smil_model.specs.document.Values.{is_seq_parent}
use Rattle.smil_attrs.proofs.LineRoundTrip.{attrs_allowed}
use Rattle.smil_attrs.proofs.nodes.read_node.Goals as goal

pub returns-clause-can_write : goal.returns-clause-can_write
returns-clause-can_write c = attrs_allowed (is_seq_parent c.args.parent) c.in_ok-kind.kind c.in-Some.shape.attributes c.in_ok-attrs.attrs c.in_ok-attrs.ensures
