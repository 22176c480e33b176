use Rattle.std.proofs.Common.{◌≡◌, length, IsSome}
use Rattle.smil_model.specs.document.Values.{is_seq_parent}
use Rattle.smil_grammar.specs.Nodes.{attrs_from}
use Rattle.smil_attrs.specs.Remainder.{attributes_in, written_in}
use Rattle.smil_attrs.proofs.nodes.read_attrs.Given as goal

abbrev pub invariant-loop-written : goal.invariant-loop-written
invariant-loop-written l = record {
  shaped : IsSome (attributes_in l.left);
  same : attrs_from (is_seq_parent l.parent) l.kind l.attrs (written_in l.left) ≡ attrs_from (is_seq_parent l.parent) l.kind l.fn.attrs l.fn.shape.attributes;
}

abbrev pub decreases-loop-written : goal.decreases-loop-written
decreases-loop-written l = length l.left.text
