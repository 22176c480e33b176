use Rattle.std.proofs.Common.{◌≡◌, length, IsSome, is_some}
use Rattle.smil_grammar.specs.Nodes.{repeats}
use Rattle.smil_attrs.specs.Remainder.{attributes_in, written_in}
use Rattle.smil_attrs.specs.Repeats.{twice_from}
use Rattle.smil_attrs.proofs.shape.Attributes.repeats.Given as goal

abbrev pub invariant-loop-attribute : goal.invariant-loop-attribute
invariant-loop-attribute l = record {
  shaped : is_some (attributes_in l.left) ≡ is_some (attributes_in l.fn.self);
  same : IsSome (attributes_in l.left) → twice_from l.repeats l.seen (written_in l.left) ≡ repeats (written_in l.fn.self);
}

abbrev pub decreases-loop-attribute : goal.decreases-loop-attribute
decreases-loop-attribute l = length l.left.text
