use Rattle.std.proofs.Common.{◌≡◌, length, IsSome, is_some}
use Rattle.std.specs.Prelude.{bytes_eq}
use Rattle.std.specs.List.{list_any}
use Rattle.smil_grammar.specs.Nodes.{WrittenAttr}
use Rattle.smil_attrs.specs.Remainder.{attributes_in, written_in}
use Rattle.smil_attrs.proofs.shape.Attributes.has.Given as goal

abbrev pub invariant-loop-attribute : goal.invariant-loop-attribute
invariant-loop-attribute l = record {
  shaped : is_some (attributes_in l.left) ≡ is_some (attributes_in l.fn.self);
  same : IsSome (attributes_in l.left) → list_any (λ (other : WrittenAttr). bytes_eq other.name l.name) (written_in l.left) ≡ list_any (λ (other : WrittenAttr). bytes_eq other.name l.name) (written_in l.fn.self);
}

abbrev pub decreases-loop-attribute : goal.decreases-loop-attribute
decreases-loop-attribute l = length l.left.text
