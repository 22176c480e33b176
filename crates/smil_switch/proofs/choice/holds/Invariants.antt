use Rattle.std.proofs.Common.{◌≡◌, ◌-◌, length, IsSome}
use Rattle.smil_grammar.specs.Outlines.{in_line}
use Rattle.smil_attrs.specs.Remainder.{attributes_in, written_in}
use Rattle.smil_attrs.specs.Within.{AllWithin}
use Rattle.smil_switch.specs.Choices.{attributes_hold}
use Rattle.smil_switch.proofs.AttributeSteps.{and_then}
use Rattle.smil_switch.proofs.choice.holds.Given as goal

abbrev pub invariant-loop-written : goal.invariant-loop-written
invariant-loop-written l = record {
  shaped : IsSome (attributes_in l.left);
  within : AllWithin (2147483648 - l.spaces) (written_in l.left);
  same : and_then l.hold (in_line l.spaces (attributes_hold l.wanted l.switch (written_in l.left))) ≡ in_line l.spaces (attributes_hold l.wanted l.switch l.fn.shape.attributes);
}

abbrev pub decreases-loop-written : goal.decreases-loop-written
decreases-loop-written l = length l.left.text
