use Rattle.std.proofs.Common.{◌≡◌, length, IsSome}
use Rattle.smil_attrs.specs.Remainder.{attributes_in, written_in}
use Rattle.smil_switch.specs.Choices.{tests_repeat}
use Rattle.smil_switch.proofs.choice.repeats_test.Given as goal

abbrev pub invariant-loop-written : goal.invariant-loop-written
invariant-loop-written l = record {
  shaped : IsSome (attributes_in l.left);
  same : tests_repeat (written_in l.left) ≡ tests_repeat l.fn.shape.attributes;
}

abbrev pub decreases-loop-written : goal.decreases-loop-written
decreases-loop-written l = length l.left.text
