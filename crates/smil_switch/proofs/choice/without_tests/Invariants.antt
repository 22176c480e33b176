use Rattle.std.proofs.Common.{◌≡◌, ◌-◌, ◌++◌, length, IsSome}
use Rattle.smil_attrs.specs.Remainder.{attributes_in, written_in}
use Rattle.smil_attrs.specs.Within.{AllWithin}
use Rattle.smil_switch.specs.Choices.{without_tests}
use Rattle.smil_switch.proofs.choice.without_tests.Given as goal

abbrev pub invariant-loop-written : goal.invariant-loop-written
invariant-loop-written l = record {
  shaped : IsSome (attributes_in l.left);
  within : AllWithin (2147483648 - l.spaces) (written_in l.left);
  same : l.out ++ without_tests l.spaces l.from (written_in l.left) l.line ≡ without_tests l.spaces 0 l.fn.shape.attributes l.line;
}

abbrev pub decreases-loop-written : goal.decreases-loop-written
decreases-loop-written l = length l.left.text
