use Rattle.std.proofs.Common.{◌≡◌, ◌++◌}
use Rattle.std.specs.Prelude.{replicate}
use Rattle.smil_grammar.specs.Texts.{space}
use Rattle.smil_switch.proofs.choice.put_spaces.Given as goal

abbrev pub invariant-loop-space : goal.invariant-loop-space
invariant-loop-space l = l.out ≡ l.fn.out ++ replicate l._space space
