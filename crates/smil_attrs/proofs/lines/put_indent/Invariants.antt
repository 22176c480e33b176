use Rattle.std.proofs.Common.{◌≡◌, ◌++◌, ◌*◌, replicate}
use Rattle.smil_grammar.specs.Texts.{space}
use Rattle.smil_attrs.proofs.lines.put_indent.Given as goal

abbrev pub invariant-loop-level : goal.invariant-loop-level
invariant-loop-level l = l.out ≡ l.fn.out ++ replicate (2 * l._level) space
