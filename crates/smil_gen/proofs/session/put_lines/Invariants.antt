use Rattle.std.proofs.Common.{◌≡◌, ◌++◌}
use Rattle.smil_gen.specs.Session.{lines_to}
use Rattle.smil_gen.proofs.session.put_lines.Given as goal

abbrev pub invariant-loop-before : goal.invariant-loop-before
invariant-loop-before l = (l.out ≡ l.fn.out ++ lines_to l.fn.part l.before)
