use Rattle.std.proofs.Common.{◌≡◌, None}
use Rattle.smil_test_plays.proofs.plays.played.Given as goal

-- no refusal was answered
abbrev pub invariant-loop-line : goal.invariant-loop-line
invariant-loop-line g l = l.cells.fault ≡ None
