use Rattle.std.proofs.Common.{◌≡◌, ◌+◌, length}
use Rattle.smil_top.specs.Summary.{line_count}
use Rattle.smil_top.proofs.answer.line_feeds.Given as goal

-- what is counted, and what is left
abbrev pub invariant-loop-rest : goal.invariant-loop-rest
invariant-loop-rest l = l.lines + line_count l.rest ≡ line_count l.text

abbrev pub decreases-loop-rest : goal.decreases-loop-rest
decreases-loop-rest l = length l.rest
