use Rattle.std.proofs.Common.{◌≡◌, take}
use Rattle.smil_top.specs.Summary.{line_count}
use Rattle.smil_top.proofs.answer.line_feeds_in.Given as goal

abbrev pub invariant-loop-byte : goal.invariant-loop-byte
invariant-loop-byte l = l.lines ≡ line_count (take l.byte-index l.chunk)
