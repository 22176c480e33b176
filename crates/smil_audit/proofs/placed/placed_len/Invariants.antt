use Rattle.std.proofs.Common.{◌≡◌, ◌++◌, take, drop}
use Rattle.std.specs.Prelude.{pos}
use Rattle.smil_audit.specs.Verdict.{placed}
use Rattle.smil_audit.proofs.placed.placed_len.Given as goal

abbrev pub invariant-loop-index : goal.invariant-loop-index
invariant-loop-index l = take l.index l.entries ++ placed l.from l.last (drop l.index l.entries) ≡ placed (pos 0) l.last l.entries
