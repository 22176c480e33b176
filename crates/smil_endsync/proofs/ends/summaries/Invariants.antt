use Rattle.std.proofs.Common.{◌≡◌, take, map}
use Rattle.smil_endsync.specs.Ends.{one_end}
use Rattle.smil_endsync.proofs.ends.summaries.Given as goal

abbrev pub invariant-loop-child : goal.invariant-loop-child
invariant-loop-child l = l.summaries.items ≡ map (one_end l.summing) (take l.child-index l.children)
