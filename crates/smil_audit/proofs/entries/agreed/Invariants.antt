use Rattle.std.proofs.Common.{◌≡◌, ◌+◌, ◌-◌, ◌≤◌, drop, length}
use Rattle.smil_audit.specs.Entries.{agreed}
use Rattle.smil_audit.proofs.entries.agreed.Given as goal

abbrev pub invariant-loop-count : goal.invariant-loop-count
invariant-loop-count l = record {
  so_far : l.count + agreed (drop l.count l.one) (drop l.count l.other) ≡ agreed l.one l.other;
  in_one : l.count ≤ length l.one;
  in_other : l.count ≤ length l.other;
}

abbrev pub decreases-loop-count : goal.decreases-loop-count
decreases-loop-count l = length l.one - l.count
