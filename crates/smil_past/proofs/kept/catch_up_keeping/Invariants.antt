use Rattle.std.proofs.Common.{◌≡◌, ◌+◌, length}
use Rattle.smil_past.specs.Chronicle.{Lags}
use Rattle.smil_past.specs.Kept.{AreKept}
use Rattle.smil_past.proofs.kept.catch_up_keeping.Given as goal

-- it has all entries but those that are left
abbrev pub invariant-loop-left : goal.invariant-loop-left
invariant-loop-left l = record {
  lags : Lags l.tree l.log l.entries l.chronicle;
  kept : AreKept l.tree l.log l.entries l.kept.items;
  reached : length l.chronicle.book + l.left ≡ length l.entries;
}

abbrev pub decreases-loop-left : goal.decreases-loop-left
decreases-loop-left l = l.left
