use Rattle.std.proofs.Common.{◌≡◌, ◌+◌, length}
use Rattle.smil_past.specs.Chronicle.{Lags}
use Rattle.smil_past.proofs.chronicle.Chronicle.catch_up.Given as goal

-- it has the first of the entries that it lacked
abbrev pub invariant-loop-entry : goal.invariant-loop-entry
invariant-loop-entry l = record {
  lags : Lags l.tree l.log l.entries l.self;
  reached : length l.self.book ≡ length l.initial.self.book + l.entry-index;
}
