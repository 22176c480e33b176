use Rattle.std.proofs.Common.{◌≡◌, ◌≤◌, ◌+◌}
use Rattle.smil_past.specs.Past.{history_of}
use Rattle.smil_rounds.specs.Round.{AreRowsEvaluated}
use Rattle.smil_audit.proofs.replay.evaluate_all.Given as goal

-- the first elements of the order are evaluated
abbrev pub invariant-loop-who : goal.invariant-loop-who
invariant-loop-who g l = record {
  taken : AreRowsEvaluated (history_of l.past) l.moment l.who-items l.who-index l.known;
  counted : l.fn.steps ≤ l.steps;
  steps : l.steps ≡ l.fn.steps + l.who-index;
}
