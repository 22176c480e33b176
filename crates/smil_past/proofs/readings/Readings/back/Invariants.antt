use Rattle.std.proofs.Common.{◌≡◌, take}
use Rattle.smil_instances.specs.Intake.{history_of}
use Rattle.smil_past.specs.Readings.{FollowsAll}
use Rattle.smil_past.proofs.readings.Readings.back.Given as goal

-- they follow the entries so far, and the instance times stay
abbrev pub invariant-loop-entry : goal.invariant-loop-entry
invariant-loop-entry l = record {
  follows : FollowsAll l.self (history_of l.history.tree.now l.history.log.now (take l.entry-index l.history.book.now));
  instances : l.self.instances ≡ l.initial.self.instances;
}
