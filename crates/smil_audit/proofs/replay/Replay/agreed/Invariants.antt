use Rattle.std.proofs.Common.{◌≡◌, ◌-◌, ◌+◌, ◌*◌, ◌≤◌, length}
use Rattle.smil_model.specs.document.Document.{elements}
use Rattle.smil_audit.specs.Replayed.{Follows, with_progress}
use Rattle.smil_audit.specs.Steps.{IsReplay, replayed}
use Rattle.smil_audit.proofs.replay.Replay.agreed.Given as goal

-- the same document, log and last moment, and all agrees so far
abbrev pub invariant-steps : goal.invariant-steps
invariant-steps g l = record {
  sound : IsReplay l.self;
  same : replayed l.self ≡ with_progress (replayed l.fn.self) (replayed l.self).at;
  follows : Follows (replayed l.self) l.given;
  counted : l.fn.steps ≤ l.steps;
  most : l.steps + (length l.given - length l.self.past.diary + 1) * length (elements l.fn.self.past.document.nodes)
      ≤ l.fn.steps + (length l.given - length l.fn.self.past.diary + 1) * length (elements l.fn.self.past.document.nodes);
}

abbrev pub decreases-steps : goal.decreases-steps
decreases-steps g l = length l.given - length l.self.past.diary
