use Rattle.std.proofs.Common.{◌≡◌, ◌≤◌, length}
use Rattle.smil_test_texts.proofs.excls.queue.Given as goal

-- the queue has no more children than steps were taken, and no more steps were taken than it has room
abbrev pub invariant-loop-word : goal.invariant-loop-word
invariant-loop-word l = (length l.queue.held ≤ l.held) × (l.held ≤ l.room) × (l.queue.room ≡ l.room)
