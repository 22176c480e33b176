use Rattle.std.proofs.Common.{◌≡◌, ℕ, ◌-◌, ◌/◌, ◌<◌, drop, length}
use Rattle.smil_nodes.specs.Slots.{IsBesides, IsLeastBelow, WasLeastBelow, slot_at}
use Rattle.smil_nodes.proofs.due_tree.decide_above.Given as goal

abbrev pub invariant-loop-decided : goal.invariant-loop-decided
invariant-loop-decided l = record {
  known : l.decided < length l.places;
  others : (p : ℕ) → p < l.first → IsBesides l.decided p → IsLeastBelow l.places p;
  before : 0 < l.decided → WasLeastBelow l.places ((l.decided - 1) / 8) (slot_at l.places l.decided);
  count : length l.places ≡ length l.initial.places;
  kept : drop l.first l.places ≡ drop l.first l.initial.places;
}

abbrev pub decreases-loop-decided : goal.decreases-loop-decided
decreases-loop-decided l = l.decided
