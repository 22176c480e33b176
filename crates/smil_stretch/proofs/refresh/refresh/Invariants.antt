use Rattle.std.proofs.Common.{◌≡◌, ℕ, ℤ, List, take, drop}
use Rattle.smil_stretch.specs.declared.clock.NodeClock.{NodeClock}
use Rattle.smil_stretch.specs.NodeClocks.{IsTurned}
use Rattle.smil_stretch.proofs.refresh.refresh.Given as goal

-- the clocks before this place are turned, and the others are as they were
pub record IsTurnedTo (first : ℕ) (moment : ℤ) (before now : List NodeClock) (place : ℕ) : Type 0 where
  pub rest : drop place now ≡ drop place before
  pub done : (after : List NodeClock) → IsTurned first moment before after → take place now ≡ take place after

abbrev pub invariant-loop-place : goal.invariant-loop-place
invariant-loop-place l = IsTurnedTo l.first l.moment l.fn.clocks l.clocks l.place
