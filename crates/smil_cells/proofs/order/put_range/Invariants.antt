use Rattle.std.proofs.Common.{◌≡◌, ℕ, ◌<◌, ◌≤◌, true}
use Rattle.std.specs.Prelude.{◌⊎◌}
use Rattle.smil_model.specs.document.Closure.{has}
use Rattle.smil_cells.specs.Shown.{StayIn}
use Rattle.smil_cells.proofs.order.put_range.Given as goal

abbrev pub invariant-loop-place : goal.invariant-loop-place
invariant-loop-place l = record {
  more : StayIn l.fn.places l.places;
  put : (p : ℕ) → l.start ≤ p → p < l.place → has l.places p ≡ true;
  from : l.start ≤ l.place;
  only : (p : ℕ) → has l.places p ≡ true → (has l.fn.places p ≡ true) ⊎ ((l.start ≤ p) × (p < l.end));
}
