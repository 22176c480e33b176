-- Ranks, of which the least is taken.
use Rattle.std.specs.Prelude.{◌≡◌, ℕ, ◌≤◌, List, true, not, ◌&&◌, ◌==◌}
use Rattle.smil_model.specs.document.Closure.{has}

-- the least of the listed ranks is taken, and all others stay
pub record IsLeastTaken (old : List ℕ) (rank : ℕ) (new : List ℕ) : Type 0 where
  pub member : has old rank ≡ true
  pub least : (r : ℕ) → has old r ≡ true → rank ≤ r
  pub rest : (r : ℕ) → has new r ≡ (not (r == rank) && has old r)
