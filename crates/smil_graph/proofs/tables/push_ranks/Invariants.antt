use Rattle.std.proofs.Common.{◌≡◌, ℕ, List, take}
use Rattle.std.specs.Prelude.{◌||◌}
use Rattle.std.specs.FinMap.{get}
use Rattle.smil_model.specs.document.Closure.{has}
use Rattle.smil_graph.specs.Tables.{is_rank_at, AreRanks}
use Rattle.smil_graph.proofs.tables.push_ranks.Given as goal

abbrev pub invariant-loop-place : goal.invariant-loop-place
invariant-loop-place l = (order : List ℕ) → AreRanks order (get l.ranks) → (r : ℕ) → has l.row r ≡ (has l.fn.row r || is_rank_at l.tree.nodes order (take l.place-index l.places) r)
