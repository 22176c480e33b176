use Rattle.std.proofs.Common.{◌≡◌, ℕ, take}
use Rattle.std.specs.Prelude.{◌||◌}
use Rattle.smil_model.specs.document.Closure.{has}
use Rattle.smil_nodes.proofs.followers.put_ranks.Given as goal

-- the first ranks are in besides what was
abbrev pub invariant-loop-rank : goal.invariant-loop-rank
invariant-loop-rank l = (r : ℕ) → has l.agenda r ≡ (has l.initial.agenda r || has (take l.rank-index l.ranks) r)
