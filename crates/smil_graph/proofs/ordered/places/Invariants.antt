use Rattle.std.proofs.Common.{◌≡◌, take}
use Rattle.std.specs.Prelude.{map}
use Rattle.smil_graph.specs.declared.ordered.Rank.{Rank}
use Rattle.smil_graph.proofs.ordered.places.Given as goal

abbrev pub invariant-loop-rank : goal.invariant-loop-rank
invariant-loop-rank l = l.places.items ≡ map (λ (rank : Rank). rank.place) (take l.rank-index l.ranks)
