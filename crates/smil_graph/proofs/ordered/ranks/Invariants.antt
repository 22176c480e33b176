use Rattle.std.proofs.Common.{◌≡◌}
use Rattle.std.specs.Prelude.{map, filter}
use Rattle.std.specs.List.{range_with_len}
use Rattle.smil_graph.specs.Places.{is_element_at}
use Rattle.smil_graph.specs.Ranks.{rank_of}
use Rattle.smil_graph.proofs.ordered.ranks.Given as goal

abbrev pub invariant-loop-place : goal.invariant-loop-place
invariant-loop-place l = l.ranks.items ≡ map (rank_of l.levels l.heights) (filter (is_element_at l.tree.nodes) (range_with_len 0 l.place))
