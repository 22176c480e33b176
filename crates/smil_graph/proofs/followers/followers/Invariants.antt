use Rattle.std.proofs.Common.{◌≡◌, ℕ, ◌<◌, length}
use Rattle.std.specs.Prelude.{filter}
use Rattle.std.specs.List.{range_with_len}
use Rattle.smil_graph.specs.Links.{row}
use Rattle.smil_graph.specs.Places.{follows_place}
use Rattle.smil_graph.proofs.followers.followers.Given as goal

abbrev pub invariant-loop-place : goal.invariant-loop-place
invariant-loop-place l = record {
  count : length l.rows.items ≡ length l.tree.nodes;
  heads : (i : ℕ) → i < length l.tree.nodes → row l.rows.items i ≡ filter (λ k. follows_place l.tree.nodes k i) (range_with_len 0 l.place);
}
