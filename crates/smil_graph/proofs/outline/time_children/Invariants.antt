use Rattle.std.proofs.Common.{◌≡◌, ℕ, length}
use Rattle.std.specs.Prelude.{◌&&◌, filter}
use Rattle.std.specs.List.{range_with_len}
use Rattle.smil_model.specs.reach.Reach.{is_option}
use Rattle.smil_graph.specs.Links.{row}
use Rattle.smil_graph.specs.Places.{is_element_at, up}
use Rattle.smil_graph.proofs.outline.time_children.Given as goal

-- the rows have the places before the present one
abbrev pub invariant-loop-place : goal.invariant-loop-place
invariant-loop-place l = record {
  count : length l.rows.items ≡ length l.tree.nodes;
  rows : (q : ℕ) → row l.rows.items q ≡ filter (λ p. is_element_at l.tree.nodes p && is_option q (up l.time_parents p)) (range_with_len 0 l.place);
}
