use Rattle.std.proofs.Common.{◌≡◌, ℕ, ◌<◌, []}
use Rattle.smil_graph.specs.declared.components.Visit.TheVariants.{New}
use Rattle.smil_graph.specs.Components.{IsGrouping, mark_at}
use Rattle.smil_graph.proofs.levels.levels.Given as goal

abbrev pub invariant-loop-place : goal.invariant-loop-place
invariant-loop-place l = record {
  grouping : IsGrouping l.rows l.components;
  none_open : l.components.members ≡ [];
  known : (a : ℕ) → a < l.place → mark_at l.components.marks a ≡ New → ⊥;
}
