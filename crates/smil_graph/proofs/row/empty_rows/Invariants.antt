use Rattle.std.proofs.Common.{◌≡◌, ℕ, [], length}
use Rattle.smil_graph.specs.Links.{row}
use Rattle.smil_graph.proofs.row.empty_rows.Given as goal

abbrev pub invariant-loop : goal.invariant-loop
invariant-loop l = record {
  count : length l.rows.items ≡ l.counter;
  empty : (i : ℕ) → row l.rows.items i ≡ [];
}
