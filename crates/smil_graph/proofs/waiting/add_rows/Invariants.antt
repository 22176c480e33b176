use Rattle.std.proofs.Common.{◌≡◌, ℕ, ◌+◌, length}
use Rattle.smil_graph.specs.Links.{row}
use Rattle.smil_graph.proofs.waiting.add_rows.Given as goal

abbrev pub invariant-loop : goal.invariant-loop
invariant-loop l = record {
  count : length l.rows.items ≡ length l.fn.rows.items + l.counter;
  same : (i : ℕ) → row l.rows.items i ≡ row l.fn.rows.items i;
}
