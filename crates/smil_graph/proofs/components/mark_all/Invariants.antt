use Rattle.std.proofs.Common.{◌≡◌, drop, length}
use Rattle.smil_graph.specs.Components.{marked_all}
use Rattle.smil_graph.proofs.components.mark_all.Given as goal

abbrev pub invariant-loop-place : goal.invariant-loop-place
invariant-loop-place l = record {
  count : length l.marks.items ≡ length l.fn.marks.items;
  rest : marked_all l.mark (drop l.place-index l.places) l.marks.items ≡ marked_all l.mark l.places l.fn.marks.items;
}
