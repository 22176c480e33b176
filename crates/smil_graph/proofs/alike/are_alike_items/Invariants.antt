use Rattle.std.proofs.Common.{◌≡◌, ◌↔◌}
use Rattle.std.specs.Prelude.{drop}
use Rattle.smil_graph.specs.Reduced.{reduced_items}
use Rattle.smil_graph.proofs.alike.are_alike_items.Given as goal

-- all are alike where and only where those that are left are
abbrev pub invariant-loop-one : goal.invariant-loop-one
invariant-loop-one l =
    (reduced_items (drop l.one-index l.ones) ≡ reduced_items l.left.rest.now)
    ↔ (reduced_items l.ones ≡ reduced_items l.others)
