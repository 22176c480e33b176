use Rattle.std.proofs.Common.{◌≡◌, ◌↔◌}
use Rattle.smil_graph.specs.Reduced.{all_reduced}
use Rattle.smil_graph.proofs.alike.are_alike.Given as goal

-- all are alike where and only where those that are left are
abbrev pub invariant-loop-node : goal.invariant-loop-node
invariant-loop-node l =
    (all_reduced l.node-iterator ≡ all_reduced l.left)
    ↔ (all_reduced l.before.nodes ≡ all_reduced l.after.nodes)
