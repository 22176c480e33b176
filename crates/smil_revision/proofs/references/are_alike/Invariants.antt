use Rattle.std.proofs.Common.{◌≡◌}
use Rattle.std.specs.Cmp.Lexicographic.{pointwise}
use Rattle.smil_revision.specs.References.{is_alike}
use Rattle.smil_revision.proofs.references.are_alike.Given as goal

-- all are alike where those that are left are
abbrev pub invariant-loop-node : goal.invariant-loop-node
invariant-loop-node l = pointwise is_alike l.node-iterator l.others ≡ pointwise is_alike l.old.nodes l.new.nodes
