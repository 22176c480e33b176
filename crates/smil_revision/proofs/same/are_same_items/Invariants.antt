use Rattle.std.proofs.Common.{◌≡◌, ◌↔◌}
use Rattle.std.specs.Prelude.{drop}
use Rattle.smil_revision.proofs.same.are_same_items.Given as goal

-- all are the same where and only where those that are left are
abbrev pub invariant-loop-one : goal.invariant-loop-one
invariant-loop-one l =
    (drop l.one-index l.ones ≡ l.left.rest.now) ↔ (l.ones ≡ l.others)
