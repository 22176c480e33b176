use Rattle.std.proofs.Common.{◌≡◌, ℕ, [], cond, ◌==◌}
use Rattle.std.specs.Prelude.{slice_range}
use Rattle.std.specs.List.{list_any}
use Rattle.smil_model.specs.declared.document.Node.{Node}
use Rattle.smil_model.specs.ListTables.{list_of}
use Rattle.smil_tree.proofs.kin.forget.Given as goal

-- once the lists of those that are left are dropped, those of all of them are
abbrev pub invariant-loop-node : goal.invariant-loop-node
invariant-loop-node l = (s : ℕ) → cond (list_any (λ (n : Node). n.serial == s) l.node-iterator) [] (list_of l.lists.entries s) ≡ cond (list_any (λ (n : Node). n.serial == s) (slice_range l.span.nodes.now l.span.start l.span.end)) [] (list_of l.initial.lists.entries s)
