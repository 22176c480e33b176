use Rattle.std.proofs.Common.{◌≡◌, ℕ, None, take}
use Rattle.std.specs.Prelude.{◌==◌, if◌then◌else◌}
use Rattle.std.specs.FinMap.{get as place_of}
use Rattle.std.specs.List.{list_any}
use Rattle.smil_model.specs.declared.document.Node.{Node}
use Rattle.smil_tree.proofs.nodes.forget_each.Given as goal

abbrev pub invariant-loop-node : goal.invariant-loop-node
invariant-loop-node l = (s : ℕ) → place_of l.places s ≡ (if list_any (λ (n : Node). n.serial == s) (take l.node-index l.nodes) then None else place_of l.initial.places s)
