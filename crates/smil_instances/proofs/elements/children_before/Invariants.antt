use Rattle.std.proofs.Common.{◌≡◌, ℕ, nat_eq, take, map}
use Rattle.std.specs.HashMap.{get}
use Rattle.smil_model.specs.document.Document.{elements, is_time_child, previous_child, time_parent, serial_of}
use Rattle.smil_model.specs.declared.document.Node.{Node}
use Rattle.std.specs.Prelude.{filter}
use Rattle.smil_instances.proofs.SiblingBefore.{last_of}
use Rattle.smil_instances.proofs.elements.children_before.Given as goal

-- of the first elements: each one's child before, and the last time child of each parent
abbrev pub invariant-loop-who : goal.invariant-loop-who
invariant-loop-who l = record {
  befores : l.befores.items ≡ map (λ (n : Node). serial_of (previous_child l.tree.nodes (time_parent l.tree.nodes n.serial) n.serial)) (take l.who-index (elements l.tree.nodes));
  last : (p : ℕ) → get nat_eq l.last p ≡ serial_of (last_of (filter (is_time_child l.tree.nodes p) (take l.who-index (elements l.tree.nodes))));
}
