-- The node whose serial a node has as its parent's.
use Rattle.std.proofs.Common.{◌≡◌, ℕ, List, Option, Some, None, refl, ap, ◌∙◌}
use Rattle.smil_model.specs.declared.document.Node.{Node}
use Rattle.smil_model.specs.document.Document.{node_at, serial_of}
use Rattle.smil_model.specs.document.Valid.{kind_of}
use Rattle.smil_model.specs.happening.Queue.{parent_of}
use Rattle.smil_laws.proofs.RoundsRest.{find-serial}

parent_at : (nodes : List Node) (n : Node) (parent : ℕ) (o : Option Node) → node_at nodes n.parent ≡ o → Some parent ≡ serial_of o → node_at nodes parent ≡ o
parent_at nodes n parent None at is = absurd cc
parent_at nodes n parent (Some m) at is =
    let same : parent ≡ m.serial = cc in
    ap (λ t. node_at nodes t) (same ∙ find-serial n.parent nodes m at) ∙ at

pub parent_there : (nodes : List Node) (s parent : ℕ) (n : Node) → node_at nodes s ≡ Some n → Some parent ≡ serial_of (parent_of nodes (node_at nodes s)) → node_at nodes parent ≡ node_at nodes n.parent
parent_there nodes s parent n at is =
    parent_at nodes n parent (node_at nodes n.parent) refl (is ∙ ap (λ (o : Option Node). serial_of (parent_of nodes o)) at)

pub no_parent : (nodes : List Node) (s : ℕ) (n : Node) → node_at nodes s ≡ Some n → None ≡ serial_of (parent_of nodes (node_at nodes s)) → None ≡ kind_of (node_at nodes n.parent)
no_parent nodes s n at is = by_node (node_at nodes n.parent) (is ∙ ap (λ (o : Option Node). serial_of (parent_of nodes o)) at)
  where
    by_node : (o : Option Node) → None ≡ serial_of o → None ≡ kind_of o
    by_node None h = refl
    by_node (Some m) h = absurd cc
