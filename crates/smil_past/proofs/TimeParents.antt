-- The time parent of a node is a node.
use Rattle.std.proofs.Common.{◌≡◌, refl, sym, ◌∙◌, ap, ℕ, List, Option, Some, None, Bool, true, false}
use Rattle.std.specs.Prelude.{cond, ◌==◌, option_map, is_some}
use Rattle.std.specs.List.{position}
use Rattle.std.proofs.lemmas.Option.{same_Some}
use Rattle.smil_model.specs.declared.document.Kind.{Kind}
use Rattle.smil_model.specs.declared.document.Node.{Node}
use Rattle.smil_model.specs.document.Document.{has_kind, is_excl_kind, node_at, time_parent}
use Rattle.smil_model.specs.document.Valid.{IsDistinct, kind_of}
use Rattle.smil_stretch.proofs.NodesAbove.{parent_before}
use Rattle.smil_past.proofs.KnownNodes.{known_place}
use Rattle.smil_past.proofs.QueuePut.{node_there}
use Rattle.smil_past.specs.Queues.{excl_in}
use Rattle.smil_laws.proofs.Lists.{each_take}
use Rattle.smil_stretch.proofs.ClocksTurned.{each_place}
use Rattle.smil_tree.proofs.NodeFamilies.{node_of_place}

pub parent_node : (ns : List Node) (who : ℕ) (p : Node) → IsDistinct ns → is_some (node_at ns who) ≡ true → time_parent ns who ≡ Some p → node_at ns p.serial ≡ Some p
parent_node ns who p d known under = by (position (λ (n : Node). n.serial == who) ns) refl (known_place ns who known)
  where
    by : (o : Option ℕ) → position (λ (n : Node). n.serial == who) ns ≡ o → is_some o ≡ true → node_at ns p.serial ≡ Some p
    by None e r = cc
    by (Some k) e r =
        let found = node_there ns k who (sym e) in
        parent_before (λ (m : Node). node_at ns m.serial ≡ Some m) ns k found.node p d found.at
        (each_take (λ (m : Node). node_at ns m.serial ≡ Some m) k ns (each_place (λ (m : Node). node_at ns m.serial ≡ Some m) ns (λ i n q. node_of_place ns i n d q)))
        (ap (time_parent ns) found.serial ∙ under)

pub record IsUp (nodes : List Node) (who parent : ℕ) : Type 0 where
  pub node : Node
  pub under : time_parent nodes who ≡ Some node
  pub serial : node.serial ≡ parent
  pub known : node_at nodes parent ≡ Some node

pub up : (nodes : List Node) (who parent : ℕ) → IsDistinct nodes → is_some (node_at nodes who) ≡ true → Some parent ≡ option_map (λ (n : Node). n.serial) (time_parent nodes who) → IsUp nodes who parent
up nodes who parent d known q = by (time_parent nodes who) refl q
  where
    by : (o : Option Node) → time_parent nodes who ≡ o → Some parent ≡ option_map (λ (n : Node). n.serial) o → IsUp nodes who parent
    by None e r = cc
    by (Some p) e r =
        let same : p.serial ≡ parent = sym (same_Some parent p.serial r) in
        record { node = p; under = e; serial = same; known = ap (node_at nodes) (sym same) ∙ parent_node nodes who p d known e }

pub excl_is : (nodes : List Node) (who parent : ℕ) (kind : Kind) (t : Bool) (above : IsUp nodes who parent) → Some kind ≡ kind_of (node_at nodes parent) → is_excl_kind kind ≡ t → option_map (λ (n : Node). n.serial) (excl_in (time_parent nodes who)) ≡ cond t (Some parent) None
excl_is nodes who parent kind t above q is =
    ap (λ o. option_map (λ (n : Node). n.serial) (excl_in o)) above.under
    ∙ ap (λ b. option_map (λ (n : Node). n.serial) (cond b (Some above.node) None)) (ap is_excl_kind (sym (same_Some kind above.node.kind (q ∙ ap kind_of above.known))) ∙ is)
    ∙ by t
  where
    by : (b : Bool) → option_map (λ (n : Node). n.serial) (cond b (Some above.node) None) ≡ cond b (Some parent) None
    by true = ap Some above.serial
    by false = refl

-- the kind of a node
pub has_kind_of : (o : Option Node) (kind : Kind) → Some kind ≡ kind_of o → is_excl_kind kind ≡ true → has_kind is_excl_kind o ≡ true
has_kind_of None kind q is = cc
has_kind_of (Some n) kind q is = ap is_excl_kind (sym (same_Some kind n.kind q)) ∙ is
