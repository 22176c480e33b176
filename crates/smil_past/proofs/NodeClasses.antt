-- The priorityClass of a node, and its place.
use Rattle.std.proofs.Common.{◌≡◌, refl, sym, ◌∙◌, ap, ℕ, ◌+◌, List, [], ◌∷◌, Option, Some, None, Bool, true, false, length}
use Rattle.std.specs.Prelude.{cond, not, ◌==◌, ◌&&◌, nat_lt, option_map, is_some, unwrap_or, get_or, slice_get}
use Rattle.std.specs.List.{list_all, position, position_or_len}
use Rattle.std.proofs.lemmas.Bool.{and_parts}
use Rattle.std.proofs.lemmas.List.{length-map}
use Rattle.std.proofs.lemmas.Option.{slice_get-map, get_or_from_slice_get, same_Some}
use Rattle.smil_model.specs.declared.limits.TheConstants.{DEPTH}
use Rattle.smil_model.specs.declared.document.Kind.{Kind}
use Rattle.smil_model.specs.declared.document.Kind.TheVariants.{Par}
use Rattle.smil_model.specs.declared.document.Node.{Node}
use Rattle.smil_model.specs.declared.happening.Class.{Class}
use Rattle.smil_model.specs.document.Document.{has_kind, is_class_kind, is_container_kind, node_at, serial_of, serials}
use Rattle.smil_model.specs.document.Edits.{children}
use Rattle.smil_model.specs.document.Valid.{agree_with, depth_of, is_well_placed, kind_of, may_stand}
use Rattle.smil_model.specs.happening.Queue.{class_facts, class_if, class_of, parent_of, place_of}
use Rattle.smil_tree.proofs.AttributesChanged.{serial_of as held_serial}
use Rattle.smil_past.specs.Queues.{classes_in}
use Rattle.smil_past.proofs.QueuePut.{node_there}

pub class_there : (nodes : List Node) (kept : List Class) (k s : ℕ) (d : Class) → kept ≡ classes_in nodes → Some k ≡ position (λ (n : Node). n.serial == s) nodes → get_or kept k d ≡ class_facts nodes s
class_there nodes kept k s d is q =
    let found = node_there nodes k s q in
    get_or_from_slice_get kept k (class_facts nodes s) d
    (ap (λ cs. slice_get cs k) is ∙ slice_get-map (λ (n : Node). class_facts nodes n.serial) nodes k ∙ ap (option_map (λ (n : Node). class_facts nodes n.serial)) found.at
    ∙ ap (λ x. Some (class_facts nodes x)) found.serial)

-- the class of a node is a node
pub record IsClassOf (nodes : List Node) (s class : ℕ) : Type 0 where
  pub node : Node
  pub is : class_of nodes s ≡ Some node
  pub known : node_at nodes class ≡ Some node
  pub kind : is_class_kind node.kind ≡ true

pub class_known : (nodes : List Node) (s class : ℕ) → Some class ≡ option_map (λ (n : Node). n.serial) (class_of nodes s) → IsClassOf nodes s class
class_known nodes s class q = by (node_at nodes s) refl q
  where
    found : (o : Option Node) (p : ℕ) → node_at nodes p ≡ o → Some class ≡ option_map (λ (n : Node). n.serial) (class_if nodes o) → (class_of nodes s ≡ class_if nodes o) → IsClassOf nodes s class
    found None p e r w = cc
    found (Some n) p e r w = step (is_class_kind n.kind) refl r w
      where
        step : (t : Bool) → is_class_kind n.kind ≡ t → Some class ≡ option_map (λ (m : Node). m.serial) (cond t (Some n) None) → class_of nodes s ≡ cond t (Some n) None → IsClassOf nodes s class
        step true k u v = record { node = n; is = v; known = ap (node_at nodes) (same_Some class n.serial u ∙ held_serial nodes p n e) ∙ e; kind = k }
        step false k u v = cc

    by : (o : Option Node) → node_at nodes s ≡ o → Some class ≡ option_map (λ (n : Node). n.serial) (class_if nodes (parent_of nodes o)) → IsClassOf nodes s class
    by None e r = cc
    by (Some n) e r = found (node_at nodes n.parent) n.parent refl r (ap (λ o. class_if nodes (parent_of nodes o)) e)

pub place_is : (nodes : List Node) (class parent : ℕ) → Some parent ≡ option_map (λ (n : Node). n.parent) (node_at nodes class) → place_of nodes (node_at nodes class) ≡ unwrap_or (position (λ (m : Node). m.serial == class) (children nodes parent)) 0
place_is nodes class parent q = by (node_at nodes class) refl q
  where
    by : (o : Option Node) → node_at nodes class ≡ o → Some parent ≡ option_map (λ (n : Node). n.parent) o → place_of nodes o ≡ unwrap_or (position (λ (m : Node). m.serial == class) (children nodes parent)) 0
    by None e r = cc
    by (Some n) e r =
        ap (λ s. unwrap_or (position (λ (m : Node). m.serial == s) (children nodes n.parent)) 0) (held_serial nodes class n e)
        ∙ ap (λ p. unwrap_or (position (λ (m : Node). m.serial == class) (children nodes p)) 0) (sym (same_Some parent n.parent r))

-- the parent of a node, by its serial
pub parent_is : (nodes : List Node) (class excl : ℕ) → Some excl ≡ serial_of (parent_of nodes (node_at nodes class)) → Some excl ≡ option_map (λ (n : Node). n.parent) (node_at nodes class)
parent_is nodes class excl q = by (node_at nodes class) q
  where
    found : (n : Node) (o : Option Node) → node_at nodes n.parent ≡ o → Some excl ≡ serial_of o → Some excl ≡ Some n.parent
    found n None e r = cc
    found n (Some p) e r = ap Some (same_Some excl p.serial r ∙ held_serial nodes n.parent p e)

    by : (o : Option Node) → Some excl ≡ serial_of (parent_of nodes o) → Some excl ≡ option_map (λ (n : Node). n.parent) o
    by None r = cc
    by (Some n) r = found n (node_at nodes n.parent) refl r

-- each node that is found is well placed
held : (nodes : List Node) (class : ℕ) (ns : List Node) (n : Node) → list_all (is_well_placed nodes) ns ≡ true → node_at ns class ≡ Some n → is_well_placed nodes n ≡ true
held nodes class [] n all e = cc
held nodes class (m ∷ ns) n all e = step (m.serial == class) (held nodes class ns n (and_parts (is_well_placed nodes m) (list_all (is_well_placed nodes) ns) all).1) e (and_parts (is_well_placed nodes m) (list_all (is_well_placed nodes) ns) all)
  where
    step : (t : Bool) → (node_at ns class ≡ Some n → is_well_placed nodes n ≡ true) → cond t (Some m) (node_at ns class) ≡ Some n → (is_well_placed nodes m ≡ true) × (list_all (is_well_placed nodes) ns ≡ true) → is_well_placed nodes n ≡ true
    step true rest r parts = ap (is_well_placed nodes) (sym (same_Some m n r)) ∙ parts.0
    step false rest r parts = rest r

-- a priorityClass has a parent
pub class_parent : (nodes : List Node) (class : ℕ) → list_all (is_well_placed nodes) nodes ≡ true → has_kind is_class_kind (node_at nodes class) ≡ true → is_some (serial_of (parent_of nodes (node_at nodes class))) ≡ true
class_parent nodes class placed q = by (node_at nodes class) refl q
  where
    root : (k : Kind) → is_class_kind k ≡ true → is_container_kind k ≡ true → ⊥
    root Par c r = cc
    root _ c r = cc

    parented : (n : Node) (o : Option Node) → node_at nodes n.parent ≡ o → is_class_kind n.kind ≡ true → may_stand (kind_of o) n.kind ≡ true → is_some (serial_of o) ≡ true
    parented n None e k s = absurd (root n.kind k s)
    parented n (Some p) e k s = refl

    by : (o : Option Node) → node_at nodes class ≡ o → has_kind is_class_kind o ≡ true → is_some (serial_of (parent_of nodes o)) ≡ true
    by None e r = cc
    by (Some n) e r =
        let stands = nat_lt (depth_of nodes n.serial) DEPTH && may_stand (kind_of (node_at nodes n.parent)) n.kind in
        let well = and_parts stands (agree_with nodes n.parent n.kind) (held nodes class nodes n placed e) in
        parented n (node_at nodes n.parent) refl r (and_parts (nat_lt (depth_of nodes n.serial) DEPTH) (may_stand (kind_of (node_at nodes n.parent)) n.kind) well.0).1

-- the place of a serial among those of nodes
pub place_of_serial : (s : ℕ) (ns : List Node) → position (λ (other : ℕ). other == s) (serials ns) ≡ position (λ (n : Node). n.serial == s) ns
place_of_serial s ns =
    ap (λ k. cond (nat_lt k (length (serials ns))) (Some k) None) (first ns)
    ∙ ap (λ l. cond (nat_lt (position_or_len (λ (n : Node). n.serial == s) ns) l) (Some (position_or_len (λ (n : Node). n.serial == s) ns)) None) (length-map ns (λ (n : Node). n.serial))
  where
    first : (ms : List Node) → position_or_len (λ (other : ℕ). other == s) (serials ms) ≡ position_or_len (λ (n : Node). n.serial == s) ms
    first [] = refl
    first (m ∷ ms) = ap (λ k. cond (not (m.serial == s)) (1 + k) 0) (first ms)
