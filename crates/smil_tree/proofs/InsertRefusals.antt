-- When an insertion is refused, and the document where it is not.
use Rattle.std.proofs.Common.{◌≡◌, refl, ap, ℕ, suc, ◌+◌, ◌-◌, ◌*◌, ◌<◌, ◌≤◌, List, Option, Some, None, Result, Ok, Err, Bool, true, false, cond, length}
use Rattle.std.specs.Prelude.{◌&&◌, ◌||◌, not, is_some, IsSome, slice_get, nat_lt, nat_le, ⊤}
use Rattle.std.proofs.lemmas.Bool.{and_parts, or_parts, ltb-true, ltb-false, leb-false}
use Rattle.smil_model.specs.declared.limits.TheConstants.{NODES, DEPTH, REFERENCES, SERIALS, ITEMS}
use Rattle.smil_model.specs.declared.document.Node.{Node}
use Rattle.smil_model.specs.declared.document.Attrs.{Attrs}
use Rattle.smil_model.specs.declared.document.Kind.{Kind}
use Rattle.smil_model.specs.document.Document.{Document, node_at}
use Rattle.smil_model.specs.document.Values.{fit_kind}
use Rattle.smil_model.specs.document.Valid.{IsValid, depth_of, kind_of, may_stand, agree_with, is_id_taken, references, references_among, references_of}
use Rattle.smil_model.specs.document.Edits.{children, child_place, node_inserted}
use Rattle.smil_model.specs.shown.Orders.{is_place}
use Rattle.smil_tree.specs.declared.fault.TreeFault.{TreeFault}
use Rattle.smil_tree.specs.declared.fault.TreeFault.TheVariants.{TooDeep, BadPlace, DuplicateId, TooManyElements, TooManyReferences, Root, Memory}
use Rattle.smil_tree.specs.Outcomes.{IsFaultOf, passes, may_bear, place_outcome, room_outcome, insert_outcome, and_after}
use Rattle.smil_tree.proofs.AttributesChanged.{fit_few}
use Rattle.smil_tree.proofs.ListCuts.{sum_inserted}
use Rattle.smil_tree.proofs.Counted.{long_inserted}
use Rattle.smil_tree.proofs.NodeInserted.{Put, put_at, valid_grown}

pub fault_of : {A : Type 0} (outcome : Result A TreeFault) (fault : TreeFault) → outcome ≡ Err fault → IsFaultOf outcome fault
fault_of outcome TooDeep is = is
fault_of outcome BadPlace is = is
fault_of outcome DuplicateId is = is
fault_of outcome TooManyElements is = is
fault_of outcome TooManyReferences is = is
fault_of outcome Root is = is
fault_of outcome Memory is = tt

-- ---- what is known where nothing is refused

pub record IsPlacedAt (nodes : List Node) (parent place : ℕ) (kind : Kind) : Type 0 where
  pub deep : nat_lt (suc (depth_of nodes parent)) DEPTH ≡ true
  pub counted : is_place nodes parent place ≡ true
  pub stand : may_stand (kind_of (node_at nodes parent)) kind ≡ true
  pub agree : agree_with nodes parent kind ≡ true

pub placed_facts : (nodes : List Node) (parent place : ℕ) (kind : Kind) → place_outcome nodes parent place kind ≡ Ok tt → IsPlacedAt nodes parent place kind
placed_facts nodes parent place kind is = by_depth (nat_lt (suc (depth_of nodes parent)) DEPTH) refl (is_place nodes parent place && may_stand (kind_of (node_at nodes parent)) kind && agree_with nodes parent kind) refl is
  where
    by_depth : (t : Bool) → nat_lt (suc (depth_of nodes parent)) DEPTH ≡ t → (u : Bool) → (is_place nodes parent place && may_stand (kind_of (node_at nodes parent)) kind && agree_with nodes parent kind) ≡ u → ◌≡◌ {A = Result ⊤ TreeFault} (cond (not t) (Err TooDeep) (cond u (Ok (tt {0})) (Err BadPlace))) (Ok (tt {0})) → IsPlacedAt nodes parent place kind
    by_depth false e u f r = cc
    by_depth true e false f r = cc
    by_depth true e true f r =
        let whole = and_parts (is_place nodes parent place && may_stand (kind_of (node_at nodes parent)) kind) (agree_with nodes parent kind) f in
        let first = and_parts (is_place nodes parent place) (may_stand (kind_of (node_at nodes parent)) kind) whole.0 in
        record { deep = e; counted = first.0; stand = first.1; agree = whole.1 }

pub place_counted : (nodes : List Node) (parent place : ℕ) (kind : Kind) → place_outcome nodes parent place kind ≡ Ok tt → 0 < place
place_counted nodes parent place kind is = ltb-true 0 place ((and_parts (nat_lt 0 place) (nat_le place (suc (length (children nodes parent)))) ((placed_facts nodes parent place kind is).counted)).0)

record Roomy (d : Document) (attrs : Attrs) (after : Document) : Type 0 where
  free : is_id_taken d.nodes d.next attrs.id ≡ false
  few : length after.nodes ≤ NODES
  left : d.next < SERIALS
  light : references after.nodes ≤ REFERENCES

room_facts : (d : Document) (attrs : Attrs) (after : Document) → room_outcome d attrs after ≡ Ok after → Roomy d attrs after
room_facts d attrs after is = by_test (is_id_taken d.nodes d.next attrs.id) refl (nat_lt NODES (length after.nodes) || nat_le SERIALS d.next) refl (nat_lt REFERENCES (references after.nodes)) refl is
  where
    by_test : (t : Bool) → is_id_taken d.nodes d.next attrs.id ≡ t → (u : Bool) → (nat_lt NODES (length after.nodes) || nat_le SERIALS d.next) ≡ u → (v : Bool) → nat_lt REFERENCES (references after.nodes) ≡ v → cond t (Err DuplicateId) (cond u (Err TooManyElements) (cond v (Err TooManyReferences) (Ok after))) ≡ Ok after → Roomy d attrs after
    by_test true e u f v g r = cc
    by_test false e true f v g r = cc
    by_test false e false f true g r = cc
    by_test false e false f false g r =
        let parts = or_parts (nat_lt NODES (length after.nodes)) (nat_le SERIALS d.next) f in
        record { free = e; few = ltb-false NODES (length after.nodes) parts.0; left = leb-false SERIALS d.next parts.1; light = ltb-false REFERENCES (references after.nodes) g }

record Bearer (nodes : List Node) (parent : ℕ) (kind : Kind) (attrs : Attrs) : Type 0 where
  node : Node
  at : node_at nodes parent ≡ Some node
  fits : fit_kind kind (Some node.kind) attrs ≡ true

bearer : (nodes : List Node) (parent : ℕ) (kind : Kind) (attrs : Attrs) → may_bear nodes parent kind attrs ≡ true → Bearer nodes parent kind attrs
bearer nodes parent kind attrs h = by_node (node_at nodes parent) refl h
  where
    by_node : (o : Option Node) → node_at nodes parent ≡ o → passes (λ (p : Node). fit_kind kind (Some p.kind) attrs) o ≡ true → Bearer nodes parent kind attrs
    by_node None e r = cc
    by_node (Some p) e r = record { node = p; at = e; fits = r }

pub few_among : (nodes : List Node) (parent : ℕ) (kind : Kind) (attrs : Attrs) → may_bear nodes parent kind attrs ≡ true → references_among attrs ≤ 2 * ITEMS
few_among nodes parent kind attrs h = let b = bearer nodes parent kind attrs h in fit_few kind (Some b.node.kind) attrs b.fits

-- what may bear a node is one
pub bearer_known : (nodes : List Node) (parent : ℕ) (kind : Kind) (attrs : Attrs) → may_bear nodes parent kind attrs ≡ true → IsSome (node_at nodes parent)
bearer_known nodes parent kind attrs h = let b = bearer nodes parent kind attrs h in ap is_some b.at

module _ (d : Document) (valid : IsValid d) (parent place : ℕ) (kind : Kind) (attrs : Attrs) (takes : may_bear d.nodes parent kind attrs ≡ true) where
  abbrev pub after : Document
  after = node_inserted d parent place kind attrs

  abbrev i : ℕ
  i = child_place d.nodes parent (slice_get (children d.nodes parent) (place - 1))

  abbrev m : Node
  m = record { serial = d.next; kind = kind; parent = parent; attrs = attrs }

  put : Put d.nodes d.next valid parent ((bearer d.nodes parent kind attrs takes).node) ((bearer d.nodes parent kind attrs takes).at) kind attrs i
  put = let b = bearer d.nodes parent kind attrs takes in put_at d.nodes d.next valid parent b.node b.at kind attrs (place - 1)

  pub place_within : i ≤ length d.nodes
  place_within = put.within

  pub long_after : length after.nodes ≡ suc (length d.nodes)
  long_after = long_inserted d.nodes i m

  pub more_after : references after.nodes ≡ references d.nodes + references_among attrs
  more_after = sum_inserted references_of d.nodes i m

  pub valid_after : place_outcome d.nodes parent place kind ≡ Ok tt → room_outcome d attrs after ≡ Ok after → IsValid after
  valid_after placed room =
      let b = bearer d.nodes parent kind attrs takes in
      let p = placed_facts d.nodes parent place kind placed in
      let r = room_facts d attrs after room in
      valid_grown d.nodes d.next valid parent b.node b.at kind attrs i put r.left p.deep p.stand p.agree b.fits r.free r.few r.light

  pub outcome_is : place_outcome d.nodes parent place kind ≡ Ok tt → insert_outcome d parent place kind attrs ≡ room_outcome d attrs after
  outcome_is placed = ap (λ o. and_after o (room_outcome d attrs after)) placed
