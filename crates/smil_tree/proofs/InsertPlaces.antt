-- Where a child may be inserted, by the height of its parent and the kinds.
use Rattle.std.proofs.Common.{◌≡◌, refl, sym, ◌∙◌, ap, subst, ℕ, suc, ◌+◌, ◌<◌, ◌≤◌, List, [], ◌∷◌, Option, Some, None, Ok, Err, Bool, true, false, cond, length, arith}
use Rattle.std.specs.Prelude.{◌==◌, ◌&&◌, ◌||◌, not, nat_lt, nat_le, min, slice_get, is_some, IsSome}
use Rattle.std.specs.List.{AllByRecursion}
use Rattle.std.proofs.lemmas.Bool.{and_parts, lt-ltb, le-ltb, eqb-true}
use Rattle.smil_model.specs.declared.limits.TheConstants.{DEPTH}
use Rattle.smil_model.specs.declared.document.Node.{Node}
use Rattle.smil_model.specs.declared.document.Kind.{Kind}
use Rattle.smil_model.specs.document.Document.{node_at, lineage, is_class_kind}
use Rattle.smil_model.specs.document.Valid.{IsValid, depth_of, kind_of, may_hold, may_stand, agree_with, same_test, is_well_placed}
use Rattle.smil_model.specs.document.Edits.{children}
use Rattle.smil_model.specs.shown.Orders.{is_place}
use Rattle.smil_model.specs.ListTables.{list_in}
use Rattle.smil_laws.specs.Edited.{IsOrdered}
use Rattle.smil_laws.proofs.Lists.{each_weaker}
use Rattle.smil_laws.proofs.DependencyRanks.{serials_length}
use Rattle.smil_tree.specs.Kin.{Families, IsKinOf}
use Rattle.smil_tree.specs.declared.fault.TreeFault.TheVariants.{TooDeep, BadPlace}
use Rattle.smil_tree.specs.Outcomes.{passes, place_outcome, agrees_with_first}
use Rattle.smil_tree.proofs.NodeFamilies.{above_of}
use Rattle.smil_tree.proofs.KinLists.{none_pass}
use Rattle.smil_tree.proofs.ChildSpans.{PassesTest, passing_at, child_told, no_child_told}
use Rattle.smil_tree.proofs.NodeSpans.{each_parts}
use Rattle.smil_tree.proofs.NodesStand.{each_of_all, all_of_each}

module _ (nodes : List Node) (o : IsOrdered nodes) (parent : ℕ) (n : Node) (at : node_at nodes parent ≡ Some n) (place : ℕ) (kind : Kind) where
  depth_is : depth_of nodes parent ≡ length (lineage nodes n.parent)
  depth_is = ap length (above_of nodes o parent n at)

  outcome_at : (t : Bool) → nat_lt (suc (depth_of nodes parent)) DEPTH ≡ t → place_outcome nodes parent place kind ≡ cond (not t) (Err TooDeep) (cond (is_place nodes parent place && may_stand (kind_of (node_at nodes parent)) kind && agree_with nodes parent kind) (Ok tt) (Err BadPlace))
  outcome_at t e = ap (λ u. cond (not u) (Err TooDeep) (cond (is_place nodes parent place && may_stand (kind_of (node_at nodes parent)) kind && agree_with nodes parent kind) (Ok tt) (Err BadPlace))) e

  pub too_deep : (h : ℕ) → h ≡ min (length (lineage nodes n.parent)) DEPTH → DEPTH ≤ h + 1 → place_outcome nodes parent place kind ≡ Err TooDeep
  too_deep h is deep = outcome_at false (le-ltb (suc (depth_of nodes parent)) DEPTH (omega (arith, is, deep, depth_is)))

  pub placed : (h : ℕ) (b : Bool) → h ≡ min (length (lineage nodes n.parent)) DEPTH → h + 1 < DEPTH → b ≡ (is_place nodes parent place && may_hold n.kind kind && agree_with nodes parent kind) → place_outcome nodes parent place kind ≡ cond b (Ok tt) (Err BadPlace)
  placed h b is shallow fits =
      outcome_at true (lt-ltb (suc (depth_of nodes parent)) DEPTH (omega (arith, is, shallow, depth_is)))
      ∙ ap (λ x. cond (is_place nodes parent place && may_stand (kind_of x) kind && agree_with nodes parent kind) (Ok tt) (Err BadPlace)) at
      ∙ ap (λ t. cond t (Ok tt) (Err BadPlace)) (sym fits)

-- ---- told by the kin

pub both_ways : (a b : Bool) → (a ≡ true → b ≡ true) → (b ≡ true → a ≡ true) → a ≡ b
both_ways true b f g = sym (f refl)
both_ways false true f g = g refl
both_ways false false f g = refl

-- two that agree with a third agree
through : (a b c : Bool) → same_test a b ≡ true → same_test b c ≡ true → same_test a c ≡ true
through true true true f g = refl
through true true false f g = g
through true false c f g = cc
through false true c f g = cc
through false false true f g = g
through false false false f g = refl

module _ (nodes : List Node) (next : ℕ) (valid : IsValid (record { nodes = nodes; next = next })) (parent : ℕ) (kind : Kind) where
  abbrev agrees : Kind → Node → Bool
  agrees k n = not (n.parent == parent) || same_test (is_class_kind n.kind) (is_class_kind k)

  no_children : children nodes parent ≡ [] → agree_with nodes parent kind ≡ true
  no_children none =
      all_of_each (agrees kind) nodes
      (each_weaker (λ (n : Node). n.parent == parent ≡ false) (λ (n : Node). agrees kind n ≡ true) nodes (none_pass (λ (n : Node). n.parent == parent) nodes none)
      (λ n e. ap (λ t. not t || same_test (is_class_kind n.kind) (is_class_kind kind)) e))

  first_child : (c : Node) → slice_get (children nodes parent) 0 ≡ Some c → same_test (is_class_kind c.kind) (is_class_kind kind) ≡ agree_with nodes parent kind
  first_child c at = both_ways (same_test (is_class_kind c.kind) (is_class_kind kind)) (agree_with nodes parent kind) all_do it_does
    where
      p : PassesTest (λ (n : Node). n.parent == parent) nodes c
      p = passing_at (λ (n : Node). n.parent == parent) nodes 0 c at

      it : (P : Node → Type 0) → AllByRecursion P nodes → P c
      it P each = (each_parts P p.front (c ∷ p.back) (subst (λ (ns : List Node). AllByRecursion P ns) p.is each)).1.0

      with_it : agree_with nodes parent c.kind ≡ true
      with_it =
          ap (λ q. agree_with nodes q c.kind) (sym (eqb-true c.parent parent p.passes))
          ∙ (and_parts (nat_lt (depth_of nodes c.serial) DEPTH && may_stand (kind_of (node_at nodes c.parent)) c.kind) (agree_with nodes c.parent c.kind)
          (it (λ (n : Node). is_well_placed nodes n ≡ true) (each_of_all (is_well_placed nodes) nodes valid.placed))).1

      all_do : same_test (is_class_kind c.kind) (is_class_kind kind) ≡ true → agree_with nodes parent kind ≡ true
      all_do h =
          all_of_each (agrees kind) nodes
          (each_weaker (λ (n : Node). agrees c.kind n ≡ true) (λ (n : Node). agrees kind n ≡ true) nodes (each_of_all (agrees c.kind) nodes with_it)
          (λ n e. step (not (n.parent == parent)) n e))
        where
          step : (t : Bool) (n : Node) → (t || same_test (is_class_kind n.kind) (is_class_kind c.kind)) ≡ true → (t || same_test (is_class_kind n.kind) (is_class_kind kind)) ≡ true
          step true n e = refl
          step false n e = through (is_class_kind n.kind) (is_class_kind c.kind) (is_class_kind kind) e h

      it_does : agree_with nodes parent kind ≡ true → same_test (is_class_kind c.kind) (is_class_kind kind) ≡ true
      it_does all =
          sym (ap (λ t. not t || same_test (is_class_kind c.kind) (is_class_kind kind)) p.passes)
          ∙ it (λ (n : Node). agrees kind n ≡ true) (each_of_all (agrees kind) nodes all)

  first_told : (families : Families) → IsKinOf families nodes → (xs : List ℕ) → xs ≡ list_in families.children parent → agrees_with_first nodes (slice_get xs 0) kind ≡ agree_with nodes parent kind
  first_told families kin xs is = by_first (slice_get xs 0) refl
    where
      by_first : (o : Option ℕ) → slice_get xs 0 ≡ o → agrees_with_first nodes o kind ≡ agree_with nodes parent kind
      by_first None e = sym (no_children (empty (children nodes parent) (no_child_told nodes next valid.numbered families kin parent xs is 0 (sym e))))
        where
          empty : (ns : List Node) → slice_get ns 0 ≡ None → ns ≡ []
          empty [] q = refl
          empty (n ∷ ns) q = cc
      by_first (Some s) e =
          let child = child_told nodes next valid.numbered families kin parent xs is 0 s (sym e) in
          ap (passes (λ (n : Node). same_test (is_class_kind n.kind) (is_class_kind kind))) child.known ∙ first_child child.node child.at

  pub may_place_told : (families : Families) → IsKinOf families nodes → (xs : List ℕ) → xs ≡ list_in families.children parent → (holder : Kind) (place : ℕ) → (nat_lt 0 place && nat_le place (suc (length xs)) && may_hold holder kind && agrees_with_first nodes (slice_get xs 0) kind) ≡ (is_place nodes parent place && may_hold holder kind && agree_with nodes parent kind)
  may_place_told families kin xs is holder place =
      ap (λ k. nat_lt 0 place && nat_le place (suc k) && may_hold holder kind && agrees_with_first nodes (slice_get xs 0) kind) (ap length (is ∙ kin.children parent) ∙ serials_length (children nodes parent))
      ∙ ap (λ b. is_place nodes parent place && may_hold holder kind && b) (first_told families kin xs is)

  pub first_known : (families : Families) → IsKinOf families nodes → (xs : List ℕ) → xs ≡ list_in families.children parent → (s : ℕ) → slice_get xs 0 ≡ Some s → IsSome (node_at nodes s)
  first_known families kin xs is s at = ap is_some (child_told nodes next valid.numbered families kin parent xs is 0 s (sym at)).known
