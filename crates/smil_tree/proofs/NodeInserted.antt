-- A tree with a new node.
use Rattle.std.proofs.Common.{◌≡◌, refl, sym, ◌∙◌, ap, subst, ℕ, suc, ◌+◌, ◌<◌, ◌≤◌, List, [], ◌∷◌, ◌++◌, Option, Some, None, Bool, true, false, cond, length, filter, take, drop, insert, arith, append_assoc}
use Rattle.std.specs.Prelude.{◌==◌, ◌||◌, ◌&&◌, not, count_by, slice_get, nat_lt}
use Rattle.std.specs.List.{list_all, AllByRecursion}
use Rattle.std.specs.Cmp.Lexicographic.{bytes_decides}
use Rattle.std.proofs.Math.Seq.{take-append_seam, drop-append_seam, take-append-add, drop-append-add}
use Rattle.std.proofs.lemmas.Bool.{and_parts, and_from, or_parts, or_from, or_right, eqb-true, eq-eqb, ne_eqb}
use Rattle.std.proofs.lemmas.List.{take-append-drop, length-append}
use Rattle.std.proofs.lemmas.List.Elements.{recursion_from_All, All-from_recursion}
use Rattle.smil_model.specs.declared.limits.TheConstants.{NODES, DEPTH, REFERENCES, SERIALS}
use Rattle.smil_model.specs.declared.document.Node.{Node}
use Rattle.smil_model.specs.declared.document.Attrs.{Attrs}
use Rattle.smil_model.specs.declared.document.Kind.{Kind}
use Rattle.smil_model.specs.document.Document.{node_at, lineage, has_id, is_class_kind}
use Rattle.smil_model.specs.document.Values.{fit_kind}
use Rattle.smil_model.specs.document.Valid.{IsValid, IsNumberedTree, IsTree, IsDistinct, depth_of, kind_of, may_stand, agree_with, same_test, is_well_placed, has_fitting_attrs, is_id_taken, references}
use Rattle.smil_model.specs.document.Edits.{children, place_in, child_place}
use Rattle.smil_laws.specs.Edited.{IsOrdered}
use Rattle.smil_laws.proofs.NumberedTrees.{ordered, all_low}
use Rattle.smil_laws.proofs.AsideDocuments.{each_both, find_true}
use Rattle.smil_laws.proofs.LineageParents.{swap_eqb}
use Rattle.smil_laws.proofs.ListMembers.{holds, none_held}
use Rattle.smil_laws.proofs.Lists.{each_weaker}
use Rattle.smil_tree.specs.TreeFields.{bears}
use Rattle.smil_tree.proofs.ListCuts.{sum_inserted}
use Rattle.smil_tree.proofs.NodeFamilies.{chain_of}
use Rattle.smil_tree.proofs.KinLists.{filter_all}
use Rattle.smil_tree.proofs.ChildSpans.{passing_at}
use Rattle.smil_tree.proofs.TreeMade.{once_of, bare}
use Rattle.smil_tree.proofs.IdOwners.{Around, around}
use Rattle.smil_tree.proofs.NodeSpans.{each_parts, no_zero, spot, place_is, stack_of, end_is, inner, tree_before, tree_behind}
use Rattle.smil_tree.proofs.OpenLineage.{spanned_within}
use Rattle.smil_tree.proofs.NodesStand.{each_of_all, all_of_each, all_between, none_taken, lineage_chosen, node_chosen}

-- ---- lists with one more node

held_between : (s : ℕ) (front : List Node) (m : Node) (back : List Node) → holds s (front ++ back) ≡ false → m.serial == s ≡ false → holds s (front ++ m ∷ back) ≡ false
held_between s [] m back none apart = or_from _ _ apart none
held_between s (n ∷ front) m back none apart =
    let parts = or_parts (n.serial == s) (holds s (front ++ back)) none in
    or_from _ _ parts.0 (held_between s front m back parts.1 apart)

distinct_between : (front : List Node) (m : Node) (back : List Node) → IsDistinct (front ++ back) → holds m.serial (front ++ back) ≡ false → IsDistinct (front ++ m ∷ back)
distinct_between [] m back d none = (none, d)
distinct_between (n ∷ front) m back d none =
    let parts = or_parts (n.serial == m.serial) (holds m.serial (front ++ back)) none in
    (held_between n.serial front m back d.0 (swap_eqb n.serial m.serial parts.0), distinct_between front m back d.1 parts.1)

each_between : (P : Node → Type 0) (front : List Node) (m : Node) (back : List Node) → AllByRecursion P (front ++ back) → P m → AllByRecursion P (front ++ m ∷ back)
each_between P [] m back each here = (here, each)
each_between P (n ∷ front) m back each here = (each.0, each_between P front m back each.1 here)

filter_between : (t : Node → Bool) (front : List Node) (m : Node) (back : List Node) → t m ≡ false → filter t (front ++ m ∷ back) ≡ filter t (front ++ back)
filter_between t [] m back out = ap (λ b. cond b (m ∷ filter t back) (filter t back)) out
filter_between t (n ∷ front) m back out = ap (λ ms. cond (t n) (n ∷ ms) ms) (filter_between t front m back out)

swapped : (a b : Bool) → same_test a b ≡ true → same_test b a ≡ true
swapped true true h = refl
swapped true false h = h
swapped false true h = h
swapped false false h = refl

module _ (nodes : List Node) (next : ℕ) (valid : IsValid (record { nodes = nodes; next = next })) (parent : ℕ) (p : Node) (at : node_at nodes parent ≡ Some p) (kind : Kind) (attrs : Attrs) where
  abbrev m : Node
  m = record { serial = next; kind = kind; parent = parent; attrs = attrs }

  own : p.serial ≡ parent
  own = eqb-true p.serial parent (find_true (λ (n : Node). n.serial == parent) nodes p at)

  a : Around (λ attrs. attrs) parent nodes p
  a = around (λ attrs. attrs) parent nodes p valid.numbered.distinct at

  low : AllByRecursion (λ (n : Node). (n.serial < next) × (n.parent < next)) nodes
  low = all_low (record { nodes = nodes; next = next }) valid.numbered

  apart_from : (k : ℕ) → k < next → k == next ≡ false
  apart_from k h = ne_eqb k next (λ e. absurd (omega (arith, e, h)))

  -- ---- the place

  pub record Put (i : ℕ) : Type 0 where
    pub within : i ≤ length nodes
    pub tree : IsTree (insert nodes i m)

  not_zero : parent ≡ 0 → ⊥
  not_zero e = let never : Some p ≡ None = sym at ∙ ap (node_at nodes) e ∙ no_zero nodes next valid.numbered in cc

  put_before_child : (c : Node) (front back : List Node) → nodes ≡ front ++ c ∷ back → c.parent ≡ parent → Put (place_in nodes c.serial)
  put_before_child c [] back is child =
      let whole : IsTree (c ∷ back) = subst IsTree is valid.numbered.tree in
      absurd (not_zero (sym child ∙ whole.0))
  put_before_child c (root ∷ front) back is child =
      let long = length-append (root ∷ front) (c ∷ back) in
      let grown : insert nodes (length (root ∷ front)) m ≡ root ∷ front ++ m ∷ c ∷ back =
      ap (λ ns. take (length (root ∷ front)) ns ++ m ∷ drop (length (root ∷ front)) ns) is
      ∙ ap (λ ms. ms ++ m ∷ drop (length (root ∷ front)) (root ∷ front ++ c ∷ back)) (take-append_seam (root ∷ front) (c ∷ back))
      ∙ ap (λ ms. (root ∷ front) ++ m ∷ ms) (drop-append_seam (root ∷ front) (c ∷ back)) in
      let here = low_known front back is in
      subst Put (sym (place_is nodes next valid.numbered (root ∷ front) c back is))
      (record {
        within = omega (arith, ap length is, long);
        tree = subst IsTree (sym grown) (tree_before nodes next valid.numbered root front m c back is child (swap_eqb c.parent next (apart_from c.parent here)));
      })
    where
      low_known : (ahead behind : List Node) → nodes ≡ (root ∷ ahead) ++ c ∷ behind → c.parent < next
      low_known ahead behind e = (each_parts (λ (n : Node). (n.serial < next) × (n.parent < next)) (root ∷ ahead) (c ∷ behind) (subst (λ (ns : List Node). AllByRecursion (λ (n : Node). (n.serial < next) × (n.parent < next)) ns) e low)).1.0.1

  put_at_end : Put (child_place nodes parent None)
  put_at_end =
      let k = inner nodes next valid.numbered p a.back in
      let few = spanned_within p.serial (stack_of nodes next valid.numbered p) a.back in
      let long = length-append a.front (p ∷ a.back) in
      let behind = (each_parts (λ (n : Node). (n.serial < next) × (n.parent < next)) a.front (p ∷ a.back) (subst (λ (ns : List Node). AllByRecursion (λ (n : Node). (n.serial < next) × (n.parent < next)) ns) a.before low)).1.1 in
      let fresh = each_weaker (λ (n : Node). (n.serial < next) × (n.parent < next)) (λ (n : Node). next == n.parent ≡ false) a.back behind (λ n h. swap_eqb n.parent next (apart_from n.parent h.1)) in
      let grown : insert nodes (length a.front + suc k) m ≡ a.front ++ p ∷ (take k a.back ++ m ∷ drop k a.back) =
      ap (λ ns. take (length a.front + suc k) ns ++ m ∷ drop (length a.front + suc k) ns) a.before
      ∙ ap (λ ms. ms ++ m ∷ drop (length a.front + suc k) (a.front ++ p ∷ a.back)) (take-append-add a.front (p ∷ a.back) (suc k))
      ∙ ap (λ ms. (a.front ++ p ∷ take k a.back) ++ m ∷ ms) (drop-append-add a.front (p ∷ a.back) (suc k))
      ∙ append_assoc a.front (p ∷ take k a.back) (m ∷ drop k a.back) in
      subst (λ s. Put (child_place nodes s None)) own
      (subst Put (sym (end_is nodes next valid.numbered a.front p a.back a.before))
      (record {
        within = omega (arith, ap length a.before, long, few);
        tree = subst IsTree (sym grown) (tree_behind nodes next valid.numbered a.front m p a.back a.before (sym own) fresh);
      }))

  pub put_at : (k : ℕ) → Put (child_place nodes parent (slice_get (children nodes parent) k))
  put_at k = by_slot (slice_get (children nodes parent) k) refl
    where
      by_slot : (slot : Option Node) → slice_get (children nodes parent) k ≡ slot → Put (child_place nodes parent slot)
      by_slot None e = put_at_end
      by_slot (Some c) e =
          let q = passing_at (λ (n : Node). n.parent == parent) nodes k c e in
          put_before_child c q.front q.back q.is (eqb-true c.parent parent q.passes)

  -- ---- the new document

  module _ (i : ℕ) (put : Put i) (serials_left : next < SERIALS) where
    abbrev grown : List Node
    grown = insert nodes i m

    over : (P : Node → Type 0) → AllByRecursion P nodes → P m → AllByRecursion P grown
    over P each here = each_between P (take i nodes) m (drop i nodes) (subst (λ (ns : List Node). AllByRecursion P ns) (sym (take-append-drop i nodes)) each) here

    new_serial : holds next nodes ≡ false
    new_serial = none_held next nodes (each_weaker (λ (n : Node). (n.serial < next) × (n.parent < next)) (λ (n : Node). n.serial == next ≡ false) nodes low (λ n h. apart_from n.serial h.0))

    parent_low : parent < next
    parent_low = subst (λ s. s < next) own ((each_parts (λ (n : Node). (n.serial < next) × (n.parent < next)) a.front (p ∷ a.back) (subst (λ (ns : List Node). AllByRecursion (λ (n : Node). (n.serial < next) × (n.parent < next)) ns) a.before low)).1.0.0)

    pub numbered_grown : IsNumberedTree (record { nodes = grown; next = suc next })
    numbered_grown = record {
      distinct = distinct_between (take i nodes) m (drop i nodes) (subst IsDistinct (sym (take-append-drop i nodes)) valid.numbered.distinct) (ap (holds next) (take-append-drop i nodes) ∙ new_serial);
      below =
          All-from_recursion (λ (n : Node). (0 < n.serial) × (n.serial < suc next)) grown
          (over (λ (n : Node). (0 < n.serial) × (n.serial < suc next))
          (each_weaker (λ (n : Node). (0 < n.serial) × (n.serial < next)) (λ (n : Node). (0 < n.serial) × (n.serial < suc next)) nodes (recursion_from_All (λ (n : Node). (0 < n.serial) × (n.serial < next)) nodes valid.numbered.below) (λ n h. (h.0, omega (arith, h.1))))
          (omega (arith, parent_low), omega arith));
      next = omega (arith, serials_left);
      tree = put.tree;
    }

    abbrev old : ℕ → Bool
    old k = not (k == next)

    is_old : (k : ℕ) → k < next → old k ≡ true
    is_old k h = ap not (apart_from k h)

    chosen_are : filter (λ (n : Node). old n.serial) grown ≡ nodes
    chosen_are =
        filter_between (λ (n : Node). old n.serial) (take i nodes) m (drop i nodes) (ap not (eq-eqb next next refl))
        ∙ ap (filter (λ (n : Node). old n.serial)) (take-append-drop i nodes)
        ∙ filter_all (λ (n : Node). old n.serial) nodes (each_weaker (λ (n : Node). (n.serial < next) × (n.parent < next)) (λ (n : Node). old n.serial ≡ true) nodes low (λ n h. is_old n.serial h.0))

    parents_old : AllByRecursion (λ (n : Node). old n.serial ≡ true → old n.parent ≡ true) grown
    parents_old =
        over (λ (n : Node). old n.serial ≡ true → old n.parent ≡ true)
        (each_weaker (λ (n : Node). (n.serial < next) × (n.parent < next)) (λ (n : Node). old n.serial ≡ true → old n.parent ≡ true) nodes low (λ n h k. is_old n.parent h.1))
        (λ k. is_old parent parent_low)

    line_same : (k : ℕ) → k < next → lineage grown k ≡ lineage nodes k
    line_same k h = sym (lineage_chosen grown old parents_old k (is_old k h)) ∙ ap (λ ns. lineage ns k) chosen_are

    node_same : (k : ℕ) → k < next → node_at grown k ≡ node_at nodes k
    node_same k h = sym (node_chosen grown old parents_old k (is_old k h)) ∙ ap (λ ns. node_at ns k) chosen_are

    all_over : (t : Node → Bool) → list_all t nodes ≡ true → t m ≡ true → list_all t grown ≡ true
    all_over t all here = all_between t (take i nodes) m (drop i nodes) (ap (list_all t) (take-append-drop i nodes) ∙ all) here

    -- ---- who stands where

    module _ (deep : nat_lt (suc (depth_of nodes parent)) DEPTH ≡ true) (stand : may_stand (kind_of (node_at nodes parent)) kind ≡ true) (agree : agree_with nodes parent kind ≡ true) where
      other_agrees : (n : Node) → (not (n.parent == parent) || same_test (is_class_kind n.kind) (is_class_kind kind)) ≡ true → (not (parent == n.parent) || same_test (is_class_kind kind) (is_class_kind n.kind)) ≡ true
      other_agrees n h = by_test (n.parent == parent) refl
        where
          by_test : (t : Bool) → n.parent == parent ≡ t → (not (parent == n.parent) || same_test (is_class_kind kind) (is_class_kind n.kind)) ≡ true
          by_test false e = ap (λ t. not t || same_test (is_class_kind kind) (is_class_kind n.kind)) (swap_eqb n.parent parent e)
          by_test true e =
              let same : same_test (is_class_kind n.kind) (is_class_kind kind) ≡ true = sym (ap (λ t. not t || same_test (is_class_kind n.kind) (is_class_kind kind)) e) ∙ h in
              or_right _ _ (swapped (is_class_kind n.kind) (is_class_kind kind) same)

      old_placed : (n : Node) → ((n.serial < next) × (n.parent < next)) × (is_well_placed nodes n ≡ true) × ((not (n.parent == parent) || same_test (is_class_kind n.kind) (is_class_kind kind)) ≡ true) → is_well_placed grown n ≡ true
      old_placed n h =
          let whole = and_parts (nat_lt (depth_of nodes n.serial) DEPTH && may_stand (kind_of (node_at nodes n.parent)) n.kind) (agree_with nodes n.parent n.kind) h.1 in
          let first = and_parts (nat_lt (depth_of nodes n.serial) DEPTH) (may_stand (kind_of (node_at nodes n.parent)) n.kind) whole.0 in
          and_from _ _
          (and_from _ _
          (ap (λ c. nat_lt (length (drop 1 c)) DEPTH) (line_same n.serial h.0.0) ∙ first.0)
          (ap (λ x. may_stand (kind_of x) n.kind) (node_same n.parent h.0.1) ∙ first.1))
          (all_over (λ (x : Node). not (x.parent == n.parent) || same_test (is_class_kind x.kind) (is_class_kind n.kind)) whole.1 (other_agrees n h.2))

      known_new : node_at grown next ≡ Some m
      known_new = (spot grown (suc next) numbered_grown (take i nodes) m (drop i nodes) refl).known

      depth_new : depth_of grown next ≡ suc (depth_of nodes parent)
      depth_new =
          let o : IsOrdered nodes = ordered (record { nodes = nodes; next = next }) valid.numbered in
          let o_new : IsOrdered grown = ordered (record { nodes = grown; next = suc next }) numbered_grown in
          let chain = chain_of nodes o parent p at in
          ap (λ c. length (drop 1 c)) (chain_of grown o_new next m known_new)
          ∙ ap length (line_same parent parent_low)
          ∙ ap length chain
          ∙ ap suc (sym (ap (λ c. length (drop 1 c)) chain))

      self_agrees : (not (parent == parent) || same_test (is_class_kind kind) (is_class_kind kind)) ≡ true
      self_agrees = or_right _ _ (by_test (is_class_kind kind))
        where
          by_test : (t : Bool) → same_test t t ≡ true
          by_test true = refl
          by_test false = refl

      new_placed : is_well_placed grown m ≡ true
      new_placed =
          and_from _ _
          (and_from _ _ (ap (λ k. nat_lt k DEPTH) depth_new ∙ deep) (ap (λ x. may_stand (kind_of x) kind) (node_same parent parent_low) ∙ stand))
          (all_over (λ (x : Node). not (x.parent == parent) || same_test (is_class_kind x.kind) (is_class_kind kind)) agree self_agrees)

      placed_grown : list_all (is_well_placed grown) grown ≡ true
      placed_grown =
          all_over (is_well_placed grown)
          (all_of_each (is_well_placed grown) nodes
          (each_weaker (λ (n : Node). ((n.serial < next) × (n.parent < next)) × (is_well_placed nodes n ≡ true) × ((not (n.parent == parent) || same_test (is_class_kind n.kind) (is_class_kind kind)) ≡ true)) (λ (n : Node). is_well_placed grown n ≡ true) nodes
          (three nodes low (each_of_all (is_well_placed nodes) nodes valid.placed) (each_of_all (λ (n : Node). not (n.parent == parent) || same_test (is_class_kind n.kind) (is_class_kind kind)) nodes agree)) old_placed))
          new_placed
        where
          three : (ns : List Node) → AllByRecursion (λ (n : Node). (n.serial < next) × (n.parent < next)) ns → AllByRecursion (λ (n : Node). is_well_placed nodes n ≡ true) ns → AllByRecursion (λ (n : Node). (not (n.parent == parent) || same_test (is_class_kind n.kind) (is_class_kind kind)) ≡ true) ns → AllByRecursion (λ (n : Node). ((n.serial < next) × (n.parent < next)) × (is_well_placed nodes n ≡ true) × ((not (n.parent == parent) || same_test (is_class_kind n.kind) (is_class_kind kind)) ≡ true)) ns
          three [] f g h = tt
          three (n ∷ ns) f g h = ((f.0, g.0, h.0), three ns f.1 g.1 h.1)

      -- ---- attributes and ids

      module _ (fits : fit_kind kind (Some p.kind) attrs ≡ true) (free : is_id_taken nodes next attrs.id ≡ false) where
        fitting_grown : list_all (has_fitting_attrs grown) grown ≡ true
        fitting_grown =
            all_over (has_fitting_attrs grown)
            (all_of_each (has_fitting_attrs grown) nodes
            (each_weaker (λ (n : Node). ((n.serial < next) × (n.parent < next)) × (has_fitting_attrs nodes n ≡ true)) (λ (n : Node). has_fitting_attrs grown n ≡ true) nodes
            (each_both (λ (n : Node). (n.serial < next) × (n.parent < next)) (λ (n : Node). has_fitting_attrs nodes n ≡ true) nodes low (each_of_all (has_fitting_attrs nodes) nodes valid.fitting))
            (λ n h. ap (λ x. fit_kind n.kind (kind_of x) n.attrs) (node_same n.parent h.0.1) ∙ h.1)))
            (ap (λ x. fit_kind kind (kind_of x) attrs) (node_same parent parent_low ∙ at) ∙ fits)

        none_bears : (q : List ℕ) → bears q m ≡ true → count_by (bears q) nodes ≤ 0
        none_bears q h = by_id attrs.id refl h free
          where
            by_id : (id : Option (List ℕ)) → attrs.id ≡ id → has_id q id ≡ true → is_id_taken nodes next id ≡ false → count_by (bears q) nodes ≤ 0
            by_id None e b f = cc
            by_id (Some own_id) e b f = bare q next nodes new_serial (subst (λ r. is_id_taken nodes next (Some r) ≡ false) ((bytes_decides own_id q).0 b) f)

        once_grown : (q : List ℕ) → count_by (bears q) grown ≤ 1
        once_grown q = by_new (bears q m) refl
          where
            total : count_by (bears q) grown ≡ count_by (bears q) nodes + cond (bears q m) 1 0
            total = sum_inserted (λ (n : Node). cond (bears q n) 1 0) nodes i m

            by_new : (t : Bool) → bears q m ≡ t → count_by (bears q) grown ≤ 1
            by_new true e = let one : ◌≡◌ {A = ℕ} (cond (bears q m) 1 0) 1 = ap (λ t. cond t 1 0) e in omega (arith, total, one, none_bears q e)
            by_new false e = let none : ◌≡◌ {A = ℕ} (cond (bears q m) 1 0) 0 = ap (λ t. cond t 1 0) e in omega (arith, total, none, once_of (record { nodes = nodes; next = next }) valid q)

        pub valid_grown : length grown ≤ NODES → references grown ≤ REFERENCES → IsValid (record { nodes = grown; next = suc next })
        valid_grown few light = record {
          numbered = numbered_grown;
          placed = placed_grown;
          fitting = fitting_grown;
          ids = none_taken grown once_grown;
          nodes = few;
          references = light;
        }
