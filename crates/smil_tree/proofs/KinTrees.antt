-- The children and the time children of each node, when a node without children is put in or one is taken out with its
-- descendants.
use Rattle.std.proofs.Common.{◌+◌, ◌≡◌, refl, sym, ◌∙◌, ap, subst, ℕ, ◌≤◌, List, [], ◌∷◌, ◌++◌, Option, Some, None, Bool, true, false, cond, length, take, drop, filter, arith, inl, inr}
use Rattle.std.specs.Prelude.{◌==◌, ◌&&◌, ◌⊎◌, not, reverse, find, slice_range, slice_get}
use Rattle.std.specs.List.{AllByRecursion}
use Rattle.std.proofs.lemmas.Bool.{or_parts, or_from, or_cases, eqb-true, eq-eqb, not-true, not-false, and_right}
use Rattle.std.proofs.lemmas.List.{take-append-drop, length-append, reverse-reverse}
use Rattle.std.proofs.lemmas.List.Folds.{list_any-append}
use Rattle.std.proofs.lemmas.List.Elements.{filter-append}
use Rattle.std.specs.declared.vec.Vec.{Vec}
use Rattle.smil_model.specs.declared.document.Node.{Node}
use Rattle.smil_model.specs.document.Document.{lineage, time_parent, has_serial, is_element, is_time_child, serials, serial_of}
use Rattle.smil_model.specs.document.Edits.{children}
use Rattle.smil_model.specs.document.Valid.{IsDistinct}
use Rattle.smil_model.specs.reach.Reach.{is_option}
use Rattle.smil_laws.specs.Edited.{IsOrdered}
use Rattle.smil_laws.proofs.AsideDocuments.{each_append, each_both, each_reverse, each_filter}
use Rattle.smil_laws.proofs.DescendantChains.{IsChain, ordered_chains}
use Rattle.smil_laws.proofs.KeptNodes.{KeepsParents, parent_same, parent_kept}
use Rattle.smil_laws.proofs.LineageParents.{swap_eqb, is_option-serial_of, upwards-rest, upwards-head}
use Rattle.smil_laws.proofs.ListMembers.{holds, held_each, held_reverse, differ_each}
use Rattle.smil_laws.proofs.Lists.{each_weaker, each_kept}
use Rattle.smil_laws.proofs.EditsBelow.{keeps_list, own_parents}
use Rattle.smil_tree.specs.Places.{cut}
use Rattle.smil_tree.specs.Kin.{IsSubtree, AreListsOf, Separates}
use Rattle.smil_tree.proofs.NodeFamilies.{drop_at, node_of_place, chain_of, none_up}
use Rattle.smil_tree.proofs.KinLists.{each_left, each_right, none_pass, filter_none, filter_all, filter_each, parts}

-- ---- nodes that are kept with their parents

pub keeps_reversed : (kept : ℕ → Bool) (ns : List Node) → AllByRecursion (λ (n : Node). kept n.serial ≡ true → kept n.parent ≡ true) ns → KeepsParents kept (reverse ns)
keeps_reversed kept ns each = keeps_list kept (reverse ns) (each_reverse (λ (n : Node). kept n.serial ≡ true → kept n.parent ≡ true) ns each)

-- the nodes that both lists keep are the same: then so are their time parents
module _ (kept : ℕ → Bool) (n1 n2 : List Node) (same : filter (λ (n : Node). kept n.serial) n1 ≡ filter (λ (n : Node). kept n.serial) n2) (closed1 : AllByRecursion (λ (n : Node). kept n.serial ≡ true → kept n.parent ≡ true) n1) (closed2 : AllByRecursion (λ (n : Node). kept n.serial ≡ true → kept n.parent ≡ true) n2) where
  time_alike : (s : ℕ) (ns : List Node) → AllByRecursion (λ (n : Node). kept n.serial ≡ true) ns → filter (is_time_child n1 s) ns ≡ filter (is_time_child n2 s) ns
  time_alike s ns each =
      filter_each (is_time_child n1 s) (is_time_child n2 s) ns
      (each_weaker (λ (n : Node). kept n.serial ≡ true) (λ (n : Node). is_time_child n1 s n ≡ is_time_child n2 s n) ns each
      (λ n k. ap (λ o. is_element n && has_serial s o) (parent_same kept n1 n2 same (keeps_reversed kept n1 closed1) (keeps_reversed kept n2 closed2) [] [] [] n.serial k)))

-- ---- a node put in

around : (fs : List Node) (n : Node) (bs : List Node) → IsDistinct (fs ++ n ∷ bs) → AllByRecursion (λ (m : Node). m.serial == n.serial ≡ false) (fs ++ bs)
around [] n bs d = differ_each n.serial bs d.0
around (f ∷ fs) n bs d =
    (swap_eqb n.serial f.serial (each_right (λ (m : Node). m.serial == f.serial ≡ false) fs (n ∷ bs) (differ_each f.serial (fs ++ n ∷ bs) d.0)).0, around fs n bs d.1)

module _ (fs : List Node) (n : Node) (bs : List Node) (o : IsOrdered (fs ++ n ∷ bs)) (leaf : children (fs ++ bs) n.serial ≡ []) where
  abbrev grown : List Node
  grown = fs ++ n ∷ bs

  abbrev remains : ℕ → Bool
  remains s = not (s == n.serial)

  abbrev KeepsLeaf : Node → Type 0
  KeepsLeaf m = remains m.serial ≡ true → remains m.parent ≡ true

  old_remain : AllByRecursion (λ (m : Node). remains m.serial ≡ true) (fs ++ bs)
  old_remain =
      each_weaker (λ (m : Node). m.serial == n.serial ≡ false) (λ (m : Node). remains m.serial ≡ true) (fs ++ bs) (around fs n bs o.distinct) (λ m q. ap not q)

  own_free : n.parent == n.serial ≡ false
  own_free =
      (each_right (λ (m : Node). m.parent == m.serial ≡ false) fs (n ∷ bs)
      (subst (λ ns. AllByRecursion (λ (m : Node). m.parent == m.serial ≡ false) ns) (reverse-reverse grown) (each_reverse (λ (m : Node). m.parent == m.serial ≡ false) (reverse grown) (own_parents (reverse grown) o.first)))).0

  parents_remain : AllByRecursion KeepsLeaf (fs ++ bs)
  parents_remain =
      each_weaker (λ (m : Node). m.parent == n.serial ≡ false) KeepsLeaf (fs ++ bs)
      (none_pass (λ (m : Node). m.parent == n.serial) (fs ++ bs) leaf)
      (λ m q k. ap not q)

  grown_remain : AllByRecursion KeepsLeaf grown
  grown_remain = each_append KeepsLeaf fs (n ∷ bs) (each_left KeepsLeaf fs bs parents_remain) ((λ k. ap not own_free), each_right KeepsLeaf fs bs parents_remain)

  without : filter (λ (m : Node). remains m.serial) (fs ++ bs) ≡ filter (λ (m : Node). remains m.serial) grown
  without =
      filter-append (λ (m : Node). remains m.serial) fs bs
      ∙ ap (λ b. filter (λ (m : Node). remains m.serial) fs ++ cond b (n ∷ filter (λ (m : Node). remains m.serial) bs) (filter (λ (m : Node). remains m.serial) bs)) (sym (ap not (eq-eqb n.serial n.serial refl)))
      ∙ sym (filter-append (λ (m : Node). remains m.serial) fs (n ∷ bs))

  grown_alike : {Z : Type 0} (table : List (ℕ × Vec ℕ Z)) → AreListsOf (is_time_child (fs ++ bs)) table (fs ++ bs) → AreListsOf (is_time_child grown) table (fs ++ bs)
  grown_alike table lists s = lists s ∙ ap serials (time_alike remains (fs ++ bs) grown without parents_remain grown_remain s (fs ++ bs) old_remain)

-- the list around a place
pub around_place : (nodes : List Node) (at : ℕ) (n : Node) → slice_get nodes at ≡ Some n → take at nodes ++ n ∷ drop (at + 1) nodes ≡ nodes
around_place nodes at n there = ap (λ ns. take at nodes ++ ns) (sym (drop_at nodes at n there)) ∙ take-append-drop at nodes

-- the others keep their time parents
pub grown_lists : {Z : Type 0} (nodes : List Node) (at : ℕ) (n : Node) (table : List (ℕ × Vec ℕ Z))
    → IsOrdered nodes
    → slice_get nodes at ≡ Some n
    → children (cut at (at + 1) nodes) n.serial ≡ []
    → AreListsOf (is_time_child (cut at (at + 1) nodes)) table (cut at (at + 1) nodes)
    → AreListsOf (is_time_child nodes) table (cut at (at + 1) nodes)
grown_lists nodes at n table o there leaf lists =
    subst (λ (ns : List Node). AreListsOf (is_time_child ns) table (cut at (at + 1) nodes)) (around_place nodes at n there)
    (grown_alike (take at nodes) n (drop (at + 1) nodes) (subst IsOrdered (sym (around_place nodes at n there)) o) leaf table lists)

-- and the new one is a time child of its time parent alone
pub grown_own : (nodes : List Node) (n : Node) (parent owner : Option ℕ) → parent ≡ serial_of (time_parent nodes n.serial) → owner ≡ cond (is_element n) parent None → (s : ℕ) → is_time_child nodes s n ≡ is_option s owner
grown_own nodes n parent owner is_parent is_owner s =
    ap (λ p. is_element n && p) (sym (is_option-serial_of s (time_parent nodes n.serial)) ∙ ap (is_option s) (sym is_parent))
    ∙ by_kind (is_element n) ∙ ap (is_option s) (sym is_owner)
  where
    by_kind : (b : Bool) → (b && is_option s parent) ≡ is_option s (cond b parent None)
    by_kind true = refl
    by_kind false = refl

-- ---- a node taken out with its descendants

extra_none : (xs ys zs : List Node) → xs ++ (ys ++ zs) ≡ xs ++ zs → ys ≡ []
extra_none [] [] zs q = refl
extra_none [] (y ∷ ys) zs q = absurd (omega (arith, ap length q, length-append ys zs))
extra_none (x ∷ xs) ys zs q = extra_none xs ys zs (ap (drop 1) q)

module _ (nodes : List Node) (o : IsOrdered nodes) (start past : ℕ) (le : start ≤ past) (n : Node) (sub : IsSubtree nodes start past n) where
  abbrev within : ℕ → Bool
  within s = holds n.serial (lineage nodes s)

  abbrev stays : ℕ → Bool
  stays s = not (within s)

  abbrev part : List Node
  part = slice_range nodes start past

  abbrev pub rest : List Node
  rest = cut start past nodes

  abbrev KeepsParent : Node → Type 0
  KeepsParent m = stays m.serial ≡ true → stays m.parent ≡ true

  chains : AllByRecursion (IsChain (reverse nodes)) nodes
  chains =
      subst (λ (ns : List Node). AllByRecursion (IsChain (reverse nodes)) ns) (reverse-reverse nodes)
      (each_reverse (IsChain (reverse nodes)) (reverse nodes) (ordered_chains nodes o))

  rest_stays : AllByRecursion (λ (m : Node). stays m.serial ≡ true) rest
  rest_stays =
      subst (λ (ns : List Node). AllByRecursion (λ (m : Node). stays m.serial ≡ true) ns) (sym sub.others)
      (each_filter (λ (m : Node). stays m.serial ≡ true) (λ (m : Node). stays m.serial) nodes (λ m t. t))

  closed : AllByRecursion KeepsParent nodes
  closed =
      each_weaker (IsChain (reverse nodes)) KeepsParent nodes chains
      (λ m chain k. ap not ((or_parts (m.serial == n.serial) (within m.parent) (sym (ap (holds n.serial) chain) ∙ not-true (within m.serial) k)).1))

  rest_closed : AllByRecursion KeepsParent rest
  rest_closed = subst (λ (ns : List Node). AllByRecursion KeepsParent ns) (sym sub.others) (each_kept KeepsParent (λ (m : Node). stays m.serial) nodes closed)

  part_goes : filter (λ (m : Node). stays m.serial) part ≡ []
  part_goes =
      extra_none (take start nodes) (filter (λ (m : Node). stays m.serial) part) (drop past nodes)
      (ap (λ ns. ns ++ (filter (λ (m : Node). stays m.serial) part ++ drop past nodes)) (sym (filter_all (λ (m : Node). stays m.serial) (take start nodes) (each_left (λ (m : Node). stays m.serial ≡ true) (take start nodes) (drop past nodes) rest_stays)))
      ∙ ap (λ ns. filter (λ (m : Node). stays m.serial) (take start nodes) ++ (filter (λ (m : Node). stays m.serial) part ++ ns)) (sym (filter_all (λ (m : Node). stays m.serial) (drop past nodes) (each_right (λ (m : Node). stays m.serial ≡ true) (take start nodes) (drop past nodes) rest_stays)))
      ∙ ap (λ ns. filter (λ (m : Node). stays m.serial) (take start nodes) ++ ns) (sym (filter-append (λ (m : Node). stays m.serial) part (drop past nodes)))
      ∙ sym (filter-append (λ (m : Node). stays m.serial) (take start nodes) (part ++ drop past nodes))
      ∙ ap (filter (λ (m : Node). stays m.serial)) (parts start past nodes le)
      ∙ sym sub.others)

  part_within : AllByRecursion (λ (m : Node). within m.serial ≡ true) part
  part_within =
      each_weaker (λ (m : Node). stays m.serial ≡ false) (λ (m : Node). within m.serial ≡ true) part
      (none_pass (λ (m : Node). stays m.serial) part part_goes) (λ m q. not-false (within m.serial) q)

  -- each of the part is in its own lineage, with the node that goes
  part_chains : AllByRecursion (λ (m : Node). IsChain (reverse nodes) m × (within m.serial ≡ true)) part
  part_chains =
      each_both (IsChain (reverse nodes)) (λ (m : Node). within m.serial ≡ true) part
      (each_left (IsChain (reverse nodes)) part (drop past nodes)
      (each_right (IsChain (reverse nodes)) (take start nodes) (part ++ drop past nodes)
      (subst (λ (ns : List Node). AllByRecursion (IsChain (reverse nodes)) ns) (sym (parts start past nodes le)) chains)))
      part_within

  -- the serials of the part are those that are within it
  held_within : (s : ℕ) → holds s part ≡ true → within s ≡ true
  held_within s h = held_each (λ y. within y ≡ true) s part part_within h

  within_held : (s : ℕ) → within s ≡ true → holds s part ≡ true
  within_held s w = by_part (holds s part) (holds s rest) refl refl
    where
      by_part : (b r : Bool) → holds s part ≡ b → holds s rest ≡ r → holds s part ≡ true
      by_part true r e f = e
      by_part false true e f = let never : not true ≡ true = sym (ap not w) ∙ held_each (λ y. stays y ≡ true) s rest rest_stays f in cc
      by_part false false e f =
          let apart = or_parts (holds s (take start nodes)) (holds s (drop past nodes)) (sym (list_any-append (λ (m : Node). m.serial == s) (take start nodes) (drop past nodes)) ∙ f) in
          let none : holds s nodes ≡ false =
          sym (ap (holds s) (parts start past nodes le))
          ∙ list_any-append (λ (m : Node). m.serial == s) (take start nodes) (part ++ drop past nodes)
          ∙ or_from _ _ apart.0 (list_any-append (λ (m : Node). m.serial == s) part (drop past nodes) ∙ or_from _ _ e apart.1) in
          let never : true ≡ false = sym w ∙ ap (holds n.serial) (none_up s (reverse nodes) (held_reverse s nodes ∙ none)) in
          cc

  own_chain : lineage nodes n.serial ≡ n ∷ lineage nodes n.parent
  own_chain = chain_of nodes o n.serial n (node_of_place nodes start n o.distinct sub.first)

  -- a node of the part is the one that goes, or its parent is of the part
  climb : (m : Node) → IsChain (reverse nodes) m → within m.serial ≡ true → (m ≡ n) ⊎ (within m.parent ≡ true)
  climb m chain w = by_head (or_cases (m.serial == n.serial) (within m.parent) (sym (ap (holds n.serial) chain) ∙ w))
    where
      by_head : (m.serial == n.serial ≡ true) ⊎ (within m.parent ≡ true) → (m ≡ n) ⊎ (within m.parent ≡ true)
      by_head (inl d) =
          let same : m ∷ lineage nodes m.parent ≡ n ∷ lineage nodes n.parent = sym chain ∙ ap (lineage nodes) (eqb-true m.serial n.serial d) ∙ own_chain in
          inl cc
      by_head (inr r) = inr r

  -- what is of the part is no serial that is not
  apart_from : (s r : ℕ) → holds s part ≡ false → within r ≡ true → r == s ≡ false
  apart_from s r free w = by_test (r == s) refl
    where
      by_test : (b : Bool) → r == s ≡ b → r == s ≡ false
      by_test true d = let never : true ≡ false = sym (within_held s (ap within (sym (eqb-true r s d)) ∙ w)) ∙ free in cc
      by_test false d = d

  -- and what stays is no serial of the part
  apart_to : (s r : ℕ) → holds s part ≡ true → stays r ≡ true → r == s ≡ false
  apart_to s r h k = by_test (r == s) refl
    where
      by_test : (b : Bool) → r == s ≡ b → r == s ≡ false
      by_test true d = let never : true ≡ false = sym (held_within s h) ∙ ap within (sym (eqb-true r s d)) ∙ not-true (within r) k in cc
      by_test false d = d

  pub children_apart : Separates (λ s (m : Node). m.parent == s) (Some n.parent) start past nodes
  children_apart = record { inside = inside; outside = outside }
    where
      inside : (s : ℕ) → holds s part ≡ false → s == n.parent ≡ false → filter (λ (m : Node). m.parent == s) part ≡ []
      inside s free other =
          filter_none (λ (m : Node). m.parent == s) part
          (each_weaker (λ (m : Node). IsChain (reverse nodes) m × (within m.serial ≡ true)) (λ (m : Node). m.parent == s ≡ false) part part_chains (λ m q. by_case m (climb m q.0 q.1)))
        where
          by_case : (m : Node) → (m ≡ n) ⊎ (within m.parent ≡ true) → m.parent == s ≡ false
          by_case m (inl e) = ap (λ (k : Node). k.parent == s) e ∙ swap_eqb s n.parent other
          by_case m (inr w) = apart_from s m.parent free w

      outside : (s : ℕ) → holds s part ≡ true → filter (λ (m : Node). m.parent == s) rest ≡ []
      outside s h =
          filter_none (λ (m : Node). m.parent == s) rest
          (each_weaker (λ (m : Node). KeepsParent m × (stays m.serial ≡ true)) (λ (m : Node). m.parent == s ≡ false) rest
          (each_both KeepsParent (λ (m : Node). stays m.serial ≡ true) rest rest_closed rest_stays)
          (λ m q. apart_to s m.parent h (q.0 q.1)))

  -- no element of the part is one of another serial, up to the node that goes and its time parent
  nearest : (s : ℕ) → holds s part ≡ false → has_serial s (time_parent nodes n.serial) ≡ false → (chain : List Node) (r : ℕ) → lineage nodes r ≡ chain → holds n.serial chain ≡ true → has_serial s (find is_element chain) ≡ false
  nearest s free other [] r e w = cc
  nearest s free other (k ∷ ks) r e w = step (is_element k) (nearest s free other ks k.parent (upwards-rest (reverse nodes) r k ks o.first e))
    where
      head : k.serial ≡ r
      head = upwards-head (reverse nodes) r k ks e

      above : (k.serial == n.serial ≡ true) ⊎ (holds n.serial ks ≡ true) → (holds n.serial ks ≡ true → has_serial s (find is_element ks) ≡ false) → has_serial s (find is_element ks) ≡ false
      above (inl d) later =
          ap (λ c. has_serial s (find is_element (drop 1 c))) (sym e ∙ ap (lineage nodes) (sym head ∙ eqb-true k.serial n.serial d)) ∙ other
      above (inr h) later = later h

      step : (b : Bool) → (holds n.serial ks ≡ true → has_serial s (find is_element ks) ≡ false) → has_serial s (cond b (Some k) (find is_element ks)) ≡ false
      step true later = apart_from s k.serial free (ap within head ∙ ap (holds n.serial) e ∙ w)
      step false later = above (or_cases (k.serial == n.serial) (holds n.serial ks) w) later

  pub time_apart : (owner : Option ℕ) → owner ≡ serial_of (time_parent nodes n.serial) → Separates (is_time_child nodes) owner start past nodes
  time_apart owner is_owner = record { inside = inside; outside = outside }
    where
      inside : (s : ℕ) → holds s part ≡ false → is_option s owner ≡ false → filter (is_time_child nodes s) part ≡ []
      inside s free other =
          filter_none (is_time_child nodes s) part
          (each_weaker (λ (m : Node). IsChain (reverse nodes) m × (within m.serial ≡ true)) (λ (m : Node). is_time_child nodes s m ≡ false) part part_chains
          (λ m q. and_right (is_element m) (has_serial s (time_parent nodes m.serial)) (by_case m q.0 (climb m q.0 q.1))))
        where
          up : has_serial s (time_parent nodes n.serial) ≡ false
          up = sym (is_option-serial_of s (time_parent nodes n.serial)) ∙ ap (is_option s) (sym is_owner) ∙ other

          by_case : (m : Node) → IsChain (reverse nodes) m → (m ≡ n) ⊎ (within m.parent ≡ true) → has_serial s (time_parent nodes m.serial) ≡ false
          by_case m chain (inl e) = ap (λ (k : Node). has_serial s (time_parent nodes k.serial)) e ∙ up
          by_case m chain (inr w) =
              ap (λ c. has_serial s (find is_element (drop 1 c))) chain ∙ nearest s free up (lineage nodes m.parent) m.parent refl w

      outside : (s : ℕ) → holds s part ≡ true → filter (is_time_child nodes s) rest ≡ []
      outside s h =
          filter_none (is_time_child nodes s) rest
          (each_weaker (λ (m : Node). stays m.serial ≡ true) (λ (m : Node). is_time_child nodes s m ≡ false) rest rest_stays
          (λ m k. and_right (is_element m) (has_serial s (time_parent nodes m.serial)) (by_parent m k (time_parent nodes m.serial) refl)))
        where
          by_parent : (m : Node) → stays m.serial ≡ true → (p : Option Node) → time_parent nodes m.serial ≡ p → has_serial s p ≡ false
          by_parent m k None e = refl
          by_parent m k (Some p) e =
              apart_to s p.serial h
              (parent_kept stays nodes nodes refl (keeps_reversed stays nodes closed) (keeps_reversed stays nodes closed) [] [] [] m.serial p k e)

  -- those that stay keep their time parents
  pub cut_lists : {Z : Type 0} (table : List (ℕ × Vec ℕ Z)) → AreListsOf (is_time_child nodes) table rest → AreListsOf (is_time_child rest) table rest
  cut_lists table lists s =
      lists s
      ∙ ap serials
      (time_alike stays nodes rest (sym sub.others ∙ sym (filter_all (λ (m : Node). stays m.serial) rest rest_stays)) closed rest_closed s rest rest_stays)
