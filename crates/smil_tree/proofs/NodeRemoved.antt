-- A tree without a node and its descendants.
use Rattle.std.proofs.Common.{◌≡◌, refl, sym, ◌∙◌, ap, subst, ℕ, ◌+◌, ◌-◌, ◌<◌, ◌≤◌, List, [], ◌∷◌, ◌++◌, Option, Some, None, Bool, true, false, cond, length, filter, drop, arith}
use Rattle.std.specs.Prelude.{◌==◌, ◌&&◌, not, find, sum_by, slice_get, nat_lt}
use Rattle.std.specs.List.{list_any, list_all, AllByRecursion}
use Rattle.std.proofs.lemmas.Bool.{and_parts, and_from, or_parts, or_from, not-true, eqb-true, eq-eqb}
use Rattle.std.proofs.lemmas.List.Sums.{sum_by-cons}
use Rattle.std.proofs.lemmas.List.Elements.{recursion_from_All, All-from_recursion}
use Rattle.smil_model.specs.declared.limits.TheConstants.{DEPTH}
use Rattle.smil_model.specs.declared.document.Node.{Node}
use Rattle.smil_model.specs.document.Document.{Document, node_at, lineage, is_within, is_element, time_parent, serial_of}
use Rattle.smil_model.specs.document.Values.{fit_kind}
use Rattle.smil_model.specs.document.Valid.{IsValid, IsTree, IsDistinct, depth_of, kind_of, may_stand, agree_with, is_well_placed, has_fitting_attrs, references, references_of}
use Rattle.smil_model.specs.document.Edits.{node_removed, place_in, child_place}
use Rattle.smil_laws.specs.Edited.{IsOrdered}
use Rattle.smil_laws.proofs.NumberedTrees.{ordered}
use Rattle.smil_laws.proofs.AsideDocuments.{each_both, find_true}
use Rattle.smil_laws.proofs.ListMembers.{holds}
use Rattle.smil_laws.proofs.Lists.{each_weaker, each_chosen, each_kept, filter_shorter}
use Rattle.smil_tree.specs.Places.{cut}
use Rattle.smil_tree.specs.TreeFields.{bears, IsTableOf, Keeps}
use Rattle.smil_tree.specs.Kin.{Families, IsKinOf, IsSubtree}
use Rattle.smil_tree.proofs.NodeFamilies.{chain_of, above_of}
use Rattle.smil_tree.proofs.ChildSpans.{node_of_place}
use Rattle.smil_tree.proofs.TreeMade.{once_of}
use Rattle.smil_tree.proofs.IdOwners.{Around, around}
use Rattle.smil_tree.proofs.NodeSpans.{all_known, others_are, cut_is, tree_without}
use Rattle.smil_tree.proofs.NodesStand.{each_of_all, all_of_each, all_kept, none_taken, lineage_chosen, node_chosen}

-- ---- fewer nodes

held_fewer : (t : Node → Bool) (s : ℕ) (ns : List Node) → holds s ns ≡ false → holds s (filter t ns) ≡ false
held_fewer t s [] none = refl
held_fewer t s (n ∷ ns) none = let parts = or_parts (n.serial == s) (holds s ns) none in step (t n) parts.0 (held_fewer t s ns parts.1)
  where
    step : (b : Bool) → n.serial == s ≡ false → holds s (filter t ns) ≡ false → holds s (cond b (n ∷ filter t ns) (filter t ns)) ≡ false
    step true here rest = or_from _ _ here rest
    step false here rest = rest

pub distinct_fewer : (t : Node → Bool) (ns : List Node) → IsDistinct ns → IsDistinct (filter t ns)
distinct_fewer t [] d = tt
distinct_fewer t (n ∷ ns) d = step (t n) (distinct_fewer t ns d.1)
  where
    step : (b : Bool) → IsDistinct (filter t ns) → IsDistinct (cond b (n ∷ filter t ns) (filter t ns))
    step true rest = (held_fewer t n.serial ns d.0, rest)
    step false rest = rest

sum_fewer : (f : Node → ℕ) (t : Node → Bool) (ns : List Node) → sum_by f (filter t ns) ≤ sum_by f ns
sum_fewer f t [] = omega arith
sum_fewer f t (n ∷ ns) = step (t n) (sum_fewer f t ns)
  where
    step : (b : Bool) → sum_by f (filter t ns) ≤ sum_by f ns → sum_by f (cond b (n ∷ filter t ns) (filter t ns)) ≤ sum_by f (n ∷ ns)
    step true rest = omega (arith, rest, sum_by-cons f n (filter t ns), sum_by-cons f n ns)
    step false rest = omega (arith, rest, sum_by-cons f n ns)

module _ (nodes : List Node) (next : ℕ) (valid : IsValid (record { nodes = nodes; next = next })) (s : ℕ) (x : Node) (at : node_at nodes s ≡ Some x) where
  abbrev stays : ℕ → Bool
  stays k = not (is_within nodes s k)

  abbrev rest : List Node
  rest = filter (λ (n : Node). stays n.serial) nodes

  o : IsOrdered nodes
  o = ordered (record { nodes = nodes; next = next }) valid.numbered

  own : x.serial ≡ s
  own = eqb-true x.serial s (find_true (λ (n : Node). n.serial == s) nodes x at)

  a : Around (λ attrs. attrs) s nodes x
  a = around (λ attrs. attrs) s nodes x valid.numbered.distinct at

  -- the nodes that stay are those before the node and behind its span
  pub rest_is_cut : rest ≡ cut (place_in nodes s) (child_place nodes s None) nodes
  rest_is_cut =
      subst (λ k. filter (λ (n : Node). not (is_within nodes k n.serial)) nodes ≡ cut (place_in nodes k) (child_place nodes k None) nodes) own
      (others_are nodes next valid.numbered (a.front) x (a.back) (a.before) ∙ sym (cut_is nodes next valid.numbered (a.front) x (a.back) (a.before)))

  pub subtree : (start past : ℕ) → start ≡ place_in nodes s → past ≡ child_place nodes s None → IsSubtree nodes start past x
  subtree start past first last = record {
    first = ap (slice_get nodes) first ∙ node_of_place nodes next valid.numbered s x at;
    others = ap (λ k. cut k past nodes) first ∙ ap (λ k. cut (place_in nodes s) k nodes) last ∙ sym rest_is_cut ∙ ap (λ k. filter (λ (n : Node). not (is_within nodes k n.serial)) nodes) (sym own);
  }

  pub time_parent_told : (r : Option ℕ) → r ≡ serial_of (find is_element (lineage nodes x.parent)) → r ≡ serial_of (time_parent nodes x.serial)
  time_parent_told r is = is ∙ ap (λ c. serial_of (find is_element c)) (sym (above_of nodes o x.serial x (ap (node_at nodes) own ∙ at)))

  -- the parent of what stays stays
  parent_stays : (n : Node) → node_at nodes n.serial ≡ Some n → stays n.serial ≡ true → stays n.parent ≡ true
  parent_stays n known k =
      ap not ((or_parts (n.serial == s) (is_within nodes s n.parent) (sym (ap (list_any (λ (m : Node). m.serial == s)) (chain_of nodes o n.serial n known)) ∙ not-true (is_within nodes s n.serial) k)).1)

  all_stay : AllByRecursion (λ (n : Node). stays n.serial ≡ true → stays n.parent ≡ true) nodes
  all_stay = each_weaker (λ (n : Node). node_at nodes n.serial ≡ Some n) (λ (n : Node). stays n.serial ≡ true → stays n.parent ≡ true) nodes (all_known nodes next valid.numbered) parent_stays

  tree_rest : x.parent == 0 ≡ false → IsTree rest
  tree_rest parented = by_front a.front a.before
    where
      by_front : (front : List Node) → nodes ≡ front ++ x ∷ a.back → IsTree rest
      by_front [] e = let whole : IsTree (x ∷ a.back) = subst IsTree e valid.numbered.tree in let never : false ≡ true = sym parented ∙ eq-eqb x.parent 0 whole.0 in cc
      by_front (root ∷ front) e =
          subst IsTree
          (sym (others_are nodes next valid.numbered (root ∷ front) x a.back e) ∙ ap (λ k. filter (λ (n : Node). not (is_within nodes k n.serial)) nodes) own)
          (tree_without nodes next valid.numbered root front x a.back e)

  placed_rest : (n : Node) → stays n.serial ≡ true → (is_well_placed nodes n ≡ true) × (node_at nodes n.serial ≡ Some n) → is_well_placed rest n ≡ true
  placed_rest n k p =
      let whole = and_parts (nat_lt (depth_of nodes n.serial) DEPTH && may_stand (kind_of (node_at nodes n.parent)) n.kind) (agree_with nodes n.parent n.kind) p.0 in
      let first = and_parts (nat_lt (depth_of nodes n.serial) DEPTH) (may_stand (kind_of (node_at nodes n.parent)) n.kind) whole.0 in
      and_from _ _
      (and_from _ _
      (ap (λ c. nat_lt (length (drop 1 c)) DEPTH) (lineage_chosen nodes stays all_stay n.serial k) ∙ first.0)
      (ap (λ m. may_stand (kind_of m) n.kind) (node_chosen nodes stays all_stay n.parent (parent_stays n p.1 k)) ∙ first.1))
      (all_kept _ (λ (m : Node). stays m.serial) nodes whole.1)

  fitting_rest : (n : Node) → stays n.serial ≡ true → (has_fitting_attrs nodes n ≡ true) × (node_at nodes n.serial ≡ Some n) → has_fitting_attrs rest n ≡ true
  fitting_rest n k p = ap (λ m. fit_kind n.kind (kind_of m) n.attrs) (node_chosen nodes stays all_stay n.parent (parent_stays n p.1 k)) ∙ p.0

  each_rest : (t u : Node → Bool) → list_all t nodes ≡ true → ((n : Node) → stays n.serial ≡ true → (t n ≡ true) × (node_at nodes n.serial ≡ Some n) → u n ≡ true) → list_all u rest ≡ true
  each_rest t u all f =
      all_of_each u rest
      (each_chosen (λ (n : Node). (t n ≡ true) × (node_at nodes n.serial ≡ Some n)) (λ (n : Node). u n ≡ true) (λ (n : Node). stays n.serial) nodes
      (each_both (λ (n : Node). t n ≡ true) (λ (n : Node). node_at nodes n.serial ≡ Some n) nodes (each_of_all t nodes all) (all_known nodes next valid.numbered)) f)

  pub valid_rest : x.parent == 0 ≡ false → IsValid (record { nodes = rest; next = next })
  valid_rest parented = record {
    numbered = record {
      distinct = distinct_fewer (λ (n : Node). stays n.serial) nodes valid.numbered.distinct;
      below =
          All-from_recursion (λ (n : Node). (0 < n.serial) × (n.serial < next)) rest
          (each_kept (λ (n : Node). (0 < n.serial) × (n.serial < next)) (λ (n : Node). stays n.serial) nodes
          (recursion_from_All (λ (n : Node). (0 < n.serial) × (n.serial < next)) nodes valid.numbered.below));
      next = valid.numbered.next;
      tree = tree_rest parented;
    };
    placed = each_rest (is_well_placed nodes) (is_well_placed rest) valid.placed placed_rest;
    fitting = each_rest (has_fitting_attrs nodes) (has_fitting_attrs rest) valid.fitting fitting_rest;
    ids = none_taken rest (λ q. omega (arith, once_of (record { nodes = nodes; next = next }) valid q, sum_fewer (λ (n : Node). cond (bears q n) 1 0) (λ (n : Node). stays n.serial) nodes));
    nodes = omega (arith, valid.nodes, filter_shorter (λ (n : Node). stays n.serial) nodes);
    references = omega (arith, valid.references, sum_fewer references_of (λ (n : Node). stays n.serial) nodes);
  }

pub keeps_removed : (nodes new : List Node) (next s start past : ℕ) (x : Node) (table after : List (List ℕ × ℕ)) (total lost : ℕ) (families kin : Families) → Keeps nodes next table total families → node_at nodes s ≡ Some x → x.parent == 0 ≡ false → start ≡ place_in nodes s → past ≡ child_place nodes s None → new ≡ cut start past nodes → IsTableOf after (cut start past nodes) → IsKinOf kin (cut start past nodes) → lost + references (cut start past nodes) ≡ references nodes → Keeps new next after (total - lost) kin
keeps_removed nodes new next s start past x table after total lost families kin keeps at parented first last is tabled kins counts =
    let cut_is_rest : cut start past nodes ≡ filter (λ (n : Node). not (is_within nodes s n.serial)) nodes =
    ap (λ k. cut k past nodes) first ∙ ap (λ k. cut (place_in nodes s) k nodes) last ∙ sym (rest_is_cut nodes next keeps.valid s x at) in
    rw is (record {
      valid = subst (λ (ns : List Node). IsValid (record { nodes = ns; next = next })) (sym cut_is_rest) (valid_rest nodes next keeps.valid s x at parented);
      ids = tabled;
      total_is = omega (arith, counts, keeps.total_is);
      kin = kins;
    })

pub removed_is : (d : Document) (new : List Node) (s start past : ℕ) (x : Node) → IsValid d → node_at d.nodes s ≡ Some x → start ≡ place_in d.nodes s → past ≡ child_place d.nodes s None → new ≡ cut start past d.nodes → record d { nodes = new } ≡ node_removed d s
removed_is d new s start past x valid at first last is =
    ap (λ (ns : List Node). record d { nodes = ns })
    (is ∙ ap (λ k. cut k past d.nodes) first ∙ ap (λ k. cut (place_in d.nodes s) k d.nodes) last ∙ sym (rest_is_cut d.nodes d.next valid s x at))
