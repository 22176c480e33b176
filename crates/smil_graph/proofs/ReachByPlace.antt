-- Descendants, the elements near an element, and its reach, by places.
use Rattle.std.proofs.Common.{◌≡◌, refl, sym, ◌∙◌, ap, ℕ, suc, zero, ◌<◌, List, [], ◌∷◌, length, Bool, true, false, Option, Some, None, arith, inl, inr}
use mathlib.Core.Bool.{or-false}
use Rattle.std.specs.Prelude.{cond, nat_eq, ◌==◌, ◌||◌, ◌&&◌, ◌⊎◌, filter, reverse, slice_get}
use Rattle.std.specs.List.{list_any}
use Rattle.indexmap.specs.IndexSet.{insert_key}
use Rattle.std.proofs.lemmas.Bool.{or_left, or_right, or_cases, and_parts, and_from, eqb-true, eq-eqb}
use Rattle.smil_model.specs.declared.document.Node.{Node}
use Rattle.smil_model.specs.document.Document.{Document, is_element, elements, node_at, upwards, ancestors, time_parent, is_within, has_serial, serials}
use Rattle.smil_model.specs.document.Closure.{has, closure, rounds}
use Rattle.smil_model.specs.document.Valid.{IsDistinct, IsNumberedTree}
use Rattle.smil_model.specs.reach.Reach.{reads, reads_node, is_near, shares_parent, near, is_option}
use Rattle.smil_laws.proofs.AsideDocuments.{find_true, each_reverse}
use Rattle.smil_laws.proofs.DescendantChains.{IsChain}
use Rattle.smil_laws.proofs.ClosureExact.{is_closed, has_set, has_filter}
use Rattle.smil_laws.proofs.RoundsRest.{find-serial}
use Rattle.smil_laws.proofs.DependencyRanks.{filter_has}
use Rattle.smil_laws.proofs.Lists.{each_at}
use Rattle.smil_graph.specs.Links.{links, IsKeptAlongLinks, IsReached, IsRising}
use Rattle.smil_graph.specs.Places.{at_place, up, has_element, is_element_at, reads_place, reads_from, IsTable, IsIndex, AreTimeChildren}
use Rattle.smil_graph.specs.Tables.{AreHeads, AreElements, AreNear, AreOf, reach_of, takes_turns, top_of, serials_of_places}
use Rattle.smil_graph.proofs.PlaceLists.{has_one}
use Rattle.smil_graph.proofs.NodesByPlace.{there, there_below, none_each, upwards_none, parent_place, chain_of, above, by_parent}
use Rattle.smil_graph.proofs.PlacesInOrder.{filter_below, has_in_range, rising_is}
use Rattle.smil_graph.proofs.DefinitionsByPlace.{same_place, has_at}
use Rattle.smil_graph.proofs.LinksAreDependencies.{reads_is, place_of, all_has, all_there, in_closure}
use Rattle.smil_graph.proofs.GraphTables.{place_is, place_in, placed, serials_filter}
use Rattle.smil_tree.proofs.InsertPlaces.{both_ways}

pub filter_members : (p q : ℕ → Bool) (xs : List ℕ) → ((z : ℕ) → has xs z ≡ true → p z ≡ q z) → filter p xs ≡ filter q xs
filter_members p q [] same = refl
filter_members p q (x ∷ xs) same =
    ap (λ t. cond t (x ∷ filter p xs) (filter p xs)) (same x (or_left _ _ (eq-eqb x x refl)))
    ∙ ap (λ zs. cond (q x) (x ∷ zs) zs) (filter_members p q xs (λ z h. same z (or_right _ _ h)))

-- of a list those that a filter of it has are the filter
own_members : (p : ℕ → Bool) (xs : List ℕ) → filter (λ z. has (filter p xs) z) xs ≡ filter p xs
own_members p xs = filter_members (λ z. has (filter p xs) z) p xs (λ z h. both_ways (has (filter p xs) z) (p z) (λ q. (filter_has p xs z q).1) (λ q. has_filter p xs z h q))

module _ (document : Document) (tree : IsNumberedTree document) (index : ℕ → Option ℕ) (all : IsIndex document.nodes (node_at document.nodes) index) where
  abbrev nodes : List Node
  nodes = document.nodes

  abbrev distinct : IsDistinct document.nodes
  distinct = tree.distinct

  -- ---- one step up

  abbrev within_of : ℕ → Option Node → Bool
  within_of s None = false
  within_of s (Some a) = is_within nodes s a.serial

  chain_at : (p : ℕ) (n : Node) → slice_get nodes p ≡ Some n → IsChain (reverse nodes) n
  chain_at p n here = each_at (IsChain (reverse nodes)) nodes p n (chain_of document tree) here

  within_up : (s p : ℕ) (n : Node) → slice_get nodes p ≡ Some n → is_within nodes s n.serial ≡ ((n.serial == s) || within_of s (node_at nodes n.parent))
  within_up s p n here = ap (list_any (λ (a : Node). a.serial == s)) (chain_at p n here) ∙ ap (λ t. (n.serial == s) || t) (by_node (node_at nodes n.parent) refl)
    where
      by_node : (o : Option Node) → node_at nodes n.parent ≡ o → list_any (λ (a : Node). a.serial == s) (upwards (reverse nodes) n.parent) ≡ within_of s (node_at nodes n.parent)
      by_node None q = ap (list_any (λ (a : Node). a.serial == s)) (upwards_none (reverse nodes) n.parent (each_reverse (λ (m : Node). m.serial == n.parent ≡ false) nodes (none_each n.parent nodes q))) ∙ sym (ap (within_of s) q)
      by_node (Some a) q = ap (λ r. list_any (λ (b : Node). b.serial == s) (upwards (reverse nodes) r)) (sym (find-serial n.parent nodes a q)) ∙ sym (ap (within_of s) q)

  -- ---- the element at a place, and those within it

  module _ (tps : List (Option ℕ)) (children : List (List ℕ)) (table : IsTable document.nodes (λ n. time_parent document.nodes n.serial) tps) (under : AreTimeChildren document.nodes tps children) (px : ℕ) (x : Node) (here : slice_get document.nodes px ≡ Some x) (is_x : is_element x ≡ true) where
    other : (q : ℕ) (a : Node) → slice_get nodes q ≡ Some a → is_element a ≡ false → a.serial == x.serial ≡ false
    other q a at plain = by_test (a.serial == x.serial) refl
      where
        by_test : (t : Bool) → a.serial == x.serial ≡ t → a.serial == x.serial ≡ false
        by_test false e = e
        by_test true e =
            let same : px ≡ q = same_place nodes px q x a distinct here at (eqb-true a.serial x.serial e) in
            let one : Some x ≡ Some a = sym here ∙ ap (slice_get nodes) same ∙ at in
            let node : x ≡ a = cc in
            let never : true ≡ false = sym is_x ∙ ap is_element node ∙ plain in
            absurd (cc)

    go : (k p : ℕ) → p < k → (n : Node) → slice_get nodes p ≡ Some n → is_within nodes x.serial n.serial ≡ ((n.serial == x.serial) || within_of x.serial (time_parent nodes n.serial))
    go zero p l n at = absurd (omega (arith, l))
    go (suc k) p l n at =
        within_up x.serial p n at
        ∙ ap (λ t. (n.serial == x.serial) || t) (by_index (index n.parent) refl (λ q less m at'. go k q (omega (arith, less, l)) m at'))
        ∙ sym (ap (λ o. (n.serial == x.serial) || within_of x.serial o) (by_parent document tree p n at))
      where
        by_index : (o : Option ℕ) → index n.parent ≡ o → ((q : ℕ) → q < p → (m : Node) → slice_get nodes q ≡ Some m → is_within nodes x.serial m.serial ≡ ((m.serial == x.serial) || within_of x.serial (time_parent nodes m.serial))) → within_of x.serial (node_at nodes n.parent) ≡ within_of x.serial (above document tree (node_at nodes n.parent))
        by_index None q later = let none : node_at nodes n.parent ≡ None = all.node n.parent ∙ ap (at_place nodes) q in ap (within_of x.serial) none ∙ sym (ap (λ o. within_of x.serial (above document tree o)) none)
        by_index (Some r) q later =
            let m = there nodes r (all.below n.parent r q) in
            let parent : node_at nodes n.parent ≡ Some m.0 = all.node n.parent ∙ ap (at_place nodes) q ∙ m.1 in
            let less : r < p = parent_place document tree p r n (Some r) at (parent ∙ sym m.1) (λ k e. let same : r ≡ k = cc in omega (arith, same, all.below n.parent r q)) refl in
            ap (within_of x.serial) parent ∙ by_element r m.0 m.1 less (is_element m.0) refl later ∙ sym (ap (λ o. within_of x.serial (above document tree o)) parent)
          where
            by_element : (r : ℕ) (m : Node) → slice_get nodes r ≡ Some m → r < p → (t : Bool) → is_element m ≡ t → ((q : ℕ) → q < p → (m : Node) → slice_get nodes q ≡ Some m → is_within nodes x.serial m.serial ≡ ((m.serial == x.serial) || within_of x.serial (time_parent nodes m.serial))) → is_within nodes x.serial m.serial ≡ within_of x.serial (cond (is_element m) (Some m) (time_parent nodes m.serial))
            by_element r m at less true e later = sym (ap (λ t. within_of x.serial (cond t (Some m) (time_parent nodes m.serial))) e)
            by_element r m at less false e later =
                later r less m at
                ∙ ap (λ t. t || within_of x.serial (time_parent nodes m.serial)) (other r m at e)
                ∙ sym (ap (λ t. within_of x.serial (cond t (Some m) (time_parent nodes m.serial))) e)

    -- an element is within x where it is x or its time parent is
    within_time : (p : ℕ) (n : Node) → slice_get nodes p ≡ Some n → is_within nodes x.serial n.serial ≡ ((n.serial == x.serial) || within_of x.serial (at_place nodes (up tps p)))
    within_time p n at = go (suc p) p (omega arith) n at ∙ ap (λ o. (n.serial == x.serial) || within_of x.serial o) (table.node p n at)

    -- ---- along the rows of time children

    is_child : (i j : ℕ) → links children i j ≡ true → (is_element_at nodes j ≡ true) × (up tps j ≡ Some i)
    is_child i j q =
        let low = filter_below (λ p. is_element_at nodes p && is_option i (up tps p)) (length nodes) j (sym (ap (λ r. has r j) (under i)) ∙ q) in
        let parts = and_parts (is_element_at nodes j) (is_option i (up tps j)) low.1 in
        (parts.0, place_is i (up tps j) parts.1)

    is_linked : (i j : ℕ) (y : Node) → slice_get nodes j ≡ Some y → is_element y ≡ true → up tps j ≡ Some i → links children i j ≡ true
    is_linked i j y at is e =
        ap (λ r. has r j) (under i)
        ∙ has_in_range (λ p. is_element_at nodes p && is_option i (up tps p)) (length nodes) 0 j (omega arith) (omega (arith, there_below nodes j y at))
        ∙ and_from _ _ (ap has_element at ∙ is) (ap (is_option i) e ∙ eq-eqb i i refl)

    abbrev within_at : Option Node → Bool
    within_at None = false
    within_at (Some y) = is_element y && is_within nodes x.serial y.serial

    -- what x holds holds of all elements within it, if it is kept along the rows
    spread : (test : ℕ → Bool) → test px ≡ true → IsKeptAlongLinks children test → (k j : ℕ) → j < k → (y : Node) → slice_get nodes j ≡ Some y → is_element y ≡ true → is_within nodes x.serial y.serial ≡ true → test j ≡ true
    spread test begun kept zero j l y at is q = absurd (omega (arith, l))
    spread test begun kept (suc k) j l y at is q =
        by_case (or_cases (y.serial == x.serial) (within_of x.serial (at_place nodes (up tps j))) (sym (within_time j y at) ∙ q)) (λ i less z at' is' r. spread test begun kept k i (omega (arith, less, l)) z at' is' r)
      where
        by_case : (y.serial == x.serial ≡ true) ⊎ (within_of x.serial (at_place nodes (up tps j)) ≡ true) → ((i : ℕ) → i < j → (z : Node) → slice_get nodes i ≡ Some z → is_element z ≡ true → is_within nodes x.serial z.serial ≡ true → test i ≡ true) → test j ≡ true
        by_case (inl e) later = ap test (sym (same_place nodes px j x y distinct here at (eqb-true y.serial x.serial e))) ∙ begun
        by_case (inr e) later = by_up (up tps j) refl e
          where
            by_up : (o : Option ℕ) → up tps j ≡ o → within_of x.serial (at_place nodes o) ≡ true → test j ≡ true
            by_up None u r = cc
            by_up (Some i) u r = by_node (slice_get nodes i) refl r
              where
                by_node : (o : Option Node) → slice_get nodes i ≡ o → within_of x.serial o ≡ true → test j ≡ true
                by_node None a w = cc
                by_node (Some z) a w =
                    let parent : time_parent nodes y.serial ≡ Some z = table.node j y at ∙ ap (at_place nodes) u ∙ a in
                    kept i j (later i (table.before j i u) z a (find_true is_element (ancestors nodes y.serial) z parent) w) (is_linked i j y at is u)

    within_kept : IsKeptAlongLinks children (λ j. within_at (slice_get nodes j))
    within_kept i j t q = by_nodes (slice_get nodes i) (slice_get nodes j) refl refl t
      where
        by_nodes : (a b : Option Node) → slice_get nodes i ≡ a → slice_get nodes j ≡ b → within_at a ≡ true → within_at (slice_get nodes j) ≡ true
        by_nodes None b e f r = cc
        by_nodes (Some z) None e f r = let never : false ≡ true = sym (ap has_element f) ∙ (is_child i j q).0 in absurd (cc)
        by_nodes (Some z) (Some y) e f r =
            ap within_at f
            ∙ and_from _ _ (sym (ap has_element f) ∙ (is_child i j q).0)
            (within_time j y f ∙ or_right _ _ (ap (λ o. within_of x.serial (at_place nodes o)) (is_child i j q).1 ∙ ap (within_of x.serial) e ∙ (and_parts (is_element z) (is_within nodes x.serial z.serial) r).1))

    own_within : is_within nodes x.serial x.serial ≡ true
    own_within = within_time px x here ∙ or_left _ _ (eq-eqb x.serial x.serial refl)

    within_own : (i : ℕ) → has (px ∷ []) i ≡ true → within_at (slice_get nodes i) ≡ true
    within_own i q = by_case (or_cases (px == i) false q)
      where
        by_case : (px == i ≡ true) ⊎ (false ≡ true) → within_at (slice_get nodes i) ≡ true
        by_case (inl e) = ap (λ k. within_at (slice_get nodes k)) (sym (eqb-true px i e)) ∙ ap within_at here ∙ and_from _ _ is_x own_within
        by_case (inr e) = cc

    -- what is reached from x along the rows are the elements within it
    found_within : (places : List ℕ) → IsReached children (px ∷ []) places → (j : ℕ) (y : Node) → slice_get nodes j ≡ Some y → has places j ≡ (is_element y && is_within nodes x.serial y.serial)
    found_within places reached j y at =
        both_ways (has places j) (is_element y && is_within nodes x.serial y.serial)
        (λ q. sym (ap within_at at) ∙ reached.least (λ k. within_at (slice_get nodes k)) within_own within_kept j q)
        (λ q. let parts = and_parts (is_element y) (is_within nodes x.serial y.serial) q in
        spread (has places) (reached.begun px (or_left _ _ (eq-eqb px px refl))) reached.kept (suc j) j (omega arith) y at parts.0 parts.1)

    found_elements : (places : List ℕ) → IsReached children (px ∷ []) places → (j : ℕ) → has places j ≡ true → is_element_at nodes j ≡ true
    found_elements places reached j q = by_node (slice_get nodes j) refl (reached.least (λ k. within_at (slice_get nodes k)) within_own within_kept j q)
      where
        by_node : (o : Option Node) → slice_get nodes j ≡ o → within_at (slice_get nodes j) ≡ true → is_element_at nodes j ≡ true
        by_node None a r = let never : false ≡ true = sym (ap within_at a) ∙ r in absurd (cc)
        by_node (Some y) a r = ap has_element a ∙ (and_parts (is_element y) (is_within nodes x.serial y.serial) (sym (ap within_at a) ∙ r)).0

  -- ---- near an element

  abbrev near_by : Option Node → ℕ → ℕ → Bool
  near_by o s y = (has_serial y o || is_within nodes s y) || (takes_turns o && shares_parent nodes o y)

  module _ (tps : List (Option ℕ)) (children : List (List ℕ)) (table : IsTable document.nodes (λ n. time_parent document.nodes n.serial) tps) (under : AreTimeChildren document.nodes tps children) (place : ℕ) (x : Node) (here : slice_get document.nodes place ≡ Some x) (is_x : is_element x ≡ true) where
    -- what is within x is within its time parent
    outer : (q : ℕ) (z : Node) → up tps place ≡ Some q → slice_get nodes q ≡ Some z → is_element z ≡ true → (j : ℕ) (e : Node) → slice_get nodes j ≡ Some e → is_element e ≡ true → is_within nodes x.serial e.serial ≡ true → is_within nodes z.serial e.serial ≡ true
    outer q z u at is_z j e b is w =
        (and_parts (is_element e) (is_within nodes z.serial e.serial)
        (sym (ap (within_at tps children table under q z at is_z) b)
        ∙ spread tps children table under place x here is_x (λ k. within_at tps children table under q z at is_z (slice_get nodes k))
        (ap (within_at tps children table under q z at is_z) here ∙ and_from _ _ is_x own)
        (within_kept tps children table under q z at is_z) (suc j) j (omega arith) e b is w)).1
      where
        own : is_within nodes z.serial x.serial ≡ true
        own =
            within_time tps children table under q z at is_z place x here
            ∙ or_right _ _ (ap (λ o. within_of z.serial (at_place nodes o)) u ∙ ap (within_of z.serial) at ∙ own_within tps children table under q z at is_z)

    module _ (new : List ℕ) where
      by_parent_place : (o : Option ℕ) → up tps place ≡ o → (found : List ℕ) → IsReached children (top_of document.nodes o place ∷ []) found → ((i : ℕ) → has new i ≡ (has found i || is_option i o)) → AreNear document.nodes place new
      by_parent_place None u found reached so = record {
        elements = λ j q. found_elements tps children table under place x here is_x found reached j (sym (or-false (has found j)) ∙ sym (so j) ∙ q);
        near = λ j y e a b is.
            let one : Some y ≡ Some x = sym a ∙ here in
            let same : y ≡ x = cc in
            so j ∙ or-false (has found j) ∙ found_within tps children table under place x here is_x found reached j e b
            ∙ ap (λ t. t && is_within nodes x.serial e.serial) is
            ∙ sym (or-false (is_within nodes x.serial e.serial))
            ∙ sym (ap (λ o. near_by o x.serial e.serial) (table.node place x here ∙ ap (at_place nodes) u))
            ∙ ap (λ (n : Node). is_near nodes n.serial e.serial) (sym same);
      }
      by_parent_place (Some q) u found reached so = by_node (there nodes q (omega (arith, table.before place q u, there_below nodes place x here)))
        where
          by_node : (z : Node) × (slice_get nodes q ≡ Some z) → AreNear document.nodes place new
          by_node z =
              let parent : time_parent nodes x.serial ≡ Some z.0 = table.node place x here ∙ ap (at_place nodes) u ∙ z.1 in
              by_turns z.0 z.1 parent (find_true is_element (ancestors nodes x.serial) z.0 parent) (takes_turns (Some z.0)) refl
            where
              by_turns : (z : Node) → slice_get nodes q ≡ Some z → time_parent nodes x.serial ≡ Some z → is_element z ≡ true → (t : Bool) → takes_turns (Some z) ≡ t → AreNear document.nodes place new
              by_turns z at parent is_z t turns = record {
                elements = λ j r. by_listed j (or_cases (has found j) (j == q) (sym (so j) ∙ r)) t top;
                near = λ j y e a b is.
                    let one : Some y ≡ Some x = sym a ∙ here in
                    let same : y ≡ x = cc in
                    so j
                    ∙ by_found j e b is t top
                    ∙ ap (λ t'. (has_serial e.serial (Some z) || is_within nodes x.serial e.serial) || (t' && shares_parent nodes (Some z) e.serial)) (sym turns)
                    ∙ sym (ap (λ o. near_by o x.serial e.serial) parent)
                    ∙ ap (λ (n : Node). is_near nodes n.serial e.serial) (sym same);
              }
                where
                  top : IsReached children ((cond t q place) ∷ []) found
                  top = let is : top_of nodes (Some q) place ≡ cond t q place = ap (λ o. cond (takes_turns o) q place) at ∙ ap (λ b. cond b q place) turns in rw is at reached

                  by_listed : (j : ℕ) → (has found j ≡ true) ⊎ (j == q ≡ true) → (t : Bool) → IsReached children ((cond t q place) ∷ []) found → is_element_at nodes j ≡ true
                  by_listed j (inl r) true reached = found_elements tps children table under q z at is_z found reached j r
                  by_listed j (inl r) false reached = found_elements tps children table under place x here is_x found reached j r
                  by_listed j (inr r) t reached = ap (is_element_at nodes) (eqb-true j q r) ∙ ap has_element at ∙ is_z

                  is_parent : (j : ℕ) (e : Node) → slice_get nodes j ≡ Some e → has_serial e.serial (Some z) ≡ (j == q)
                  is_parent j e b = ap (has_serial e.serial) (sym at) ∙ has_at nodes distinct j e (Some q) b

                  with_own : (w p : Bool) → (w || p) ≡ ((p || w) || false)
                  with_own true true = refl
                  with_own true false = refl
                  with_own false true = refl
                  with_own false false = refl

                  with_outer : (w v p : Bool) → (v ≡ true → w ≡ true) → (w || p) ≡ ((p || v) || w)
                  with_outer true v true f = refl
                  with_outer true true false f = refl
                  with_outer true false false f = refl
                  with_outer false v true f = refl
                  with_outer false true false f = let never : false ≡ true = f refl in absurd (cc)
                  with_outer false false false f = refl

                  by_found : (j : ℕ) (e : Node) → slice_get nodes j ≡ Some e → is_element e ≡ true → (t : Bool) → IsReached children ((cond t q place) ∷ []) found → (has found j || (j == q)) ≡ ((has_serial e.serial (Some z) || is_within nodes x.serial e.serial) || (t && shares_parent nodes (Some z) e.serial))
                  by_found j e b is true reached =
                      ap (λ w. w || (j == q)) (found_within tps children table under q z at is_z found reached j e b ∙ ap (λ v. v && is_within nodes z.serial e.serial) is)
                      ∙ with_outer (is_within nodes z.serial e.serial) (is_within nodes x.serial e.serial) (j == q) (outer q z u at is_z j e b is)
                      ∙ ap (λ p. (p || is_within nodes x.serial e.serial) || is_within nodes z.serial e.serial) (sym (is_parent j e b))
                  by_found j e b is false reached =
                      ap (λ w. w || (j == q)) (found_within tps children table under place x here is_x found reached j e b ∙ ap (λ v. v && is_within nodes x.serial e.serial) is)
                      ∙ with_own (is_within nodes x.serial e.serial) (j == q)
                      ∙ ap (λ p. (p || is_within nodes x.serial e.serial) || false) (sym (is_parent j e b))

  near_is : (tps : List (Option ℕ)) (children : List (List ℕ)) → IsTable document.nodes (λ n. time_parent document.nodes n.serial) tps → AreTimeChildren document.nodes tps children → (place : ℕ) → is_element_at document.nodes place ≡ true → (found new : List ℕ) → IsReached children (top_of document.nodes (up tps place) place ∷ []) found → ((i : ℕ) → has new i ≡ (has found i || is_option i (up tps place))) → AreNear document.nodes place new
  near_is tps children table under place is found new reached so = by_node (slice_get nodes place) refl is
    where
      by_node : (o : Option Node) → slice_get nodes place ≡ o → is_element_at nodes place ≡ true → AreNear document.nodes place new
      by_node None e q = let never : false ≡ true = sym (ap has_element e) ∙ q in absurd (cc)
      by_node (Some x) e q = by_parent_place tps children table under place x e (sym (ap has_element e) ∙ q) new (up tps place) refl found reached so

  -- ---- the reach

  module _ (heads : List (List ℕ)) (are : AreHeads document.nodes heads) (set starts found : List ℕ) (inside : AreElements document.nodes starts) (begins : AreOf document.nodes set starts) (reached : IsReached heads starts found) where
    abbrev every : List ℕ
    every = serials (elements nodes)

    abbrev is_reached : ℕ → Bool
    is_reached s = has (closure (reads nodes) every set) s

    abbrev reached_at : Option Node → Bool
    reached_at None = false
    reached_at (Some m) = is_element m && is_reached m.serial

    -- a link leads to an element that reads
    link_parts : (k l : ℕ) (m : Node) → slice_get nodes k ≡ Some m → links heads k l ≡ true → (n : Node) × (slice_get nodes l ≡ Some n) × (is_element n ≡ true) × (reads_node nodes m.serial n ≡ true)
    link_parts k l m at q =
        let low = filter_below (λ j. reads_place nodes j k) (length nodes) l (sym (ap (λ r. has r l) (are.each k (there_below nodes k m at))) ∙ q) in
        let n = there nodes l low.0 in
        let both = and_parts (is_element n.0) (reads_node nodes m.serial n.0) (sym (ap (λ z. reads_from nodes z (slice_get nodes k)) n.1 ∙ ap (reads_from nodes (Some n.0)) at) ∙ low.1) in
        (n.0, n.1, both.0, both.1)

    link_from : (k l : ℕ) (m n : Node) → slice_get nodes k ≡ Some m → slice_get nodes l ≡ Some n → reads nodes m.serial n.serial ≡ true → links heads k l ≡ true
    link_from k l m n at b q =
        ap (λ r. has r l) (are.each k (there_below nodes k m at))
        ∙ has_in_range (λ j. reads_place nodes j k) (length nodes) 0 l (omega arith) (omega (arith, there_below nodes l n b))
        ∙ ap (λ z. reads_from nodes z (slice_get nodes k)) b
        ∙ ap (reads_from nodes (Some n)) at
        ∙ sym (reads_is nodes distinct m.serial l n b)
        ∙ q

    begun : (k : ℕ) → has starts k ≡ true → reached_at (slice_get nodes k) ≡ true
    begun k q = by_node (slice_get nodes k) refl (inside k q)
      where
        by_node : (o : Option Node) → slice_get nodes k ≡ o → is_element_at nodes k ≡ true → reached_at (slice_get nodes k) ≡ true
        by_node None e r = let never : false ≡ true = sym (ap has_element e) ∙ r in absurd (cc)
        by_node (Some m) e r =
            let is : is_element m ≡ true = sym (ap has_element e) ∙ r in
            let known : has every m.serial ≡ true = all_has nodes distinct k m e is in
            let is_in : has set m.serial ≡ true = sym (begins.listed k m e is) ∙ q in
            ap reached_at e ∙ and_from _ _ is (has_set (reads nodes) every set m.serial known is_in)

    kept : IsKeptAlongLinks heads (λ k. reached_at (slice_get nodes k))
    kept k l t q = by_node (slice_get nodes k) refl t
      where
        by_node : (o : Option Node) → slice_get nodes k ≡ o → reached_at (slice_get nodes k) ≡ true → reached_at (slice_get nodes l) ≡ true
        by_node None e r = let never : false ≡ true = sym (ap reached_at e) ∙ r in absurd (cc)
        by_node (Some m) e r =
            let n = link_parts k l m e q in
            let inside = and_parts (is_element m) (is_reached m.serial) (sym (ap reached_at e) ∙ r) in
            ap reached_at n.1
            ∙ and_from _ _ n.2 (is_closed (reads nodes) every set m.serial (n.0).serial inside.1 (reads_is nodes distinct m.serial l n.0 n.1 ∙ and_from _ _ n.2 n.3) (all_has nodes distinct l n.0 n.1 n.2))

    found_is : (k : ℕ) → has found k ≡ true → reached_at (slice_get nodes k) ≡ true
    found_is k q = reached.least (λ j. reached_at (slice_get nodes j)) begun kept k q

    abbrev found_at : Option ℕ → Bool
    found_at None = false
    found_at (Some p) = has found p

    start_found : (s : ℕ) → has set s ≡ true → found_at (index s) ≡ true
    start_found s q =
        let e = all_there nodes distinct s (begins.known s q) in
        let start : has starts e.0 ≡ true = begins.listed e.0 e.1 e.2 e.3 ∙ ap (has set) e.4 ∙ q in
        ap (λ u. found_at (index u)) (sym e.4) ∙ ap found_at (place_of nodes distinct index all e.0 e.1 e.2) ∙ reached.begun e.0 start

    next_found : (y z : ℕ) → found_at (index y) ≡ true → reads nodes y z ≡ true → has every z ≡ true → found_at (index z) ≡ true
    next_found y z t r h = by_index (index y) refl (all_there nodes distinct z h)
      where
        by_index : (o : Option ℕ) → index y ≡ o → (l : ℕ) × (n : Node) × (slice_get nodes l ≡ Some n) × (is_element n ≡ true) × (n.serial ≡ z) → found_at (index z) ≡ true
        by_index None q e = let never : false ≡ true = sym (ap found_at q) ∙ t in absurd (cc)
        by_index (Some k) q e =
            let m = there nodes k (all.below y k q) in
            let serial : (m.0).serial ≡ y = find-serial y nodes m.0 (all.node y ∙ ap (at_place nodes) q ∙ m.1) in
            let link : links heads k e.0 ≡ true = link_from k e.0 m.0 e.1 m.1 e.2 (ap (λ u. reads nodes u (e.1).serial) serial ∙ ap (reads nodes y) e.4 ∙ r) in
            ap (λ u. found_at (index u)) (sym e.4) ∙ ap found_at (place_of nodes distinct index all e.0 e.1 e.2) ∙ reached.kept k e.0 (sym (ap found_at q) ∙ t) link

    same_at : (k : ℕ) (m : Node) → slice_get nodes k ≡ Some m → has found k ≡ (is_element m && is_reached m.serial)
    same_at k m at =
        both_ways (has found k) (is_element m && is_reached m.serial)
        (λ q. sym (ap reached_at at) ∙ found_is k q)
        (λ q. sym (ap found_at (place_of nodes distinct index all k m at)) ∙ in_closure (reads nodes) every set (λ s. found_at (index s)) start_found next_found m.serial (and_parts (is_element m) (is_reached m.serial) q).1)

    in_range : (k : ℕ) → has found k ≡ true → k < length nodes
    in_range k q = by_node (slice_get nodes k) refl (found_is k q)
      where
        by_node : (o : Option Node) → slice_get nodes k ≡ o → reached_at (slice_get nodes k) ≡ true → k < length nodes
        by_node None e r = let never : false ≡ true = sym (ap reached_at e) ∙ r in absurd (cc)
        by_node (Some m) e r = there_below nodes k m e

    -- the places that were found, in document order, are those of the reach
    pub reach_is : (sorted : List ℕ) → IsRising sorted → ((i : ℕ) → has sorted i ≡ has found i) → serials_of_places document.nodes sorted ≡ reach_of document.nodes set
    reach_is sorted up_to same =
        ap (serials_of_places nodes) (rising_is (has found) (length nodes) 0 sorted up_to (λ i q. (omega arith, omega (arith, in_range i (sym (same i) ∙ q)))) (λ i l h. same i))
        ∙ serials_filter nodes (has found) is_reached same_at
        ∙ own_members (λ y. has (rounds (reads nodes) every (length every) set) y || list_any (λ z. reads nodes z y) (rounds (reads nodes) every (length every) set)) every

element_low : (nodes : List Node) (place : ℕ) → is_element_at nodes place ≡ true → place < length nodes
element_low nodes place is = by_node (slice_get nodes place) refl is
  where
    by_node : (o : Option Node) → slice_get nodes place ≡ o → is_element_at nodes place ≡ true → place < length nodes
    by_node None e q = let never : false ≡ true = sym (ap has_element e) ∙ q in absurd (cc)
    by_node (Some x) e q = there_below nodes place x e

pub starts_low : (nodes : List Node) (starts : List ℕ) → AreElements nodes starts → (i : ℕ) → has starts i ≡ true → i < length nodes
starts_low nodes starts inside i q = element_low nodes i (inside i q)

-- the elements near one are those of the set that its reach begins with
pub near_are : (nodes : List Node) → IsDistinct nodes → (place : ℕ) (starts : List ℕ) (x : Node) → slice_get nodes place ≡ Some x → AreNear nodes place starts → AreOf nodes (near nodes x.serial) starts
near_are nodes distinct place starts x here begins = record {
  known = λ s q. (filter_has (is_near nodes x.serial) (serials (elements nodes)) s q).0;
  listed = λ j e b is.
      begins.near j x e here b is
      ∙ both_ways (is_near nodes x.serial e.serial) (has (near nodes x.serial) e.serial)
      (λ q. has_filter (is_near nodes x.serial) (serials (elements nodes)) e.serial (all_has nodes distinct j e b is) q)
      (λ q. (filter_has (is_near nodes x.serial) (serials (elements nodes)) e.serial q).1);
}

pub top_below : (nodes : List Node) (tps : List (Option ℕ)) → IsTable nodes (λ n. time_parent nodes n.serial) tps → (place : ℕ) → is_element_at nodes place ≡ true → top_of nodes (up tps place) place < length nodes
top_below nodes tps table place is = by_parent (up tps place) refl
  where
    low : place < length nodes
    low = element_low nodes place is

    by_turns : (t : Bool) (q : ℕ) → q < place → cond t q place < length nodes
    by_turns true q l = omega (arith, l, low)
    by_turns false q l = low

    by_parent : (o : Option ℕ) → up tps place ≡ o → top_of nodes o place < length nodes
    by_parent None u = low
    by_parent (Some q) u = by_turns (takes_turns (slice_get nodes q)) q (table.before place q u)

-- what a search from the top gives, with the time parent
module _ (document : Document) (tree : IsNumberedTree document) (tps : List (Option ℕ)) (children : List (List ℕ)) (table : IsTable document.nodes (λ n. time_parent document.nodes n.serial) tps) (under : AreTimeChildren document.nodes tps children) (place : ℕ) (is : is_element_at document.nodes place ≡ true) (found : List ℕ) (top : ℕ) (tops : top ≡ top_of document.nodes (up tps place) place) (reached : IsReached children (top ∷ []) found) where
  from_top : IsReached children (top_of document.nodes (up tps place) place ∷ []) found
  from_top = rw tops at reached

  pub near_some : (parent : ℕ) → up tps place ≡ Some parent → AreNear document.nodes place (insert_key nat_eq found parent)
  near_some parent u = near_is document tree (λ s. place_in s document.nodes) (placed document.nodes) tps children table under place is found (insert_key nat_eq found parent) from_top (λ i. has_one found parent i ∙ ap (λ o. has found i || is_option i o) (sym u))

  pub near_none : up tps place ≡ None → AreNear document.nodes place found
  near_none u = near_is document tree (λ s. place_in s document.nodes) (placed document.nodes) tps children table under place is found found from_top (λ i. sym (or-false (has found i)) ∙ ap (λ o. has found i || is_option i o) (sym u))
