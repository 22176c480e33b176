-- What a graph keeps by places answers by serials.
use Rattle.std.proofs.Common.{◌≡◌, refl, sym, ◌∙◌, ap, subst, ℕ, List, [], ◌∷◌, Bool, true, false, Option, Some, None}
use Rattle.std.specs.Prelude.{cond, filter, ◌==◌, ◌&&◌, slice_get, is_some, option_map}
use Rattle.std.specs.List.{list_any, AllByRecursion}
use Rattle.std.proofs.lemmas.Bool.{and_parts, eqb-true, or_from}
use Rattle.smil_laws.proofs.LineageParents.{swap_eqb}
use Rattle.smil_model.specs.declared.document.Node.{Node}
use Rattle.smil_model.specs.declared.document.Item.{Item}
use Rattle.smil_model.specs.declared.document.Item.TheVariants.{Offset, Sync, Event, Repeat}
use Rattle.smil_model.specs.declared.document.Edge.{Edge}
use Rattle.smil_model.specs.document.Document.{Document, is_element, elements, element_named, has_id, has_serial, is_time_child, node_at, previous_in_seq, serials, target, time_parent}
use Rattle.smil_model.specs.document.Defaults.{items_of}
use Rattle.smil_model.specs.document.Dependencies.{all_items, has_implicit_duration, is_sync_with}
use Rattle.smil_model.specs.document.Valid.{IsDistinct}
use Rattle.smil_model.specs.reach.Reach.{down, down_from, is_event_of, is_option, reads, reads_node}
use Rattle.smil_laws.proofs.RoundsRest.{find-serial}
use Rattle.smil_laws.proofs.ListMembers.{differ_each}
use Rattle.smil_laws.proofs.Lists.{each_at}
use Rattle.smil_graph.specs.Places.{at_place, has_element, is_element_at, up, previous_of, IsIndex, IsTable, AreTimeChildren}
use Rattle.smil_graph.specs.Graph.{is_looped_item, looped_of, looped_at, readers_of}
use Rattle.smil_graph.specs.declared.tables.Tables.{Tables}
use Rattle.smil_graph.specs.Tables.{element_place, marked_at, row_of, AreMarks, AreTables}
use Rattle.smil_graph.proofs.NodesByPlace.{there, find_place, none_each}
use Rattle.smil_graph.proofs.DefinitionsByPlace.{previous_is}
use Rattle.smil_graph.proofs.GraphTables.{AreReaders}
use Rattle.smil_graph.proofs.LinksAreDependencies.{any_there, any_filter}

-- tables that are lent are those that are kept
pub kept : (document : Document) (own lent : Tables) → lent ≡ own → AreTables document own → AreTables document lent
kept document own lent is are = subst (AreTables document) (sym is) are

abbrev pub only_element : Option Node → Option Node
only_element None = None
only_element (Some m) = cond (is_element m) (Some m) None

none_element : (s : ℕ) (ns : List Node) → AllByRecursion (λ (m : Node). m.serial == s ≡ false) ns → node_at (elements ns) s ≡ None
none_element s [] each = refl
none_element s (n ∷ ns) each = step (is_element n) (none_element s ns each.1)
  where
    step : (t : Bool) → node_at (elements ns) s ≡ None → node_at (cond t (n ∷ elements ns) (elements ns)) s ≡ None
    step true q = ap (λ b. cond b (Some n) (node_at (elements ns) s)) each.0 ∙ q
    step false q = q

-- the element with a serial is the node with this serial, if that is an element
pub element_at : (ns : List Node) (s : ℕ) → IsDistinct ns → node_at (elements ns) s ≡ only_element (node_at ns s)
element_at [] s d = refl
element_at (n ∷ ns) s d = step (n.serial == s) refl (is_element n) refl (element_at ns s d.1)
  where
    step : (b : Bool) → n.serial == s ≡ b → (t : Bool) → is_element n ≡ t → node_at (elements ns) s ≡ only_element (node_at ns s) → node_at (cond t (n ∷ elements ns) (elements ns)) s ≡ only_element (cond b (Some n) (node_at ns s))
    step true e true k q = ap (λ b. cond b (Some n) (node_at (elements ns) s)) e ∙ sym (ap (λ t. cond t (Some n) None) k)
    step true e false k q =
        let same : n.serial ≡ s = eqb-true n.serial s e in
        ap (node_at (elements ns)) (sym same) ∙ none_element n.serial ns (differ_each n.serial ns d.0) ∙ sym (ap (λ t. cond t (Some n) None) k)
    step false e true k q = ap (λ b. cond b (Some n) (node_at (elements ns) s)) e ∙ q
    step false e false k q = q

module _ (nodes : List Node) (distinct : IsDistinct nodes) (index : ℕ → Option ℕ) (all : IsIndex nodes (node_at nodes) index) where
  found : (s : ℕ) (o : Option ℕ) → index s ≡ o → node_at (elements nodes) s ≡ only_element (at_place nodes o)
  found s o q = element_at nodes s distinct ∙ ap only_element (all.node s ∙ ap (at_place nodes) q)

  pub marks_answer : (side : Edge) (rows : List (List Bool)) → AreMarks nodes side rows → (s k : ℕ) → marked_at rows (index s) k ≡ looped_at nodes s side k
  marks_answer side rows marks s k = by_index (index s) refl
    where
      by_element : (p : ℕ) (m : Node) (t : Bool) → (t && is_looped_item nodes m.serial (slice_get (items_of nodes side m) k)) ≡ looped_of nodes side k (cond t (Some m) None)
      by_element p m true = refl
      by_element p m false = refl

      by_index : (o : Option ℕ) → index s ≡ o → marked_at rows (index s) k ≡ looped_at nodes s side k
      by_index None q = ap (λ o. marked_at rows o k) q ∙ sym (ap (looped_of nodes side k) (found s None q))
      by_index (Some p) q =
          let m = there nodes p (all.below s p q) in
          ap (λ o. marked_at rows o k) q ∙ marks p k m.0 m.1 ∙ by_element p m.0 (is_element m.0)
          ∙ sym (ap (looped_of nodes side k) (found s (Some p) q ∙ ap only_element m.1))

  -- ---- readers

  module _ (tps : List (Option ℕ)) (children : List (List ℕ)) (table : IsTable nodes (λ n. time_parent nodes n.serial) tps) (under : AreTimeChildren nodes tps children) where
    -- a serial that no node has
    module _ (s : ℕ) (each : AllByRecursion (λ (m : Node). m.serial == s ≡ false) nodes) where
      no_child : (f : Node → Bool) (ms : List Node) → AllByRecursion (λ (m : Node). m.serial == s ≡ false) ms → list_any (λ (c : Node). (c.serial == s) && f c) ms ≡ false
      no_child f [] none = refl
      no_child f (m ∷ ms) none = or_from _ _ (ap (λ t. t && f m) none.0) (no_child f ms none.1)

      no_serial : (o : Option Node) → ((n : Node) → o ≡ Some n → (p : ℕ) × (slice_get nodes p ≡ Some n)) → has_serial s o ≡ false
      no_serial None at = refl
      no_serial (Some n) at = let here = at n refl in each_at (λ (m : Node). m.serial == s ≡ false) nodes here.0 n each here.1

      at_some : (o : Option ℕ) (n : Node) → at_place nodes o ≡ Some n → (p : ℕ) × (slice_get nodes p ≡ Some n)
      at_some None n q = cc
      at_some (Some p) n q = (p, q)

      named_there : (id : List ℕ) (n : Node) → element_named nodes id ≡ Some n → (p : ℕ) × (slice_get nodes p ≡ Some n)
      named_there id n q = find_place (λ (m : Node). is_element m && has_id id m.attrs.id) nodes n q

      no_sync : (item : Item) → is_sync_with nodes s item ≡ false
      no_sync (Offset o) = refl
      no_sync (Sync who edge o) = no_serial (element_named nodes who) (named_there who)
      no_sync _ = refl

      no_option : (o : Option Node) → has_serial s o ≡ false → is_option s (option_map (λ (n : Node). n.serial) o) ≡ false
      no_option None q = refl
      no_option (Some n) q = swap_eqb n.serial s q

      no_event : (j : ℕ) (e : Node) → slice_get nodes j ≡ Some e → (item : Item) → is_event_of nodes e.serial s item ≡ false
      no_event j e b item = by_item item
        where
          by_target : (who : Option (List ℕ)) → is_option s (target nodes e.serial who) ≡ false
          by_target None = swap_eqb e.serial s (each_at (λ (m : Node). m.serial == s ≡ false) nodes j e each b)
          by_target (Some id) = no_option (element_named nodes id) (no_serial (element_named nodes id) (named_there id))

          by_item : (item : Item) → is_event_of nodes e.serial s item ≡ false
          by_item (Offset o) = refl
          by_item (Sync who edge o) = refl
          by_item (Event who name o) = by_target who
          by_item (Repeat who n o) = by_target who
          by_item _ = refl

      no_item : (f : Item → Bool) → ((item : Item) → f item ≡ false) → (items : List Item) → list_any f items ≡ false
      no_item f none [] = refl
      no_item f none (item ∷ items) = or_from _ _ (none item) (no_item f none items)

      never_and : (a b : Bool) → b ≡ false → (a && b) ≡ false
      never_and true b q = q
      never_and false b q = refl

      unread : (j : ℕ) (e : Node) → slice_get nodes j ≡ Some e → reads_node nodes s e ≡ false
      unread j e b =
          or_from _ _
          (or_from _ _
          (or_from _ _
          (never_and (has_implicit_duration e) _ (no_child (is_time_child nodes e.serial) nodes each))
          (no_serial (previous_in_seq nodes e.serial) (λ n q. at_some (previous_of nodes children j (up tps j)) n (sym (previous_is nodes distinct tps children table under j e b) ∙ q))))
          (no_item (is_sync_with nodes s) no_sync (all_items nodes e)))
          (no_item (is_event_of nodes e.serial s) (no_event j e b) (all_items nodes e))

      pub none_reads : (y : ℕ) → reads nodes s y ≡ false
      none_reads y = by_test (reads nodes s y) refl
        where
          by_test : (t : Bool) → reads nodes s y ≡ t → reads nodes s y ≡ false
          by_test false q = q
          by_test true q =
              let found = any_there (λ (e : Node). is_element e && ((e.serial == y) && reads_node nodes s e)) nodes (sym (any_filter is_element (λ (e : Node). (e.serial == y) && reads_node nodes s e) nodes) ∙ q) in
              let parts = and_parts (is_element found.1) (((found.1).serial == y) && reads_node nodes s found.1) found.3 in
              let never : false ≡ true = sym (unread found.0 found.1 found.2) ∙ (and_parts ((found.1).serial == y) (reads_node nodes s found.1) parts.1).1 in
              absurd (cc)

      no_readers : (ss : List ℕ) → filter (reads nodes s) ss ≡ []
      no_readers [] = refl
      no_readers (y ∷ ss) = ap (λ t. cond t (y ∷ filter (reads nodes s) ss) (filter (reads nodes s) ss)) (none_reads y) ∙ no_readers ss

    pub readers_answer : (rows : List (List ℕ)) → AreReaders nodes rows → (s : ℕ) → row_of rows (index s) ≡ readers_of nodes s
    readers_answer rows readers s = by_index (index s) refl
      where
        by_index : (o : Option ℕ) → index s ≡ o → row_of rows (index s) ≡ readers_of nodes s
        by_index None q = ap (row_of rows) q ∙ sym (no_readers s (none_each s nodes (all.node s ∙ ap (at_place nodes) q)) (serials (elements nodes)))
        by_index (Some p) q =
            let m = there nodes p (all.below s p q) in
            ap (row_of rows) q ∙ readers p m.0 m.1 ∙ ap (readers_of nodes) (find-serial s nodes m.0 (all.node s ∙ ap (at_place nodes) q ∙ m.1))

  -- ---- the place of an element

  pub reach_there : (s p : ℕ) → element_place nodes (index s) ≡ Some p → (m : Node) × (slice_get nodes p ≡ Some m) × (down_from nodes (Some s) ≡ down nodes m.serial)
  reach_there s p placed = by_index (index s) refl placed
    where
      by_test : (q : ℕ) (m : Node) → index s ≡ Some q → slice_get nodes q ≡ Some m → (t : Bool) → is_element m ≡ t → cond (is_element_at nodes q) (Some q) None ≡ Some p → (m : Node) × (slice_get nodes p ≡ Some m) × (down_from nodes (Some s) ≡ down nodes m.serial)
      by_test q m here at true is r =
          let same : Some q ≡ Some p = sym (ap (λ t. cond t (Some q) None) (ap has_element at ∙ is)) ∙ r in
          let place : q ≡ p = cc in
          let known : node_at (elements nodes) s ≡ Some m = found s (Some q) here ∙ ap only_element at ∙ ap (λ t. cond t (Some m) None) is in
          (m, sym (ap (slice_get nodes) place) ∙ at, ap (λ o. cond (is_some o) (down nodes s) []) known ∙ ap (down nodes) (sym (find-serial s nodes m (all.node s ∙ ap (at_place nodes) here ∙ at))))
      by_test q m here at false is r =
          let never : None ≡ Some p = sym (ap (λ t. cond t (Some q) None) (ap has_element at ∙ is)) ∙ r in
          absurd (cc)

      by_index : (o : Option ℕ) → index s ≡ o → element_place nodes o ≡ Some p → (m : Node) × (slice_get nodes p ≡ Some m) × (down_from nodes (Some s) ≡ down nodes m.serial)
      by_index None q r = cc
      by_index (Some q) e r = let m = there nodes q (all.below s q e) in by_test q m.0 e m.1 (is_element m.0) refl r

  pub reach_absent : (s : ℕ) → element_place nodes (index s) ≡ None → down_from nodes (Some s) ≡ []
  reach_absent s absent = ap (λ o. cond (is_some o) (down nodes s) []) (by_index (index s) refl absent)
    where
      by_test : (q : ℕ) (m : Node) → slice_get nodes q ≡ Some m → (t : Bool) → is_element m ≡ t → cond (is_element_at nodes q) (Some q) None ≡ None → only_element (Some m) ≡ None
      by_test q m at true is r =
          let never : Some q ≡ None = sym (ap (λ t. cond t (Some q) None) (ap has_element at ∙ is)) ∙ r in
          absurd (cc)
      by_test q m at false is r = ap (λ t. cond t (Some m) None) is

      by_index : (o : Option ℕ) → index s ≡ o → element_place nodes o ≡ None → node_at (elements nodes) s ≡ None
      by_index None q r = found s None q
      by_index (Some q) e r = let m = there nodes q (all.below s q e) in found s (Some q) e ∙ ap only_element m.1 ∙ by_test q m.0 m.1 (is_element m.0) refl r

-- an element stands at its place
pub is_placed : (nodes : List Node) (o : Option ℕ) (p : ℕ) → element_place nodes o ≡ Some p → is_element_at nodes p ≡ true
is_placed nodes None p q = cc
is_placed nodes (Some k) p q = step (is_element_at nodes k) refl q
  where
    step : (t : Bool) → is_element_at nodes k ≡ t → cond t (Some k) None ≡ Some p → is_element_at nodes p ≡ true
    step true e r = let same : k ≡ p = cc in ap (is_element_at nodes) (sym same) ∙ e
    step false e r = cc
