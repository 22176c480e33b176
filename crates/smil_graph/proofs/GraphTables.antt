-- What is kept by places is as the definitions say.
use Rattle.std.proofs.Common.{◌≡◌, refl, sym, ◌∙◌, ap, ℕ, suc, zero, ◌<◌, ◌≤◌, ◌+◌, List, [], ◌∷◌, length, Bool, true, false, Option, Some, None, arith, inl, inr}
use Rattle.std.specs.Prelude.{cond, map, ◌==◌, ◌||◌, ◌&&◌, ◌⊎◌, IfSome, filter, slice_get, option_map}
use Rattle.std.specs.List.{position, range_with_len}
use Rattle.std.proofs.lemmas.Bool.{or_cases, and_parts, eqb-true}
use Rattle.smil_model.specs.declared.document.Node.{Node}
use Rattle.smil_model.specs.declared.document.Item.{Item}
use Rattle.smil_model.specs.declared.document.Item.TheVariants.{Offset, Sync, Event, Repeat}
use Rattle.smil_model.specs.document.Document.{is_element, elements, element_named, node_at, time_parent, previous_in_seq, serials}
use Rattle.smil_model.specs.document.Defaults.{items_or}
use Rattle.smil_model.specs.document.Dependencies.{feeds, feeds_node, has_implicit_duration}
use Rattle.smil_model.specs.document.Valid.{IsDistinct}
use Rattle.smil_model.specs.reach.Reach.{reads, reads_node, is_option}
use Rattle.smil_model.specs.document.Closure.{has}
use Rattle.smil_model.proofs.FirstPlaces.{position_cons}
use Rattle.smil_graph.specs.Graph.{readers_of}
use Rattle.smil_graph.specs.Links.{row, links, IsRising, AreRows, AreLevels, StayBelow}
use Rattle.smil_graph.specs.Places.{at_place, up, is_element_at, named_by, target_place, source_of, leads_to_place, follows, hears, element_follows, feeds_from, reads_from, feeds_place, reads_place, IsTable, IsIndex, AreTimeChildren, place_of}
use Rattle.smil_graph.specs.Tables.{AreElementLevels, AreHeads, with_serial, serials_of_places}
use Rattle.smil_graph.proofs.PlaceLists.{from_place}
use Rattle.smil_graph.proofs.NodesByPlace.{there, there_below}
use Rattle.smil_graph.proofs.PlacesInOrder.{filter_rising, filter_below, filter_none}
use Rattle.smil_graph.proofs.DefinitionsByPlace.{follows_is, hears_is}
use Rattle.smil_graph.proofs.LinksAreDependencies.{feeds_is, reads_is, looped_is}

-- ---- rows turned round

pub rows_stay : (n : ℕ) (test : ℕ → ℕ → Bool) (rows : List (List ℕ)) → AreRows n test rows → ((i j : ℕ) → i < n → test i j ≡ true → j < n) → StayBelow (length rows) rows
rows_stay n test rows are low i j q =
    let here : i < n = omega (arith, from_place rows i j q, are.long) in
    omega (arith, low i j here (sym (are.each i j here) ∙ q), are.long)

pub filtered_stay : (n : ℕ) (test : ℕ → ℕ → Bool) (rows : List (List ℕ)) → length rows ≡ n → ((i : ℕ) → i < n → row rows i ≡ filter (λ j. test j i) (range_with_len 0 n)) → StayBelow (length rows) rows
filtered_stay n test rows long each i j q =
    let here : i < n = omega (arith, from_place rows i j q, long) in
    omega (arith, long, (filter_below (λ k. test k i) n j (sym (ap (λ r. has r j) (each i here)) ∙ q)).0)

-- ---- time children

pub place_is : (q : ℕ) (o : Option ℕ) → is_option q o ≡ true → o ≡ Some q
place_is q None e = cc
place_is q (Some p) e = ap Some (sym (eqb-true q p e))

module _ (nodes : List Node) (tps : List (Option ℕ)) (table : IsTable nodes (λ n. time_parent nodes n.serial) tps) where
  abbrev is_under : ℕ → ℕ → Bool
  is_under p q = is_element_at nodes p && is_option q (up tps p)

  under_low : (p q : ℕ) → is_under p q ≡ true → q < p
  under_low p q e = table.before p q (place_is q (up tps p) (and_parts (is_element_at nodes p) (is_option q (up tps p)) e).1)

  -- the time parent of the node at a place has a row
  pub under_known : (place : ℕ) (o : Option ℕ) → o ≡ up tps place → place < length nodes → IfSome o (λ q. q < length nodes)
  under_known place None is l = tt
  under_known place (Some q) is l = omega (arith, table.before place q (sym is), l)

  pub under_past : (q : ℕ) → length nodes ≤ q → [] ≡ filter (λ p. is_element_at nodes p && is_option q (up tps p)) (range_with_len 0 (length nodes))
  under_past q past = sym (filter_none (λ p. is_element_at nodes p && is_option q (up tps p)) (length nodes) 0 (λ k a h. no (is_under k q) k (omega (arith, h)) refl))
    where
      no : (t : Bool) (k : ℕ) → k < length nodes → is_under k q ≡ t → is_under k q ≡ false
      no true k l e = absurd (omega (arith, under_low k q e, l, past))
      no false k l e = e

  pub children_stay : (children : List (List ℕ)) → length children ≡ length nodes → AreTimeChildren nodes tps children → StayBelow (length children) children
  children_stay children long under = filtered_stay (length nodes) (λ p q. is_element_at nodes p && is_option q (up tps p)) children long (λ i l. under i)

pub children_rising : (nodes : List Node) (tps : List (Option ℕ)) (children : List (List ℕ)) → AreTimeChildren nodes tps children → (q : ℕ) → IsRising (row children q)
children_rising nodes tps children under q = rw (under q) (filter_rising (λ p. is_element_at nodes p && is_option q (up tps p)) (length nodes) 0)

-- ---- dependencies

module _ (nodes : List Node) (distinct : IsDistinct nodes) (named : List ℕ → Option ℕ) (ids : IsIndex nodes (element_named nodes) named) where
  pub low_in : (of : Item → Option ℕ) (i : ℕ) → ((item : Item) → is_option i (of item) ≡ true → i < length nodes) → (items : List Item) → leads_to_place of items i ≡ true → i < length nodes
  low_in of i low [] e = cc
  low_in of i low (item ∷ items) e = by_case (or_cases (is_option i (of item)) (leads_to_place of items i) e) (low_in of i low items)
    where
      by_case : (is_option i (of item) ≡ true) ⊎ (leads_to_place of items i ≡ true) → (leads_to_place of items i ≡ true → i < length nodes) → i < length nodes
      by_case (inl q) later = low item q
      by_case (inr q) later = later q

  pub named_low : (i : ℕ) (item : Item) → is_option i (named_by named item) ≡ true → i < length nodes
  named_low i (Offset o) e = cc
  named_low i (Sync who edge o) e = ids.below who i (place_is i (named who) e)
  named_low i _ e = cc

  target_low : (i j : ℕ) → j < length nodes → (who : Option (List ℕ)) → is_option i (target_place named j who) ≡ true → i < length nodes
  target_low i j l None e = let same : i ≡ j = eqb-true i j e in omega (arith, l, same)
  target_low i j l (Some id) e = ids.below id i (place_is i (named id) e)

  source_low : (i j : ℕ) → j < length nodes → (item : Item) → is_option i (source_of named j item) ≡ true → i < length nodes
  source_low i j l (Offset o) e = cc
  source_low i j l (Sync who edge o) e = cc
  source_low i j l (Event who name o) e = target_low i j l who e
  source_low i j l (Repeat who n o) e = target_low i j l who e
  source_low i j l _ e = cc

  in_both : (of : Item → Option ℕ) (i : ℕ) → ((item : Item) → is_option i (of item) ≡ true → i < length nodes) → (e : Node) → (leads_to_place of (items_or [] e.attrs.begin) i || leads_to_place of (items_or [] e.attrs.«end») i) ≡ true → i < length nodes
  in_both of i low e q = by_case (or_cases _ _ q)
    where
      by_case : (leads_to_place of (items_or [] e.attrs.begin) i ≡ true) ⊎ (leads_to_place of (items_or [] e.attrs.«end») i ≡ true) → i < length nodes
      by_case (inl t) = low_in of i low (items_or [] e.attrs.begin) t
      by_case (inr t) = low_in of i low (items_or [] e.attrs.«end») t

  hears_low : (i j : ℕ) (e : Node) → j < length nodes → hears named j e i ≡ true → i < length nodes
  hears_low i j e l q = in_both (source_of named j) i (source_low i j l) e q

  -- a test of two places that fails where the second is none
  pub guarded : (b t : Bool) → ((b && t) ≡ true → ⊥) → (b && t) ≡ false
  guarded true true deny = absurd (deny refl)
  guarded true false deny = refl
  guarded false t deny = refl

  pub past : (i : ℕ) → slice_get nodes i ≡ None → i < length nodes → ⊥
  past i q l = let m = there nodes i l in let never : None ≡ Some m.0 = sym q ∙ m.1 in absurd (cc)

  module _ (tps : List (Option ℕ)) (children : List (List ℕ)) (previous : List (Option ℕ)) (table : IsTable nodes (λ n. time_parent nodes n.serial) tps) (under : AreTimeChildren nodes tps children) (befores : IsTable nodes (λ n. previous_in_seq nodes n.serial) previous) where
    follows_low : (i j : ℕ) (e : Node) → j < length nodes → follows (row children j) (up previous j) named e i ≡ true → i < length nodes
    follows_low i j e l q = by_end (or_cases _ _ q)
      where
        by_child : (has_implicit_duration e && has (row children j) i) ≡ true ⊎ (is_option i (up previous j) ≡ true) → i < length nodes
        by_child (inl t) = (filter_below (λ p. is_element_at nodes p && is_option j (up tps p)) (length nodes) i (sym (ap (λ r. has r i) (under j)) ∙ (and_parts (has_implicit_duration e) (has (row children j) i) t).1)).0
        by_child (inr t) = omega (arith, l, befores.before j i (place_is i (up previous j) t))

        by_begin : (((has_implicit_duration e && has (row children j) i) || is_option i (up previous j)) ≡ true) ⊎ (leads_to_place (named_by named) (items_or [] e.attrs.begin) i ≡ true) → i < length nodes
        by_begin (inl t) = by_child (or_cases _ _ t)
        by_begin (inr t) = low_in (named_by named) i (named_low i) (items_or [] e.attrs.begin) t

        by_end : ((((has_implicit_duration e && has (row children j) i) || is_option i (up previous j)) || leads_to_place (named_by named) (items_or [] e.attrs.begin) i) ≡ true) ⊎ (leads_to_place (named_by named) (items_or [] e.attrs.«end») i ≡ true) → i < length nodes
        by_end (inl t) = by_begin (or_cases _ _ t)
        by_end (inr t) = low_in (named_by named) i (named_low i) (items_or [] e.attrs.«end») t

    feeds_at : (j i : ℕ) (e : Node) → slice_get nodes j ≡ Some e → (o : Option Node) → slice_get nodes i ≡ o → (is_element e && follows (row children j) (up previous j) named e i) ≡ feeds_from nodes (Some e) o
    feeds_at j i e b (Some x) a = ap (λ t. is_element e && t) (sym (follows_is nodes distinct named ids tps children previous table under befores i j x e a b))
    feeds_at j i e b None a = guarded (is_element e) (follows (row children j) (up previous j) named e i) (λ t. past i a (follows_low i j e (there_below nodes j e b) (and_parts (is_element e) (follows (row children j) (up previous j) named e i) t).1))

    pub feeders_are : (rows : List (List ℕ)) → AreRows (length nodes) (λ j i. element_follows (row children j) (up previous j) named (slice_get nodes j) i) rows → AreRows (length nodes) (feeds_place nodes) rows
    feeders_are rows are = record {
      long = are.long;
      each = λ j i l. are.each j i l ∙ at j i (there nodes j l);
    }
      where
        at : (j i : ℕ) → (e : Node) × (slice_get nodes j ≡ Some e) → element_follows (row children j) (up previous j) named (slice_get nodes j) i ≡ feeds_place nodes j i
        at j i e =
            ap (λ z. element_follows (row children j) (up previous j) named z i) e.1
            ∙ feeds_at j i e.0 e.1 (slice_get nodes i) refl
            ∙ sym (ap (λ z. feeds_from nodes z (slice_get nodes i)) e.1)

  both : (b s t : Bool) → ((b && s) || (b && t)) ≡ (b && (s || t))
  both true s t = refl
  both false s t = refl

  reads_at : (j i : ℕ) (e : Node) → slice_get nodes j ≡ Some e → (o : Option Node) → slice_get nodes i ≡ o → (feeds_from nodes (Some e) o || (is_element e && hears named j e i)) ≡ reads_from nodes (Some e) o
  reads_at j i e b (Some x) a =
      ap (λ t. (is_element e && feeds_node nodes x.serial e) || (is_element e && t)) (sym (hears_is nodes distinct named ids i j x e a b))
      ∙ both (is_element e) (feeds_node nodes x.serial e) _
  reads_at j i e b None a = guarded (is_element e) (hears named j e i) (λ t. past i a (hears_low i j e (there_below nodes j e b) (and_parts (is_element e) (hears named j e i) t).1))

  -- the row of a place has those that the node there reads
  pub reads_row : (feeders : List (List ℕ)) → AreRows (length nodes) (feeds_place nodes) feeders → (j i : ℕ) (e : Node) (new mid : List ℕ) → slice_get nodes j ≡ Some e → has mid i ≡ links feeders j i → has new i ≡ (has mid i || (is_element e && hears named j e i)) → has new i ≡ reads_place nodes j i
  reads_row feeders fed j i e new mid b same pushed =
      pushed
      ∙ ap (λ t. t || (is_element e && hears named j e i)) (same ∙ fed.each j i (there_below nodes j e b))
      ∙ ap (λ z. feeds_from nodes z (slice_get nodes i) || (is_element e && hears named j e i)) b
      ∙ reads_at j i e b (slice_get nodes i) refl
      ∙ sym (ap (λ z. reads_from nodes z (slice_get nodes i)) b)

-- ---- links lead to nodes

pub feeds_low : (nodes : List Node) (j i : ℕ) → feeds_place nodes j i ≡ true → i < length nodes
feeds_low nodes j i e = by_node (slice_get nodes j) (slice_get nodes i) refl e
  where
    by_node : (y z : Option Node) → slice_get nodes i ≡ z → feeds_from nodes y z ≡ true → i < length nodes
    by_node None z q t = cc
    by_node (Some y) None q t = cc
    by_node (Some y) (Some x) q t = there_below nodes i x q

pub reads_low : (nodes : List Node) (j i : ℕ) → reads_place nodes j i ≡ true → i < length nodes
reads_low nodes j i e = by_node (slice_get nodes j) (slice_get nodes i) refl e
  where
    by_node : (y z : Option Node) → slice_get nodes i ≡ z → reads_from nodes y z ≡ true → i < length nodes
    by_node None z q t = cc
    by_node (Some y) None q t = cc
    by_node (Some y) (Some x) q t = there_below nodes i x q

pub heads_stay : (nodes : List Node) (heads : List (List ℕ)) → AreHeads nodes heads → StayBelow (length heads) heads
heads_stay nodes heads are = filtered_stay (length nodes) (reads_place nodes) heads are.count are.each

-- ---- levels

-- the place of the first node with a serial
abbrev pub place_in : ℕ → List Node → Option ℕ
place_in s [] = None
place_in s (n ∷ ns) = cond (n.serial == s) (Some 0) (option_map suc (place_in s ns))

pub placed : (ns : List Node) → IsIndex ns (node_at ns) (λ s. place_in s ns)
placed ns = record { node = λ s. first s ns; below = λ s p q. low s p ns q }
  where
    first : (s : ℕ) (ms : List Node) → node_at ms s ≡ at_place ms (place_in s ms)
    first s [] = refl
    first s (m ∷ ms) = step (m.serial == s) (place_in s ms) (first s ms)
      where
        step : (t : Bool) (o : Option ℕ) → node_at ms s ≡ at_place ms o → cond t (Some m) (node_at ms s) ≡ at_place (m ∷ ms) (cond t (Some 0) (option_map suc o))
        step true o q = refl
        step false None q = q
        step false (Some k) q = q

    low : (s p : ℕ) (ms : List Node) → place_in s ms ≡ Some p → p < length ms
    low s p [] q = cc
    low s p (m ∷ ms) q = step (m.serial == s) (place_in s ms) (λ k. low s k ms) q
      where
        step : (t : Bool) (o : Option ℕ) → ((k : ℕ) → o ≡ Some k → k < length ms) → cond t (Some 0) (option_map suc o) ≡ Some p → p < length (m ∷ ms)
        step true o later e = let same : 0 ≡ p = cc in omega (arith, same)
        step false None later e = cc
        step false (Some k) later e = let same : suc k ≡ p = cc in omega (arith, same, later k refl)

first_in : (s : ℕ) (ns : List Node) → position (λ (n : Node). n.serial == s) ns ≡ place_in s ns
first_in s [] = refl
first_in s (n ∷ ns) =
    position_cons (λ (m : Node). m.serial == s) n ns ∙ ap (λ o. cond (n.serial == s) (Some 0) (option_map suc o)) (first_in s ns)

-- the places of serials are an index
pub all_placed : (ns : List Node) → IsIndex ns (node_at ns) (place_of ns)
all_placed ns = record {
  node = λ s. (placed ns).node s ∙ ap (at_place ns) (sym (first_in s ns));
  below = λ s p q. (placed ns).below s p (sym (first_in s ns) ∙ q);
}

pub levels_are : (nodes : List Node) → IsDistinct nodes → (feeders : List (List ℕ)) (levels : List ℕ) → AreRows (length nodes) (feeds_place nodes) feeders → AreLevels feeders levels → AreElementLevels nodes levels
levels_are nodes distinct feeders levels are ranked = record {
  count = ranked.count ∙ are.long;
  rising = λ i j x e a b f. ranked.falling j i (linked i j x e a b ∙ f);
  looped = λ i j x e a b f. looped_is nodes distinct feeders levels ranked linked from (λ s. place_in s nodes) (placed nodes) i j x e a b (and_parts (is_element e) (feeds_node nodes x.serial e) (sym (feeds_is nodes distinct x.serial j e b) ∙ f)).0 (linked i j x e a b ∙ f);
}
  where
    linked : (i j : ℕ) (x e : Node) → slice_get nodes i ≡ Some x → slice_get nodes j ≡ Some e → links feeders j i ≡ feeds nodes x.serial e.serial
    linked i j x e a b =
        are.each j i (there_below nodes j e b)
        ∙ ap (λ z. feeds_from nodes z (slice_get nodes i)) b
        ∙ ap (feeds_from nodes (Some e)) a
        ∙ sym (feeds_is nodes distinct x.serial j e b)

    from : (i j : ℕ) → links feeders j i ≡ true → (i < length nodes) × (j < length nodes)
    from i j q =
        let here : j < length nodes = omega (arith, from_place feeders j i q, are.long) in
        (feeds_low nodes j i (sym (are.each j i here) ∙ q), here)

-- ---- serials of places

-- the serials of the places that pass are those of the elements that pass
pub serials_filter : (nodes : List Node) (f g : ℕ → Bool) → ((k : ℕ) (m : Node) → slice_get nodes k ≡ Some m → f k ≡ (is_element m && g m.serial)) → serials_of_places nodes (filter f (range_with_len 0 (length nodes))) ≡ filter g (serials (elements nodes))
serials_filter nodes f g same = along nodes 0 (λ k m q. let zero_more : k ≡ 0 + k = omega arith in (sym (ap (slice_get nodes) zero_more) ∙ q, sym (ap f zero_more) ∙ same k m q))
  where
    along : (ms : List Node) (a : ℕ) → ((k : ℕ) (m : Node) → slice_get ms k ≡ Some m → (slice_get nodes (a + k) ≡ Some m) × (f (a + k) ≡ (is_element m && g m.serial))) → serials_of_places nodes (filter f (range_with_len a (length ms))) ≡ filter g (serials (elements ms))
    along [] a so = refl
    along (m ∷ ms) a so =
        let none : a + 0 ≡ a = omega arith in
        let here = so 0 m refl in
        step (is_element m) (sym (ap (slice_get nodes) none) ∙ here.0) (sym (ap f none) ∙ here.1) (along ms (a + 1) (λ k n q. rest k n q))
      where
        rest : (k : ℕ) (n : Node) → slice_get ms k ≡ Some n → (slice_get nodes ((a + 1) + k) ≡ Some n) × (f ((a + 1) + k) ≡ (is_element n && g n.serial))
        rest k n q =
            let one : a + suc k ≡ (a + 1) + k = omega arith in
            let there = so (suc k) n q in
            (sym (ap (slice_get nodes) one) ∙ there.0, sym (ap f one) ∙ there.1)

        pass : (v : Bool) → slice_get nodes a ≡ Some m → serials_of_places nodes (filter f (range_with_len (a + 1) (length ms))) ≡ filter g (serials (elements ms)) → serials_of_places nodes (cond v (a ∷ filter f (range_with_len (a + 1) (length ms))) (filter f (range_with_len (a + 1) (length ms)))) ≡ cond v (m.serial ∷ filter g (serials (elements ms))) (filter g (serials (elements ms)))
        pass true at later = ap (λ z. with_serial z (serials_of_places nodes (filter f (range_with_len (a + 1) (length ms))))) at ∙ ap (λ ss. m.serial ∷ ss) later
        pass false at later = later

        step : (u : Bool) → slice_get nodes a ≡ Some m → f a ≡ (u && g m.serial) → serials_of_places nodes (filter f (range_with_len (a + 1) (length ms))) ≡ filter g (serials (elements ms)) → serials_of_places nodes (cond (f a) (a ∷ filter f (range_with_len (a + 1) (length ms))) (filter f (range_with_len (a + 1) (length ms)))) ≡ filter g (serials (cond u (m ∷ elements ms) (elements ms)))
        step true at e later = ap (λ t. serials_of_places nodes (cond t (a ∷ filter f (range_with_len (a + 1) (length ms))) (filter f (range_with_len (a + 1) (length ms))))) e ∙ pass (g m.serial) at later
        step false at e later = ap (λ t. serials_of_places nodes (cond t (a ∷ filter f (range_with_len (a + 1) (length ms))) (filter f (range_with_len (a + 1) (length ms))))) e ∙ later

pub row_map : (f : List ℕ → List ℕ) → f [] ≡ [] → (rows : List (List ℕ)) (i : ℕ) → row (map f rows) i ≡ f (row rows i)
row_map f none [] i = sym none
row_map f none (r ∷ rows) zero = refl
row_map f none (r ∷ rows) (suc i) = row_map f none rows i

-- for each node the serials of the elements that read it
abbrev pub AreReaders : List Node → List (List ℕ) → Type 0
AreReaders nodes rows = (i : ℕ) (x : Node) → slice_get nodes i ≡ Some x → row rows i ≡ readers_of nodes x.serial

pub readers_are : (nodes : List Node) → IsDistinct nodes → (heads : List (List ℕ)) → AreHeads nodes heads → AreReaders nodes (map (serials_of_places nodes) heads)
readers_are nodes distinct heads are i x a =
    row_map (serials_of_places nodes) refl heads i
    ∙ ap (serials_of_places nodes) (are.each i (there_below nodes i x a))
    ∙ serials_filter nodes (λ j. reads_place nodes j i) (reads nodes x.serial) same
  where
    twice : (b t : Bool) → (b && t) ≡ (b && (b && t))
    twice true t = refl
    twice false t = refl

    same : (k : ℕ) (m : Node) → slice_get nodes k ≡ Some m → reads_place nodes k i ≡ (is_element m && reads nodes x.serial m.serial)
    same k m b =
        ap (λ z. reads_from nodes z (slice_get nodes i)) b
        ∙ ap (reads_from nodes (Some m)) a
        ∙ twice (is_element m) (reads_node nodes x.serial m)
        ∙ sym (ap (λ t. is_element m && t) (reads_is nodes distinct x.serial k m b))
