-- Elements sorted by level, height and place follow the links.
use Rattle.std.proofs.Common.{◌≡◌, refl, sym, ◌∙◌, ap, ℕ, suc, zero, ◌<◌, ◌≤◌, ◌+◌, ◌-◌, List, [], ◌∷◌, ◌++◌, length, get_or, Bool, true, false, Option, Some, None, arith, inl, inr}
use mathlib.Core.Bool.{and-true}
use Rattle.std.specs.Prelude.{cond, map, not, ◌==◌, ◌||◌, ◌&&◌, ◌⊎◌, filter, slice_get}
use Rattle.std.specs.List.{list_any, range_with_len, All, AllByRecursion as ByRecursion}
use Rattle.std.specs.List.Sorted.{IsPermutation, IsSorted}
use Rattle.std.specs.declared.cmp.Ordering.TheVariants.{Less, Equal}
use Rattle.std.specs.Ordering.{nat_cmp, ordering_then, is_lt}
use Rattle.std.specs.Cmp.{nat_cmp_is, IsTotalOrder}
use Rattle.std.proofs.Math.ListN.{get_or-eq_default}
use Rattle.std.proofs.lemmas.Bool.{or_left, or_right, or_cases, and_parts, and_from, eq-eqb, cases_eq}
use Rattle.std.proofs.lemmas.Cmp.{nat_cmp_total, then_total}
use Rattle.std.proofs.lemmas.List.{append-nil, get_or-map, map-append}
use Rattle.std.proofs.lemmas.List.Elements.{filter-append, All-from_recursion}
use Rattle.std.proofs.lemmas.List.FromFn.{get_or-map-range_with_len}
use Rattle.std.proofs.lemmas.List.Sorted.{ranks_by, sorted_far, IsPermutation-map, All-permutation}
use Rattle.smil_model.specs.declared.document.Node.{Node}
use Rattle.smil_model.specs.document.Document.{is_element, elements, node_at, has_serial, time_parent, is_time_child, previous_in_seq, has_kind, is_seq_kind, serials}
use Rattle.smil_model.specs.document.Dependencies.{feeds, feeds_node, has_implicit_duration, all_items, is_sync_with, leads_to}
use Rattle.smil_model.specs.document.Valid.{IsDistinct}
use Rattle.smil_model.specs.reach.Reach.{is_option}
use Rattle.smil_graph.specs.declared.ordered.Rank.{Rank}
use Rattle.smil_graph.specs.Graph.{follows_unlooped, GoesForward, IsGraphOrder}
use Rattle.smil_graph.specs.Tables.{AreElementLevels, with_serial, serials_of_places}
use Rattle.smil_model.specs.document.Closure.{has}
use Rattle.smil_graph.specs.Links.{row}
use Rattle.smil_graph.specs.Places.{up, has_element, is_element_at, before, previous_of, IsTable, AreTimeChildren}
use Rattle.smil_graph.specs.Ranks.{rank_of, rank_cmp, height_under, AreHeights}
use Rattle.smil_graph.proofs.GraphAnswers.{element_at, only_element}
use Rattle.smil_graph.proofs.PlaceLists.{front_push, end_push}
use Rattle.smil_graph.proofs.NodesByPlace.{there_below, find_place}
use Rattle.smil_graph.proofs.RowsTurned.{range_more}
use Rattle.smil_graph.proofs.PlacesInOrder.{filter_below}
use Rattle.smil_graph.proofs.DefinitionsByPlace.{same_place, any_one, has_at, previous_is, previous_low}
use Rattle.smil_graph.proofs.LinksAreDependencies.{feeds_is}
use Rattle.smil_graph.proofs.GraphTables.{place_is, under_past, serials_filter}

-- ---- heights

-- the heights of the first k nodes
pub record IsHeightsTo (parents : List (Option ℕ)) (top k : ℕ) (heights : List ℕ) : Type 0 where
  pub count : length heights ≡ k
  pub high : (p : ℕ) → p < k → top ≤ get_or heights p 0 + p
  pub each : (p q : ℕ) → p < k → up parents p ≡ Some q → get_or heights p 0 + 1 ≡ get_or heights q 0

pub heights_none : (parents : List (Option ℕ)) (top : ℕ) → IsHeightsTo parents top 0 []
heights_none parents top = record { count = refl; high = λ p l. absurd (omega (arith, l)); each = λ p q l. absurd (omega (arith, l)) }

module _ (parents : List (Option ℕ)) (first : (p q : ℕ) → up parents p ≡ Some q → q < p) (top k : ℕ) (low : k < top) (heights : List ℕ) (so : IsHeightsTo parents top k heights) where
  abbrev height : ℕ
  height = height_under heights top (up parents k)

  split : (p : ℕ) → p < k + 1 → (p < k) ⊎ (p ≡ k)
  split p l = grind arith

  front : (p : ℕ) → p < k → get_or (heights ++ height ∷ []) p 0 ≡ get_or heights p 0
  front p l = front_push heights height p (omega (arith, l, so.count))

  end : get_or (heights ++ height ∷ []) k 0 ≡ height
  end = ap (λ m. get_or (heights ++ height ∷ []) m 0) (sym so.count) ∙ end_push heights height

  under : (q : ℕ) → up parents k ≡ Some q → height + 1 ≡ get_or heights q 0
  under q e =
      let is : height ≡ get_or heights q 0 - 1 = ap (height_under heights top) e in
      omega (arith, is, so.high q (first k q e), first k q e, low)

  pub heights_step : IsHeightsTo parents top (k + 1) (heights ++ height ∷ [])
  heights_step = record {
    count = longer heights ∙ ap (λ m. m + 1) so.count;
    high = λ p l. by_high p (split p l);
    each = λ p q l e. by_each p q e (split p l);
  }
    where
      longer : (xs : List ℕ) → length (xs ++ height ∷ []) ≡ length xs + 1
      longer [] = refl
      longer (x ∷ xs) = let rest : length (xs ++ height ∷ []) ≡ length xs + 1 = longer xs in omega (arith, rest)

      high_at : (o : Option ℕ) → up parents k ≡ o → top ≤ height + k
      high_at None e = let is : height ≡ top = ap (height_under heights top) e in omega (arith, is)
      high_at (Some q) e = omega (arith, under q e, so.high q (first k q e), first k q e)

      by_high : (p : ℕ) → (p < k) ⊎ (p ≡ k) → top ≤ get_or (heights ++ height ∷ []) p 0 + p
      by_high p (inl l) = omega (arith, front p l, so.high p l)
      by_high p (inr e) = let is : get_or (heights ++ height ∷ []) p 0 ≡ height = ap (λ m. get_or (heights ++ height ∷ []) m 0) e ∙ end in omega (arith, is, e, high_at (up parents k) refl)

      by_each : (p q : ℕ) → up parents p ≡ Some q → (p < k) ⊎ (p ≡ k) → get_or (heights ++ height ∷ []) p 0 + 1 ≡ get_or (heights ++ height ∷ []) q 0
      by_each p q e (inl l) = ap (λ m. m + 1) (front p l) ∙ so.each p q l e ∙ sym (front q (omega (arith, first p q e, l)))
      by_each p q e (inr s) =
          let here : up parents k ≡ Some q = sym (ap (up parents) s) ∙ e in
          ap (λ m. get_or (heights ++ height ∷ []) m 0 + 1) s ∙ ap (λ m. m + 1) end ∙ under q here ∙ sym (front q (first k q here))

pub heights_all : (parents : List (Option ℕ)) (k : ℕ) (heights : List ℕ) → k ≡ length parents → IsHeightsTo parents (length parents) k heights → AreHeights parents heights
heights_all parents k heights is so = record { count = so.count ∙ is; each = λ p q l. so.each p q (omega (arith, l, is)) }

-- ---- ranks

pub ranks_more : (nodes : List Node) (levels heights : List ℕ) (ranks : List Rank) (k : ℕ) → ranks ≡ map (rank_of levels heights) (filter (is_element_at nodes) (range_with_len 0 k)) → (t : Bool) → is_element_at nodes k ≡ t → cond t (ranks ++ rank_of levels heights k ∷ []) ranks ≡ map (rank_of levels heights) (filter (is_element_at nodes) (range_with_len 0 (k + 1)))
ranks_more nodes levels heights ranks k so t is =
    by_test t is
    ∙ sym (ap (λ r. map (rank_of levels heights) (filter (is_element_at nodes) r)) (range_more 0 k)
    ∙ ap (map (rank_of levels heights)) (filter-append (is_element_at nodes) (range_with_len 0 k) ((0 + k) ∷ []))
    ∙ map-append (rank_of levels heights) (filter (is_element_at nodes) (range_with_len 0 k)) (filter (is_element_at nodes) ((0 + k) ∷ [])))
  where
    none : 0 + k ≡ k
    none = omega arith

    by_test : (t : Bool) → is_element_at nodes k ≡ t → cond t (ranks ++ rank_of levels heights k ∷ []) ranks ≡ map (rank_of levels heights) (filter (is_element_at nodes) (range_with_len 0 k)) ++ map (rank_of levels heights) (filter (is_element_at nodes) ((0 + k) ∷ []))
    by_test true e =
        ap (λ rs. rs ++ rank_of levels heights k ∷ []) so
        ∙ ap (λ rs. map (rank_of levels heights) (filter (is_element_at nodes) (range_with_len 0 k)) ++ rs)
        (sym (ap (λ m. map (rank_of levels heights) (filter (is_element_at nodes) (m ∷ []))) none ∙ ap (λ b. map (rank_of levels heights) (cond b (k ∷ []) [])) e))
    by_test false e =
        so ∙ sym (append-nil (map (rank_of levels heights) (filter (is_element_at nodes) (range_with_len 0 k))))
        ∙ ap (λ rs. map (rank_of levels heights) (filter (is_element_at nodes) (range_with_len 0 k)) ++ rs)
        (sym (ap (λ m. map (rank_of levels heights) (filter (is_element_at nodes) (m ∷ []))) none ∙ ap (λ b. map (rank_of levels heights) (cond b (k ∷ []) [])) e))

less : (x y : ℕ) → x < y → nat_cmp x y ≡ Less
less x y l = sym (nat_cmp_is x y Less l)

equal : (x y : ℕ) → x ≡ y → nat_cmp x y ≡ Equal
equal x y e = sym (nat_cmp_is x y Equal e)

lower_level : (a b : Rank) → a.level < b.level → is_lt (rank_cmp a b) ≡ true
lower_level a b l = ap (λ o. is_lt (ordering_then o (ordering_then (nat_cmp a.height b.height) (nat_cmp a.place b.place)))) (less a.level b.level l)

lower : (a b : Rank) → a.level ≤ b.level → is_lt (ordering_then (nat_cmp a.height b.height) (nat_cmp a.place b.place)) ≡ true → is_lt (rank_cmp a b) ≡ true
lower a b l q = by_case (cases_eq a.level b.level)
  where
    by_case : (a.level ≡ b.level) ⊎ (a.level ≡ b.level → ⊥) → is_lt (rank_cmp a b) ≡ true
    by_case (inl e) = ap (λ o. is_lt (ordering_then o (ordering_then (nat_cmp a.height b.height) (nat_cmp a.place b.place)))) (equal a.level b.level e) ∙ q
    by_case (inr o) = let strict : a.level < b.level = grind (arith, o, l) in lower_level a b strict

lower_height : (a b : Rank) → a.height < b.height → is_lt (ordering_then (nat_cmp a.height b.height) (nat_cmp a.place b.place)) ≡ true
lower_height a b l = ap (λ o. is_lt (ordering_then o (nat_cmp a.place b.place))) (less a.height b.height l)

lower_place : (a b : Rank) → a.height ≡ b.height → a.place < b.place → is_lt (ordering_then (nat_cmp a.height b.height) (nat_cmp a.place b.place)) ≡ true
lower_place a b e l = ap (λ o. is_lt (ordering_then o (nat_cmp a.place b.place))) (equal a.height b.height e) ∙ ap is_lt (less a.place b.place l)

-- the one before a place in a row is listed in it
has_before : (p : ℕ) (last : Option ℕ) (is : List ℕ) (q : ℕ) → before p last is ≡ Some q → (last ≡ Some q) ⊎ (has is q ≡ true)
has_before p last [] q e = cc
has_before p last (i ∷ is) q e = step (i == p) e (has_before p (Some i) is q)
  where
    step : (t : Bool) → cond t last (before p (Some i) is) ≡ Some q → (before p (Some i) is ≡ Some q → (Some i ≡ Some q) ⊎ (has is q ≡ true)) → (last ≡ Some q) ⊎ (has (i ∷ is) q ≡ true)
    step true r later = inl r
    step false r later = inr (by_case (later r))
      where
        by_case : (Some i ≡ Some q) ⊎ (has is q ≡ true) → has (i ∷ is) q ≡ true
        by_case (inl s) = let same : i ≡ q = cc in or_left _ _ (eq-eqb i q same)
        by_case (inr s) = or_right _ _ s

-- ---- serials

abbrev serial_or : Option Node → ℕ
serial_or None = 0
serial_or (Some n) = n.serial

abbrev serial_in : List Node → ℕ → ℕ
serial_in nodes p = serial_or (slice_get nodes p)

serials_map : (nodes : List Node) (ranks : List Rank) → ((k : ℕ) (d : Rank) → k < length ranks → is_element_at nodes (get_or ranks k d).place ≡ true) → serials_of_places nodes (map (λ (r : Rank). r.place) ranks) ≡ map (λ (r : Rank). serial_in nodes r.place) ranks
serials_map nodes [] each = refl
serials_map nodes (r ∷ rs) each = step (slice_get nodes r.place) refl (each 0 r (omega arith)) (serials_map nodes rs (λ k d l. each (suc k) d (omega (arith, l))))
  where
    step : (o : Option Node) → slice_get nodes r.place ≡ o → has_element (slice_get nodes r.place) ≡ true → serials_of_places nodes (map (λ (q : Rank). q.place) rs) ≡ map (λ (q : Rank). serial_in nodes q.place) rs → with_serial (slice_get nodes r.place) (serials_of_places nodes (map (λ (q : Rank). q.place) rs)) ≡ serial_or (slice_get nodes r.place) ∷ map (λ (q : Rank). serial_in nodes q.place) rs
    step None e q later = let never : false ≡ true = sym (ap has_element e) ∙ q in absurd (cc)
    step (Some n) e q later =
        ap (λ z. with_serial z (serials_of_places nodes (map (λ (q : Rank). q.place) rs))) e
        ∙ ap (λ ss. n.serial ∷ ss) later
        ∙ sym (ap (λ z. serial_or z ∷ map (λ (q : Rank). serial_in nodes q.place) rs) e)

-- ---- the order

module _ (nodes : List Node) (distinct : IsDistinct nodes) (tps : List (Option ℕ)) (table : IsTable nodes (λ n. time_parent nodes n.serial) tps) (levels heights : List ℕ) (ranked : AreElementLevels nodes levels) (high : AreHeights tps heights) where
  abbrev rank : ℕ → Rank
  rank = rank_of levels heights

  -- the rows of time children, which the order itself has no need of
  abbrev child_row : ℕ → List ℕ
  child_row q = filter (λ p. is_element_at nodes p && is_option q (up tps p)) (range_with_len 0 (length nodes))

  abbrev children : List (List ℕ)
  children = map child_row (range_with_len 0 (length nodes))

  length_range : (n a : ℕ) → length (map child_row (range_with_len a n)) ≡ n
  length_range zero a = refl
  length_range (suc n) a = ap suc (length_range n (a + 1))

  as_children : AreTimeChildren nodes tps children
  as_children q = by_case (grind arith)
    where
      by_case : (q < length nodes) ⊎ (length nodes ≤ q) → row children q ≡ child_row q
      by_case (inl l) = get_or-map-range_with_len child_row 0 (length nodes) q q [] l (omega arith)
      by_case (inr l) =
          let long : length children ≡ length nodes = length_range (length nodes) 0 in
          get_or-eq_default children [] (omega (arith, long, l)) ∙ under_past nodes tps table q l

  module _ (i j : ℕ) (x e : Node) (a : slice_get nodes i ≡ Some x) (b : slice_get nodes j ≡ Some e) (is : is_element e ≡ true) where
    fed : feeds_node nodes x.serial e ≡ true → feeds nodes x.serial e.serial ≡ true
    fed q = feeds_is nodes distinct x.serial j e b ∙ and_from _ _ is q

    not_above : feeds_node nodes x.serial e ≡ true → get_or levels i 0 ≤ get_or levels j 0
    not_above q = ranked.rising i j x e a b (fed q)

    i_low : i < length tps
    i_low = omega (arith, there_below nodes i x a, table.count)

    j_low : j < length tps
    j_low = omega (arith, there_below nodes j e b, table.count)

    by_child : (has_implicit_duration e && list_any (λ (c : Node). (c.serial == x.serial) && is_time_child nodes e.serial c) nodes) ≡ true → is_lt (rank_cmp (rank i) (rank j)) ≡ true
    by_child q =
        let child : is_time_child nodes e.serial x ≡ true = sym (any_one nodes distinct (is_time_child nodes e.serial) nodes i x distinct a) ∙ (and_parts (has_implicit_duration e) _ q).1 in
        let parent : is_option j (up tps i) ≡ true = sym (ap (has_serial e.serial) (table.node i x a) ∙ has_at nodes distinct j e (up tps i) b) ∙ (and_parts (is_element x) (has_serial e.serial (time_parent nodes x.serial)) child).1 in
        let above : get_or heights i 0 + 1 ≡ get_or heights j 0 = high.each i j i_low (place_is j (up tps i) parent) in
        lower (rank i) (rank j) (not_above (or_left _ _ (or_left _ _ q))) (lower_height (rank i) (rank j) (omega (arith, above)))

    by_previous : has_serial x.serial (previous_in_seq nodes e.serial) ≡ true → is_lt (rank_cmp (rank i) (rank j)) ≡ true
    by_previous q =
        let place : is_option i (previous_of nodes children j (up tps j)) ≡ true = sym (ap (has_serial x.serial) (previous_is nodes distinct tps children table as_children j e b) ∙ has_at nodes distinct i x (previous_of nodes children j (up tps j)) a) ∙ q in
        let previous : previous_of nodes children j (up tps j) ≡ Some i = place_is i (previous_of nodes children j (up tps j)) place in
        lower (rank i) (rank j) (not_above (or_left _ _ (or_right _ _ q)))
        (lower_place (rank i) (rank j) (siblings (up tps j) refl previous) (previous_low nodes distinct tps children table as_children j i (up tps j) previous))
      where
        siblings : (o : Option ℕ) → up tps j ≡ o → previous_of nodes children j o ≡ Some i → get_or heights i 0 ≡ get_or heights j 0
        siblings None u r = cc
        siblings (Some p) u r = by_seq (has_kind is_seq_kind (slice_get nodes p)) r
          where
            listed : (None ≡ Some i) ⊎ (has (row children p) i ≡ true) → get_or heights i 0 ≡ get_or heights j 0
            listed (inl never) = cc
            listed (inr t) =
                let low = filter_below (λ k. is_element_at nodes k && is_option p (up tps k)) (length nodes) i (sym (ap (λ r. has r i) (as_children p)) ∙ t) in
                let parent : up tps i ≡ Some p = place_is p (up tps i) (and_parts (is_element_at nodes i) (is_option p (up tps i)) low.1).1 in
                omega (arith, high.each i p i_low parent, high.each j p j_low u)

            by_seq : (t : Bool) → cond t (before j None (row children p)) None ≡ Some i → get_or heights i 0 ≡ get_or heights j 0
            by_seq true s = listed (has_before j None (row children p) i s)
            by_seq false s = cc

    by_sync : (list_any (is_sync_with nodes x.serial) (all_items nodes e) && not (leads_to nodes e.serial x.serial)) ≡ true → is_lt (rank_cmp (rank i) (rank j)) ≡ true
    by_sync q =
        let parts = and_parts (list_any (is_sync_with nodes x.serial) (all_items nodes e)) (not (leads_to nodes e.serial x.serial)) q in
        let fed_by : feeds_node nodes x.serial e ≡ true = or_right _ _ parts.0 in
        by_level (cases_eq (get_or levels i 0) (get_or levels j 0)) (not_above fed_by) (ranked.looped i j x e a b (fed fed_by)) (leads_to nodes e.serial x.serial) refl parts.1
      where
        by_level : (get_or levels i 0 ≡ get_or levels j 0) ⊎ (get_or levels i 0 ≡ get_or levels j 0 → ⊥) → get_or levels i 0 ≤ get_or levels j 0 → (get_or levels i 0 == get_or levels j 0) ≡ leads_to nodes e.serial x.serial → (t : Bool) → leads_to nodes e.serial x.serial ≡ t → not (leads_to nodes e.serial x.serial) ≡ true → is_lt (rank_cmp (rank i) (rank j)) ≡ true
        by_level (inl s) l looped true k other = let never : false ≡ true = sym (ap not k) ∙ other in absurd (cc)
        by_level (inl s) l looped false k other = let never : true ≡ false = sym (eq-eqb (get_or levels i 0) (get_or levels j 0) s) ∙ looped ∙ k in absurd (cc)
        by_level (inr o) l looped t k other = let strict : get_or levels i 0 < get_or levels j 0 = grind (arith, o, l) in lower_level (rank i) (rank j) strict

    comes_first : follows_unlooped nodes x.serial e ≡ true → is_lt (rank_cmp (rank i) (rank j)) ≡ true
    comes_first q = by_case (or_cases _ _ q)
      where
        by_tree : ((has_implicit_duration e && list_any (λ (c : Node). (c.serial == x.serial) && is_time_child nodes e.serial c) nodes) ≡ true) ⊎ (has_serial x.serial (previous_in_seq nodes e.serial) ≡ true) → is_lt (rank_cmp (rank i) (rank j)) ≡ true
        by_tree (inl t) = by_child t
        by_tree (inr t) = by_previous t

        by_case : (((has_implicit_duration e && list_any (λ (c : Node). (c.serial == x.serial) && is_time_child nodes e.serial c) nodes) || has_serial x.serial (previous_in_seq nodes e.serial)) ≡ true) ⊎ ((list_any (is_sync_with nodes x.serial) (all_items nodes e) && not (leads_to nodes e.serial x.serial)) ≡ true) → is_lt (rank_cmp (rank i) (rank j)) ≡ true
        by_case (inl t) = by_tree (or_cases _ _ t)
        by_case (inr t) = by_sync t

  -- ---- sorted

  abbrev IsOwn : Rank → Type 0
  IsOwn r = (r ≡ rank_of levels heights r.place) × (is_element_at nodes r.place ≡ true)

  all_own : (n a : ℕ) → All IsOwn (map (rank_of levels heights) (filter (is_element_at nodes) (range_with_len a n)))
  all_own n a = All-from_recursion IsOwn (map (rank_of levels heights) (filter (is_element_at nodes) (range_with_len a n))) (each n a)
    where
      each : (n a : ℕ) → ByRecursion IsOwn (map (rank_of levels heights) (filter (is_element_at nodes) (range_with_len a n)))
      each zero a = tt
      each (suc n) a = step (is_element_at nodes a) refl (each n (a + 1))
        where
          step : (t : Bool) → is_element_at nodes a ≡ t → ByRecursion IsOwn (map (rank_of levels heights) (filter (is_element_at nodes) (range_with_len (a + 1) n))) → ByRecursion IsOwn (map (rank_of levels heights) (cond t (a ∷ filter (is_element_at nodes) (range_with_len (a + 1) n)) (filter (is_element_at nodes) (range_with_len (a + 1) n))))
          step true e later = ((refl, e), later)
          step false e later = later

  total : IsTotalOrder rank_cmp
  total =
      then_total {R = λ (a b : Rank). nat_cmp a.level b.level} {S = λ (a b : Rank). ordering_then (nat_cmp a.height b.height) (nat_cmp a.place b.place)} (by_number (λ (r : Rank). r.level))
      (then_total {R = λ (a b : Rank). nat_cmp a.height b.height} {S = λ (a b : Rank). nat_cmp a.place b.place} (by_number (λ (r : Rank). r.height)) (by_number (λ (r : Rank). r.place)))
    where
      by_number : (f : Rank → ℕ) → IsTotalOrder (λ (a b : Rank). nat_cmp (f a) (f b))
      by_number f = record {
        antisymm = λ x y. nat_cmp_total.antisymm (f x) (f y);
        trans = λ x y z. nat_cmp_total.trans (f x) (f y) (f z);
        congr = λ x y z. nat_cmp_total.congr (f x) (f y) (f z);
      }

  module _ (sorted : List Rank) (moved : IsPermutation (map (rank_of levels heights) (filter (is_element_at nodes) (range_with_len 0 (length nodes)))) sorted) (up_to : IsSorted rank_cmp sorted) where
    abbrev ranks : List Rank
    ranks = map (rank_of levels heights) (filter (is_element_at nodes) (range_with_len 0 (length nodes)))

    own : All IsOwn sorted
    own = All-permutation IsOwn ranks sorted moved (all_own (length nodes) 0)

    abbrev serial : Rank → ℕ
    serial r = serial_in nodes r.place

    order_map : serials_of_places nodes (map (λ (r : Rank). r.place) sorted) ≡ map serial sorted
    order_map = serials_map nodes sorted (λ k d l. (own k d l).1)

    -- the serials of all elements, as those of the ranks before they are sorted
    elements_map : serials (elements nodes) ≡ map serial ranks
    elements_map =
        sym (all_pass (serials (elements nodes)))
        ∙ sym (serials_filter nodes (is_element_at nodes) (λ s. true) pass)
        ∙ ap (serials_of_places nodes) (sym (places_back (filter (is_element_at nodes) (range_with_len 0 (length nodes)))))
        ∙ serials_map nodes ranks (λ k d l. (all_own (length nodes) 0 k d l).1)
      where
        all_pass : (xs : List ℕ) → filter (λ s. true) xs ≡ xs
        all_pass [] = refl
        all_pass (x ∷ xs) = ap (λ ys. x ∷ ys) (all_pass xs)

        pass : (k : ℕ) (m : Node) → slice_get nodes k ≡ Some m → is_element_at nodes k ≡ (is_element m && true)
        pass k m q = ap has_element q ∙ sym (and-true (is_element m))

        places_back : (ps : List ℕ) → map (λ (r : Rank). r.place) (map (rank_of levels heights) ps) ≡ ps
        places_back [] = refl
        places_back (p ∷ ps) = ap (λ qs. p ∷ qs) (places_back ps)

    the_one : (k : ℕ) (m e : Node) → slice_get nodes k ≡ Some m → m.serial ≡ e.serial → node_at (elements nodes) e.serial ≡ Some e → m ≡ e
    the_one k m e at same known = by_node (node_at nodes e.serial) refl
      where
        by_node : (o : Option Node) → node_at nodes e.serial ≡ o → m ≡ e
        by_node None q = let never : Some e ≡ None = sym known ∙ element_at nodes e.serial distinct ∙ ap only_element q in absurd (cc)
        by_node (Some n) q = by_element (is_element n) (sym known ∙ element_at nodes e.serial distinct ∙ ap only_element q) (find_place (λ (c : Node). c.serial == e.serial) nodes n q)
          where
            by_element : (t : Bool) → Some e ≡ cond t (Some n) None → (l : ℕ) × (slice_get nodes l ≡ Some n) → m ≡ e
            by_element false r found = cc
            by_element true r found =
                let one : e ≡ n = cc in
                let place : k ≡ found.0 = same_place nodes k found.0 m n distinct at found.1 (ap (λ (c : Node). c.serial) (sym one) ∙ sym same) in
                let node : Some m ≡ Some n = sym at ∙ ap (slice_get nodes) place ∙ found.1 in
                cc

    at_rank : (k : ℕ) (d : Rank) → k < length sorted → (m : Node) × (slice_get nodes (get_or sorted k d).place ≡ Some m) × (is_element m ≡ true) × (get_or (serials_of_places nodes (map (λ (r : Rank). r.place) sorted)) k 0 ≡ m.serial)
    at_rank k d l = by_node (slice_get nodes (get_or sorted k d).place) refl
      where
        by_node : (o : Option Node) → slice_get nodes (get_or sorted k d).place ≡ o → (m : Node) × (slice_get nodes (get_or sorted k d).place ≡ Some m) × (is_element m ≡ true) × (get_or (serials_of_places nodes (map (λ (r : Rank). r.place) sorted)) k 0 ≡ m.serial)
        by_node None q = let never : false ≡ true = sym (ap has_element q) ∙ (own k d l).1 in absurd (cc)
        by_node (Some m) q = (m, q, sym (ap has_element q) ∙ (own k d l).1, ap (λ ss. get_or ss k 0) order_map ∙ get_or-map serial sorted k d 0 l ∙ ap serial_or q)

    order_length : length (serials_of_places nodes (map (λ (r : Rank). r.place) sorted)) ≡ length sorted
    order_length = ap length order_map ∙ mapped sorted
      where
        mapped : (rs : List Rank) → length (map serial rs) ≡ length rs
        mapped [] = refl
        mapped (r ∷ rs) = ap suc (mapped rs)

    forward : GoesForward nodes (serials_of_places nodes (map (λ (r : Rank). r.place) sorted))
    forward e i j known li lj at follows = by_case (grind arith)
      where
        d : Rank
        d = rank_of levels heights 0

        low_i : i < length sorted
        low_i = omega (arith, li, order_length)

        low_j : j < length sorted
        low_j = omega (arith, lj, order_length)

        by_case : (i < j) ⊎ (j ≤ i) → i < j
        by_case (inl l) = l
        by_case (inr l) =
            let x = at_rank i d low_i in
            let y = at_rank j d low_j in
            let one : y.0 ≡ e = the_one (get_or sorted j d).place y.0 e y.1 (sym y.3 ∙ at) known in
            let unlooped : follows_unlooped nodes (x.0).serial y.0 ≡ true = ap (follows_unlooped nodes (x.0).serial) one ∙ sym (ap (λ s. follows_unlooped nodes s e) x.3) ∙ follows in
            let below : is_lt (rank_cmp (get_or sorted i d) (get_or sorted j d)) ≡ true = ap (λ r. is_lt (rank_cmp r (get_or sorted j d))) (own i d low_i).0 ∙ ap (λ r. is_lt (rank_cmp (rank_of levels heights (get_or sorted i d).place) r)) (own j d low_j).0 ∙ comes_first (get_or sorted i d).place (get_or sorted j d).place x.0 y.0 x.1 y.1 y.2 unlooped in
            let above : is_lt (rank_cmp (get_or sorted i d) (get_or sorted j d)) ≡ false = sorted_far (λ (a b : Rank). is_lt (rank_cmp a b)) (ranks_by total (λ (r : Rank). r)) sorted up_to j i d l low_i in
            let never : true ≡ false = sym below ∙ above in
            absurd (cc)

    pub order_is : IsGraphOrder nodes (serials_of_places nodes (map (λ (r : Rank). r.place) sorted))
    order_is = record {
      all = rw (elements_map, order_map) (IsPermutation-map serial ranks sorted moved);
      forward = forward;
    }
