-- The dependencies that are not looped have a rank: by how much follows from an element, then by depth, then by place.
use Rattle.std.proofs.Common.{◌≡◌, refl, sym, ◌∙◌, ap, ℕ, suc, zero, ◌<◌, ◌≤◌, ◌+◌, ◌-◌, ◌*◌, List, [], ◌∷◌, length, Option, Some, None, Bool, true, false, arith, inl, inr, ◌++◌}
use Rattle.std.specs.Prelude.{cond, ltb, ◌==◌, ◌||◌, ◌&&◌, ◌⊎◌, reverse, filter, find, drop}
use Rattle.std.specs.List.{list_any}
use Rattle.std.proofs.lemmas.Bool.{or_left, or_right, or_cases, and_parts, and_from, eqb-true, eq-eqb, ltb-true, lt-ltb, le-ltb}
use Rattle.std.proofs.lemmas.List.{length-reverse}
use Rattle.smil_model.specs.declared.document.Node.{Node}
use Rattle.smil_laws.specs.Locality.{ParentsBefore}
use Rattle.smil_model.specs.document.Document.{is_element, elements, node_at, upwards, lineage, time_parent, time_children, is_time_child, just_before, previous_child, previous_in_seq, is_in_seq, has_serial, serials}
use Rattle.smil_model.specs.document.Dependencies.{all_items, feeds, feeds_node}
use Rattle.smil_model.specs.document.Closure.{has, rounds, closure}
use Rattle.smil_laws.proofs.ClosureExact.{has_filter, more_kept, is_closed, has_set}
use Rattle.smil_laws.proofs.LineageParents.{upwards-rest, upwards-head}
use Rattle.smil_laws.specs.Rounds.{IsRank}
use Rattle.smil_laws.proofs.ReachClosed.{found_any, child_is_all, before_is_all, sync_is_all, own_is_all, any_kept, before_any}
use Rattle.smil_laws.proofs.Lists.{filter_shorter}

-- ---- lists

pub filter_has : (p : ℕ → Bool) (xs : List ℕ) (y : ℕ) → has (filter p xs) y ≡ true → (has xs y ≡ true) × (p y ≡ true)
filter_has p [] y q = cc
filter_has p (x ∷ xs) y q = keep (p x) refl q (filter_has p xs y)
  where
    keep : (t : Bool) → p x ≡ t → has (cond t (x ∷ filter p xs) (filter p xs)) y ≡ true → (has (filter p xs) y ≡ true → (has xs y ≡ true) × (p y ≡ true)) → (has (x ∷ xs) y ≡ true) × (p y ≡ true)
    keep true e r later = by_case (or_cases (x == y) (has (filter p xs) y) r)
      where
        by_case : (x == y ≡ true) ⊎ (has (filter p xs) y ≡ true) → (has (x ∷ xs) y ≡ true) × (p y ≡ true)
        by_case (inl d) = (or_left _ _ d, ap p (sym (eqb-true x y d)) ∙ e)
        by_case (inr d) = (or_right _ _ (later d).0, (later d).1)
    keep false e r later = (or_right _ _ (later r).0, (later r).1)

pub any_elem : (f : ℕ → Bool) (xs : List ℕ) → list_any f xs ≡ true → (w : ℕ) × (has xs w ≡ true) × (f w ≡ true)
any_elem f [] q = cc
any_elem f (x ∷ xs) q = by_case (or_cases (f x) (list_any f xs) q) (any_elem f xs)
  where
    by_case : (f x ≡ true) ⊎ (list_any f xs ≡ true) → (list_any f xs ≡ true → (w : ℕ) × (has xs w ≡ true) × (f w ≡ true)) → (w : ℕ) × (has (x ∷ xs) w ≡ true) × (f w ≡ true)
    by_case (inl t) later = (x, or_left _ _ (eq-eqb x x refl), t)
    by_case (inr t) later = let found = later t in (found.0, or_right _ _ found.1, found.2)

filter_lt : (p : ℕ → Bool) (xs : List ℕ) (y : ℕ) → has xs y ≡ true → p y ≡ false → length (filter p xs) < length xs
filter_lt p [] y q f = cc
filter_lt p (x ∷ xs) y q f = by_case (or_cases (x == y) (has xs y) q) (filter_lt p xs y)
  where
    keep : (t : Bool) → length (filter p xs) < length xs → length (cond t (x ∷ filter p xs) (filter p xs)) < suc (length xs)
    keep true l = omega (arith, l)
    keep false l = omega (arith, l)

    by_case : (x == y ≡ true) ⊎ (has xs y ≡ true) → (has xs y ≡ true → p y ≡ false → length (filter p xs) < length xs) → length (cond (p x) (x ∷ filter p xs) (filter p xs)) < suc (length xs)
    by_case (inl d) later =
        let gone : p x ≡ false = ap p (eqb-true x y d) ∙ f in
        rw gone (omega (arith, filter_shorter p xs))
    by_case (inr d) later = keep (p x) (later d f)

lex : (m a b p q : ℕ) → a < b → p < m → a * m + p < b * m + q
lex m a b p q l r =
    let step : suc a * m ≤ b * m = grind arith in
    let wide : suc a * m ≡ a * m + m = grind arith in
    omega (arith, step, wide, r)

lex_same : (m a b p q : ℕ) → a ≤ b → p < q → a * m + p < b * m + q
lex_same m a b p q l r =
    let step : a * m ≤ b * m = grind arith in
    omega (arith, step, r)

-- ---- what follows from an element

module _ (link : ℕ → ℕ → Bool) (all : List ℕ) where
  from : ℕ → List ℕ
  from e = closure link all (e ∷ [])

  within_rounds : (x e k y : ℕ) → has (closure link all (x ∷ [])) e ≡ true → has (rounds link all k (e ∷ [])) y ≡ true → has (closure link all (x ∷ [])) y ≡ true
  within_rounds x e zero y i q = by_case (or_cases (e == y) false q)
    where
      by_case : (e == y ≡ true) ⊎ (false ≡ true) → has (closure link all (x ∷ [])) y ≡ true
      by_case (inl d) = ap (has (closure link all (x ∷ []))) (sym (eqb-true e y d)) ∙ i
      by_case (inr d) = cc
  within_rounds x e (suc k) y i q =
      let parts = filter_has (λ z. has (rounds link all k (e ∷ [])) z || list_any (λ w. link w z) (rounds link all k (e ∷ []))) all y q in
      by_case parts.0 (or_cases (has (rounds link all k (e ∷ [])) y) (list_any (λ w. link w y) (rounds link all k (e ∷ []))) parts.1) (λ z. within_rounds x e k z i)
    where
      by_case : has all y ≡ true → (has (rounds link all k (e ∷ [])) y ≡ true) ⊎ (list_any (λ w. link w y) (rounds link all k (e ∷ [])) ≡ true) → ((z : ℕ) → has (rounds link all k (e ∷ [])) z ≡ true → has (closure link all (x ∷ [])) z ≡ true) → has (closure link all (x ∷ [])) y ≡ true
      by_case a (inl d) below = below y d
      by_case a (inr d) below =
          let found = any_elem (λ w. link w y) (rounds link all k (e ∷ [])) d in
          is_closed link all (x ∷ []) found.0 y (below found.0 found.1) found.2 a

  -- along a link no more follows, and less where the link lies on no cycle
  follows : (x e : ℕ) → has all x ≡ true → has all e ≡ true → link x e ≡ true → (closure link all (x ∷ []) ≡ closure link all (e ∷ [])) ⊎ (length (closure link all (e ∷ [])) < length (closure link all (x ∷ [])))
  follows x e i j l =
      let own : has (closure link all (x ∷ [])) x ≡ true = has_set link all (x ∷ []) x i (or_left _ _ (eq-eqb x x refl)) in
      let next : has (closure link all (x ∷ [])) e ≡ true = is_closed link all (x ∷ []) x e own l j in
      more_kept (λ y. has (rounds link all (length all) (e ∷ [])) y || list_any (λ w. link w y) (rounds link all (length all) (e ∷ [])))
      (λ y. has (rounds link all (length all) (x ∷ [])) y || list_any (λ w. link w y) (rounds link all (length all) (x ∷ []))) all
      (λ y a q. (filter_has (λ y. has (rounds link all (length all) (x ∷ [])) y || list_any (λ w. link w y) (rounds link all (length all) (x ∷ []))) all y
      (within_rounds x e (suc (length all)) y next (has_filter (λ y. has (rounds link all (length all) (e ∷ [])) y || list_any (λ w. link w y) (rounds link all (length all) (e ∷ []))) all y a q))).1)

  no_more : (x e : ℕ) → has all x ≡ true → has all e ≡ true → link x e ≡ true → length (closure link all (e ∷ [])) ≤ length (closure link all (x ∷ []))
  no_more x e i j l = by_case (follows x e i j l)
    where
      by_case : (closure link all (x ∷ []) ≡ closure link all (e ∷ [])) ⊎ (length (closure link all (e ∷ [])) < length (closure link all (x ∷ []))) → length (closure link all (e ∷ [])) ≤ length (closure link all (x ∷ []))
      by_case (inl s) = omega (arith, ap length s)
      by_case (inr s) = omega (arith, s)

  less : (x e : ℕ) → has all x ≡ true → has all e ≡ true → link x e ≡ true → has (closure link all (e ∷ [])) x ≡ false → length (closure link all (e ∷ [])) < length (closure link all (x ∷ []))
  less x e i j l out = by_case (follows x e i j l)
    where
      by_case : (closure link all (x ∷ []) ≡ closure link all (e ∷ [])) ⊎ (length (closure link all (e ∷ [])) < length (closure link all (x ∷ []))) → length (closure link all (e ∷ [])) < length (closure link all (x ∷ []))
      by_case (inl s) =
          let own : has (closure link all (x ∷ [])) x ≡ true = has_set link all (x ∷ []) x i (or_left _ _ (eq-eqb x x refl)) in
          let no_way : false ≡ true = sym out ∙ sym (ap (λ c. has c x) s) ∙ own in cc
      by_case (inr s) = s

  few : (e : ℕ) → length (closure link all (e ∷ [])) ≤ length all
  few e = filter_shorter (λ y. has (rounds link all (length all) (e ∷ [])) y || list_any (λ w. link w y) (rounds link all (length all) (e ∷ []))) all

-- ---- places among siblings

index : ℕ → List Node → ℕ
index s [] = 0
index s (n ∷ ns) = cond (n.serial == s) 0 (suc (index s ns))

index_le : (s : ℕ) (ns : List Node) → index s ns ≤ length ns
unfolding index
index_le s [] = omega arith
index_le s (n ∷ ns) = step (n.serial == s) (index_le s ns)
  where
    step : (t : Bool) → index s ns ≤ length ns → cond t 0 (suc (index s ns)) ≤ suc (length ns)
    step true l = omega arith
    step false l = omega (arith, l)

index_before : (s : ℕ) (o : Option Node) (ns : List Node) (b : Node) → just_before s o ns ≡ Some b → (o ≡ Some b) ⊎ (index b.serial ns < index s ns)
unfolding index
index_before s o [] b q = cc
index_before s o (n ∷ ns) b q = step (n.serial == s) q (index_before s (Some n) ns b)
  where
    step : (t : Bool) → cond t o (just_before s (Some n) ns) ≡ Some b → (just_before s (Some n) ns ≡ Some b → (Some n ≡ Some b) ⊎ (index b.serial ns < index s ns)) → (o ≡ Some b) ⊎ (cond (n.serial == b.serial) 0 (suc (index b.serial ns)) < cond t 0 (suc (index s ns)))
    step true q later = inl q
    step false q later = by_case (later q)
      where
        some : (t : Bool) → index b.serial ns < index s ns → cond t 0 (suc (index b.serial ns)) < suc (index s ns)
        some true l = omega arith
        some false l = omega (arith, l)

        by_case : (Some n ≡ Some b) ⊎ (index b.serial ns < index s ns) → (o ≡ Some b) ⊎ (cond (n.serial == b.serial) 0 (suc (index b.serial ns)) < suc (index s ns))
        by_case (inl e) =
            let one : n ≡ b = cc in
            let here : n.serial == b.serial ≡ true = eq-eqb n.serial b.serial (ap (λ (m : Node). m.serial) one) in
            inr (rw here (omega arith))
        by_case (inr l) = inr (some (n.serial == b.serial) l)

upwards_le : (rs : List Node) (s : ℕ) → length (upwards rs s) ≤ length rs
upwards_le [] s = omega arith
upwards_le (n ∷ before) s = step (n.serial == s) (upwards_le before n.parent) (upwards_le before s)
  where
    step : (t : Bool) → length (upwards before n.parent) ≤ length before → length (upwards before s) ≤ length before → length (cond t (n ∷ upwards before (cond t n.parent s)) (upwards before (cond t n.parent s))) ≤ suc (length before)
    step true l r = omega (arith, l)
    step false l r = omega (arith, r)

module _ (nodes : List Node) (first : ParentsBefore (reverse nodes)) where
  -- how many elements stand above
  depth : ℕ → ℕ
  depth s = length (filter is_element (drop 1 (lineage nodes s)))

  depth_in : (s : ℕ) (chain : List Node) (p : Node) → lineage nodes s ≡ chain → find is_element chain ≡ Some p → length (filter is_element chain) ≡ suc (depth p.serial)
  unfolding depth
  depth_in s [] p q found = cc
  depth_in s (m ∷ rest) p q found = step (is_element m) found (depth_in m.parent rest p (upwards-rest (reverse nodes) s m rest first q))
    where
      step : (t : Bool) → cond t (Some m) (find is_element rest) ≡ Some p → (find is_element rest ≡ Some p → length (filter is_element rest) ≡ suc (length (filter is_element (drop 1 (lineage nodes p.serial))))) → length (cond t (m ∷ filter is_element rest) (filter is_element rest)) ≡ suc (length (filter is_element (drop 1 (lineage nodes p.serial))))
      step true f later =
          let one : m ≡ p = cc in
          let chain : lineage nodes p.serial ≡ m ∷ rest = ap (lineage nodes) (sym (ap (λ (n : Node). n.serial) one) ∙ upwards-head (reverse nodes) s m rest q) ∙ q in
          sym (ap (λ c. suc (length (filter is_element (drop 1 c)))) chain)
      step false f later = later f

  deeper : (s : ℕ) (p : Node) → time_parent nodes s ≡ Some p → depth s ≡ suc (depth p.serial)
  unfolding depth
  deeper s p found = by_chain (lineage nodes s) refl
    where
      by_chain : (chain : List Node) → lineage nodes s ≡ chain → length (filter is_element (drop 1 (lineage nodes s))) ≡ suc (length (filter is_element (drop 1 (lineage nodes p.serial))))
      by_chain [] q = let nothing : None ≡ Some p = sym (ap (λ c. find is_element (drop 1 c)) q) ∙ found in cc
      by_chain (m ∷ rest) q =
          ap (λ c. length (filter is_element (drop 1 c))) q
          ∙ depth_in m.parent rest p (upwards-rest (reverse nodes) s m rest first q) (sym (ap (λ c. find is_element (drop 1 c)) q) ∙ found)

  depth_le : (s : ℕ) → depth s ≤ length nodes
  unfolding depth
  depth_le s = by_chain (lineage nodes s) (omega (arith, upwards_le (reverse nodes) s, length-reverse nodes))
    where
      by_chain : (chain : List Node) → length chain ≤ length nodes → length (filter is_element (drop 1 chain)) ≤ length nodes
      by_chain [] l = omega arith
      by_chain (m ∷ rest) l = omega (arith, filter_shorter is_element rest, l)

  place_under : Option Node → ℕ → ℕ
  place_under None s = 0
  place_under (Some p) s = index s (time_children nodes p.serial)

  place : ℕ → ℕ
  place s = place_under (time_parent nodes s) s

  place_le : (s : ℕ) → place s ≤ length nodes
  unfolding place place_under
  place_le s = under (time_parent nodes s)
    where
      under : (o : Option Node) → place_under o s ≤ length nodes
      under None = omega arith
      under (Some p) = omega (arith, index_le s (time_children nodes p.serial), filter_shorter (is_time_child nodes p.serial) nodes)

  all : List ℕ
  all = serials (elements nodes)

  following : ℕ → ℕ
  following s = length (closure (feeds nodes) (serials (elements nodes)) (s ∷ []))

  wide : ℕ
  wide = suc (length nodes)

  key : ℕ → ℕ
  key s = ((length (serials (elements nodes)) - following s) * wide + (length nodes - depth s)) * wide + place s

  pub rank : ℕ → ℕ
  rank s = length (filter (λ y. ltb (key y) (key s)) (serials (elements nodes)))

  rank_lt : (x e : ℕ) → has (serials (elements nodes)) x ≡ true → key x < key e → rank x < rank e
  unfolding rank
  rank_lt x e i l =
      by_case (more_kept (λ y. ltb (key y) (key x)) (λ y. ltb (key y) (key e)) (serials (elements nodes))
      (λ y a t. lt-ltb (key y) (key e) (omega (arith, ltb-true (key y) (key x) t, l))))
    where
      by_case : (filter (λ y. ltb (key y) (key e)) (serials (elements nodes)) ≡ filter (λ y. ltb (key y) (key x)) (serials (elements nodes))) ⊎ (length (filter (λ y. ltb (key y) (key x)) (serials (elements nodes))) < length (filter (λ y. ltb (key y) (key e)) (serials (elements nodes)))) → length (filter (λ y. ltb (key y) (key x)) (serials (elements nodes))) < length (filter (λ y. ltb (key y) (key e)) (serials (elements nodes)))
      by_case (inl same) =
          let kept = has_filter (λ y. ltb (key y) (key e)) (serials (elements nodes)) x i (lt-ltb (key x) (key e) l) in
          let here = (filter_has (λ y. ltb (key y) (key x)) (serials (elements nodes)) x (sym (ap (λ c. has c x) same) ∙ kept)).1 in
          absurd (omega (arith, ltb-true (key x) (key x) here))
      by_case (inr less) = less

  -- a rank of an element is below the number of elements
  pub rank_below : (s : ℕ) → has (serials (elements nodes)) s ≡ true → rank s < length (serials (elements nodes))
  unfolding rank
  rank_below s i = filter_lt (λ y. ltb (key y) (key s)) (serials (elements nodes)) s i (le-ltb (key s) (key s) (omega arith))

  parent_serial : (e : ℕ) (o : Option Node) → has_serial e o ≡ true → (p : Node) × (o ≡ Some p) × (p.serial ≡ e)
  parent_serial e None q = cc
  parent_serial e (Some p) q = (p, refl, eqb-true p.serial e q)

  parent_of_child : (e s : ℕ) (ns : List Node) → list_any (λ (c : Node). (c.serial == s) && is_time_child nodes e c) ns ≡ true → (p : Node) × (time_parent nodes s ≡ Some p) × (p.serial ≡ e)
  parent_of_child e s [] q = cc
  parent_of_child e s (c ∷ cs) q = by_case (or_cases ((c.serial == s) && is_time_child nodes e c) (list_any (λ (c : Node). (c.serial == s) && is_time_child nodes e c) cs) q) (parent_of_child e s cs)
    where
      by_case : ((c.serial == s) && is_time_child nodes e c ≡ true) ⊎ (list_any (λ (c : Node). (c.serial == s) && is_time_child nodes e c) cs ≡ true) → (list_any (λ (c : Node). (c.serial == s) && is_time_child nodes e c) cs ≡ true → (p : Node) × (time_parent nodes s ≡ Some p) × (p.serial ≡ e)) → (p : Node) × (time_parent nodes s ≡ Some p) × (p.serial ≡ e)
      by_case (inl t) later =
          let both = and_parts (c.serial == s) (is_time_child nodes e c) t in
          let child = and_parts (is_element c) (has_serial e (time_parent nodes c.serial)) both.1 in
          let found = parent_serial e (time_parent nodes c.serial) child.1 in
          (found.0, ap (time_parent nodes) (sym (eqb-true c.serial s both.0)) ∙ found.1, found.2)
      by_case (inr t) later = later t

  edge : (x : ℕ) (e : Node) → node_at (elements nodes) e.serial ≡ Some e → feeds_node nodes x e ≡ true → feeds nodes x e.serial ≡ true
  edge x e here t = found_any e.serial (feeds_node nodes x) (elements nodes) e here t

  -- the dependencies that are not looped have a rank
  pub is_ranked : (e : Node) → node_at (elements nodes) e.serial ≡ Some e → IsRank nodes rank e
  unfolding key following wide place place_under
  is_ranked e here = record {
    children = λ s i q.
        let listed = child_is_all nodes 0 e.serial s q in
        let more = no_more (feeds nodes) (serials (elements nodes)) s e.serial listed own (edge s e here (or_left _ _ (or_left _ _ (and_from _ _ i q)))) in
        let below = is_deeper s q in
        rank_lt s e.serial listed
        (lex (suc (length nodes)) _ _ _ _ (lex_same (suc (length nodes)) _ _ _ _ (omega (arith, more)) (omega (arith, below, depth_le s))) (omega (arith, place_le s)));
    before = λ b q.
        let listed = before_is_all nodes 0 e.serial b q in
        let more = no_more (feeds nodes) (serials (elements nodes)) b.serial e.serial listed own (edge b.serial e here (or_left _ _ (or_right _ _ (ap (has_serial b.serial) q ∙ eq-eqb b.serial b.serial refl)))) in
        let sibling = is_sibling_before b q in
        let level : (length (serials (elements nodes)) - length (closure (feeds nodes) (serials (elements nodes)) (b.serial ∷ []))) * suc (length nodes) + (length nodes - depth b.serial) ≤ (length (serials (elements nodes)) - length (closure (feeds nodes) (serials (elements nodes)) (e.serial ∷ []))) * suc (length nodes) + (length nodes - depth e.serial) = level_le _ _ _ _ (omega (arith, more)) (omega (arith, sibling.0)) in
        rank_lt b.serial e.serial listed (lex_same (suc (length nodes)) _ _ _ _ level sibling.1);
    named = λ x q c.
        let listed = sync_is_all nodes 0 x (all_items nodes e) q in
        let fewer = less (feeds nodes) (serials (elements nodes)) x e.serial listed own (edge x e here (or_right _ _ q)) c in
        rank_lt x e.serial listed
        (lex (suc (length nodes)) _ _ _ _ (lex (suc (length nodes)) _ _ _ _ (omega (arith, fewer, few (feeds nodes) (serials (elements nodes)) x)) (omega arith)) (omega (arith, place_le x)));
  }
    where
      own : has (serials (elements nodes)) e.serial ≡ true
      own = own_is_all nodes 0 e here

      level_le : (a b p q : ℕ) → a ≤ b → p ≤ q → a * suc (length nodes) + p ≤ b * suc (length nodes) + q
      level_le a b p q l r = let step : a * suc (length nodes) ≤ b * suc (length nodes) = grind arith in omega (arith, step, r)

      is_deeper : (s : ℕ) → list_any (λ (c : Node). (c.serial == s) && is_time_child nodes e.serial c) nodes ≡ true → depth e.serial < depth s
      is_deeper s q =
          let found = parent_of_child e.serial s nodes q in
          omega (arith, deeper s found.0 found.1, ap depth found.2)

      is_sibling_before : (b : Node) → previous_in_seq nodes e.serial ≡ Some b → (depth b.serial ≡ depth e.serial) × (place b.serial < place e.serial)
      is_sibling_before b q = in_seq (is_in_seq nodes e.serial) q
        where
          among : (o : Option Node) → time_parent nodes e.serial ≡ o → previous_child nodes o e.serial ≡ Some b → (depth b.serial ≡ depth e.serial) × (place b.serial < place e.serial)
          among None r t = cc
          among (Some p) r t = by_case (index_before e.serial None (time_children nodes p.serial) b t) (before_any e.serial None (time_children nodes p.serial) b t)
            where
              by_case : (None ≡ Some b) ⊎ (index b.serial (time_children nodes p.serial) < index e.serial (time_children nodes p.serial)) → (None ≡ Some b) ⊎ (list_any (λ (n : Node). n.serial == b.serial) (time_children nodes p.serial) ≡ true) → (depth b.serial ≡ depth e.serial) × (place b.serial < place e.serial)
              by_case (inl never) m = cc
              by_case (inr l) (inl never) = cc
              by_case (inr l) (inr m) =
                  let found = parent_of_child p.serial b.serial nodes (any_kept (is_time_child nodes p.serial) (λ (n : Node). n.serial == b.serial) (λ (c : Node). (c.serial == b.serial) && is_time_child nodes p.serial c) nodes (λ n u v. and_from _ _ v u) m) in
                  let of_b : depth b.serial ≡ suc (depth p.serial) = deeper b.serial found.0 found.1 ∙ ap (λ z. suc (depth z)) found.2 in
                  let of_e : depth e.serial ≡ suc (depth p.serial) = deeper e.serial p r in
                  let at_b : place_under (time_parent nodes b.serial) b.serial ≡ index b.serial (time_children nodes p.serial) = ap (λ o. place_under o b.serial) found.1 ∙ ap (λ z. index b.serial (time_children nodes z)) found.2 in
                  let at_e : place_under (time_parent nodes e.serial) e.serial ≡ index e.serial (time_children nodes p.serial) = ap (λ o. place_under o e.serial) r in
                  (of_b ∙ sym of_e, omega (arith, at_b, at_e, l))

          in_seq : (t : Bool) → cond t (previous_child nodes (time_parent nodes e.serial) e.serial) None ≡ Some b → (depth b.serial ≡ depth e.serial) × (place b.serial < place e.serial)
          in_seq true r = among (time_parent nodes e.serial) refl r
          in_seq false r = cc

  pub rank_le : (s : ℕ) → rank s ≤ length (serials (elements nodes))
  unfolding rank
  rank_le s = filter_shorter (λ y. ltb (key y) (key s)) (serials (elements nodes))

pub serials_length : (ns : List Node) → length (serials ns) ≡ length ns
serials_length [] = refl
serials_length (n ∷ ns) = ap suc (serials_length ns)

pub serials_append : (ns : List Node) (n : Node) → serials (ns ++ n ∷ []) ≡ serials ns ++ n.serial ∷ []
serials_append [] n = refl
serials_append (m ∷ ms) n = ap (λ others. m.serial ∷ others) (serials_append ms n)
