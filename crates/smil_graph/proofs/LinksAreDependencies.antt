-- Links between places are dependencies between elements, and levels tell which references are looped.
use Rattle.std.proofs.Common.{◌≡◌, refl, sym, ◌∙◌, ap, ℕ, suc, zero, ◌<◌, ◌≤◌, List, [], ◌∷◌, length, get_or, Bool, true, false, Option, Some, None, arith, inl, inr, leb}
use Rattle.std.specs.Prelude.{cond, not, ◌==◌, ◌||◌, ◌&&◌, ◌⊎◌, filter, slice_get}
use Rattle.std.specs.List.{list_any}
use Rattle.std.proofs.lemmas.Bool.{or_left, or_right, or_cases, and_parts, and_from, eqb-true, eq-eqb, ne_eqb, cases_eq, le-leb, leb-true}
use Rattle.smil_model.specs.declared.document.Node.{Node}
use Rattle.smil_model.specs.document.Document.{is_element, elements, node_at, serials}
use Rattle.smil_model.specs.document.Dependencies.{feeds, feeds_node, leads_to}
use Rattle.smil_model.specs.document.Closure.{has, rounds, closure}
use Rattle.smil_model.specs.document.Valid.{IsDistinct}
use Rattle.smil_model.specs.reach.Reach.{reads, reads_node}
use Rattle.smil_laws.proofs.ClosureExact.{is_closed, has_set}
use Rattle.smil_laws.proofs.RoundsRest.{find-serial}
use Rattle.smil_laws.proofs.DependencyRanks.{filter_has, any_elem}
use Rattle.smil_laws.proofs.Lists.{each_at}
use Rattle.smil_graph.specs.Links.{links, AreLevels, LeadsTo}
use Rattle.smil_graph.specs.Places.{at_place, IsIndex}
use Rattle.smil_graph.proofs.PlaceLists.{any_each}
use Rattle.smil_graph.proofs.NodesByPlace.{there, none_each}
use Rattle.smil_graph.proofs.DefinitionsByPlace.{any_one, same_place}

-- ---- closures

-- a test that links keep holds in the closure of a set where it holds
module _ (link : ℕ → ℕ → Bool) (all set : List ℕ) (test : ℕ → Bool) (begun : (y : ℕ) → has set y ≡ true → test y ≡ true) (kept : (x y : ℕ) → test x ≡ true → link x y ≡ true → has all y ≡ true → test y ≡ true) where
  in_rounds : (k y : ℕ) → has (rounds link all k set) y ≡ true → test y ≡ true
  in_rounds zero y q = begun y q
  in_rounds (suc k) y q =
      let parts = filter_has (λ z. has (rounds link all k set) z || list_any (λ w. link w z) (rounds link all k set)) all y q in
      by_case parts.0 (or_cases _ _ parts.1) (in_rounds k)
    where
      by_case : has all y ≡ true → (has (rounds link all k set) y ≡ true) ⊎ (list_any (λ w. link w y) (rounds link all k set) ≡ true) → ((z : ℕ) → has (rounds link all k set) z ≡ true → test z ≡ true) → test y ≡ true
      by_case a (inl d) below = below y d
      by_case a (inr d) below = let found = any_elem (λ w. link w y) (rounds link all k set) d in kept found.0 y (below found.0 found.1) found.2 a

  pub in_closure : (y : ℕ) → has (closure link all set) y ≡ true → test y ≡ true
  in_closure y q = in_rounds (suc (length all)) y q

-- ---- elements

pub any_filter : {A : Type 0} (t p : A → Bool) (xs : List A) → list_any p (filter t xs) ≡ list_any (λ x. t x && p x) xs
any_filter t p [] = refl
any_filter t p (x ∷ xs) = step (t x) (any_filter t p xs)
  where
    step : (b : Bool) → list_any p (filter t xs) ≡ list_any (λ y. t y && p y) xs → list_any p (cond b (x ∷ filter t xs) (filter t xs)) ≡ ((b && p x) || list_any (λ y. t y && p y) xs)
    step true rest = ap (λ u. p x || u) rest
    step false rest = rest

pub has_serials : (t : Node → Bool) (ns : List Node) (s : ℕ) → has (serials (filter t ns)) s ≡ list_any (λ (n : Node). t n && (n.serial == s)) ns
has_serials t [] s = refl
has_serials t (n ∷ ns) s = step (t n) (has_serials t ns s)
  where
    step : (b : Bool) → has (serials (filter t ns)) s ≡ list_any (λ (m : Node). t m && (m.serial == s)) ns → has (serials (cond b (n ∷ filter t ns) (filter t ns))) s ≡ ((b && (n.serial == s)) || list_any (λ (m : Node). t m && (m.serial == s)) ns)
    step true q = ap (λ u. (n.serial == s) || u) q
    step false q = q

-- a node somewhere passes a test that some node passes
pub any_there : (f : Node → Bool) (ns : List Node) → list_any f ns ≡ true → (i : ℕ) × (n : Node) × (slice_get ns i ≡ Some n) × (f n ≡ true)
any_there f [] q = cc
any_there f (n ∷ ns) q = by_case (or_cases (f n) (list_any f ns) q) (any_there f ns)
  where
    by_case : (f n ≡ true) ⊎ (list_any f ns ≡ true) → (list_any f ns ≡ true → (i : ℕ) × (m : Node) × (slice_get ns i ≡ Some m) × (f m ≡ true)) → (i : ℕ) × (m : Node) × (slice_get (n ∷ ns) i ≡ Some m) × (f m ≡ true)
    by_case (inl t) later = (0, n, refl, t)
    by_case (inr t) later = let found = later t in (suc found.0, found.1, found.2, found.3)

pub there_any_item : {A : Type 0} (f : A → Bool) (xs : List A) (i : ℕ) (x : A) → slice_get xs i ≡ Some x → f x ≡ true → list_any f xs ≡ true
there_any_item f [] i x a q = cc
there_any_item f (y ∷ ys) zero x a q = let one : y ≡ x = cc in or_left _ _ (ap f one ∙ q)
there_any_item f (y ∷ ys) (suc i) x a q = or_right _ _ (there_any_item f ys i x a q)

module _ (nodes : List Node) (distinct : IsDistinct nodes) where
  -- the dependency of an element, by nodes
  swap_and : (a b c : Bool) → (a && (b && c)) ≡ (b && (a && c))
  swap_and true true c = refl
  swap_and true false c = refl
  swap_and false true c = refl
  swap_and false false c = refl

  pub element_one : (f : Node → Bool) (j : ℕ) (e : Node) → slice_get nodes j ≡ Some e → list_any (λ (c : Node). (c.serial == e.serial) && f c) (elements nodes) ≡ (is_element e && f e)
  element_one f j e b =
      any_filter is_element (λ (c : Node). (c.serial == e.serial) && f c) nodes
      ∙ any_each (λ (c : Node). is_element c && ((c.serial == e.serial) && f c)) (λ (c : Node). (c.serial == e.serial) && (is_element c && f c)) nodes (λ c. swap_and (is_element c) (c.serial == e.serial) (f c))
      ∙ any_one nodes distinct (λ (c : Node). is_element c && f c) nodes j e distinct b

  pub feeds_is : (s j : ℕ) (e : Node) → slice_get nodes j ≡ Some e → feeds nodes s e.serial ≡ (is_element e && feeds_node nodes s e)
  feeds_is s = element_one (feeds_node nodes s)

  pub reads_is : (s j : ℕ) (e : Node) → slice_get nodes j ≡ Some e → reads nodes s e.serial ≡ (is_element e && reads_node nodes s e)
  reads_is s = element_one (reads_node nodes s)

  pub place_of : (index : ℕ → Option ℕ) → IsIndex nodes (node_at nodes) index → (k : ℕ) (n : Node) → slice_get nodes k ≡ Some n → index n.serial ≡ Some k
  place_of index ids k n at = by_index (index n.serial) refl
    where
      by_index : (o : Option ℕ) → index n.serial ≡ o → index n.serial ≡ Some k
      by_index None q =
          let never : false ≡ true = sym (each_at (λ (m : Node). m.serial == n.serial ≡ false) nodes k n (none_each n.serial nodes (ids.node n.serial ∙ ap (at_place nodes) q)) at) ∙ eq-eqb n.serial n.serial refl in absurd (cc)
      by_index (Some p) q =
          let m = there nodes p (ids.below n.serial p q) in
          let same : k ≡ p = same_place nodes k p n m.0 distinct at m.1 (find-serial n.serial nodes m.0 (ids.node n.serial ∙ ap (at_place nodes) q ∙ m.1)) in
          q ∙ ap Some (sym same)

  pub all_has : (j : ℕ) (e : Node) → slice_get nodes j ≡ Some e → is_element e ≡ true → has (serials (elements nodes)) e.serial ≡ true
  all_has j e b is = has_serials is_element nodes e.serial ∙ there_any_item (λ (n : Node). is_element n && (n.serial == e.serial)) nodes j e b (and_from _ _ is (eq-eqb e.serial e.serial refl))

  pub all_there : (s : ℕ) → has (serials (elements nodes)) s ≡ true → (j : ℕ) × (e : Node) × (slice_get nodes j ≡ Some e) × (is_element e ≡ true) × (e.serial ≡ s)
  all_there s q =
      let found = any_there (λ (n : Node). is_element n && (n.serial == s)) nodes (sym (has_serials is_element nodes s) ∙ q) in
      let parts = and_parts (is_element found.1) ((found.1).serial == s) found.3 in
      (found.0, found.1, found.2, parts.0, eqb-true (found.1).serial s parts.1)

  -- ---- levels

  module _ (feeders : List (List ℕ)) (levels : List ℕ) (ranked : AreLevels feeders levels) (linked : (i j : ℕ) (x e : Node) → slice_get nodes i ≡ Some x → slice_get nodes j ≡ Some e → links feeders j i ≡ feeds nodes x.serial e.serial) (from : (i j : ℕ) → links feeders j i ≡ true → (i < length nodes) × (j < length nodes)) where
    level : ℕ → ℕ
    level i = get_or levels i 0

    leads_at : ℕ → Option Node → Bool
    leads_at s None = false
    leads_at s (Some n) = leads_to nodes s n.serial

    -- where a link can be gone back, its beginning leads to its end
    gone_back : (i j : ℕ) (x e : Node) → slice_get nodes i ≡ Some x → slice_get nodes j ≡ Some e → is_element e ≡ true → LeadsTo feeders i j → leads_to nodes e.serial x.serial ≡ true
    unfolding leads_at
    gone_back i j x e a b is way = sym (ap (leads_at e.serial) a) ∙ by_test (leads_at e.serial (slice_get nodes i)) refl
      where
        own : leads_at e.serial (slice_get nodes j) ≡ true
        own = ap (leads_at e.serial) b ∙ has_set (feeds nodes) (serials (elements nodes)) (e.serial ∷ []) e.serial (all_has j e b is) (or_left _ _ (eq-eqb e.serial e.serial refl))

        step : (k l : ℕ) → leads_at e.serial (slice_get nodes k) ≡ true → links feeders l k ≡ true → leads_at e.serial (slice_get nodes l) ≡ true
        step k l t r =
            let bounds = from k l r in
            let m = there nodes k bounds.0 in
            let n = there nodes l bounds.1 in
            let dependency : feeds nodes (m.0).serial (n.0).serial ≡ true = sym (linked k l m.0 n.0 m.1 n.1) ∙ r in
            let is_n = and_parts (is_element n.0) (feeds_node nodes (m.0).serial n.0) (sym (feeds_is (m.0).serial l n.0 n.1) ∙ dependency) in
            ap (leads_at e.serial) n.1
            ∙ is_closed (feeds nodes) (serials (elements nodes)) (e.serial ∷ []) (m.0).serial (n.0).serial (sym (ap (leads_at e.serial) m.1) ∙ t) dependency (all_has l n.0 n.1 is_n.0)

        -- what is not led to comes from none that is
        back : (k l : ℕ) → not (leads_at e.serial (slice_get nodes k)) ≡ true → links feeders k l ≡ true → (t : Bool) → leads_at e.serial (slice_get nodes l) ≡ t → not t ≡ true
        back k l r q false s = refl
        back k l r q true s = sym (ap not (step l k s q)) ∙ r

        by_test : (t : Bool) → leads_at e.serial (slice_get nodes i) ≡ t → leads_at e.serial (slice_get nodes i) ≡ true
        by_test true q = q
        by_test false q =
            let never : not true ≡ true = sym (ap not own) ∙ way (λ k. not (leads_at e.serial (slice_get nodes k))) (ap not q) (λ k l r s. back k l r s (leads_at e.serial (slice_get nodes l)) refl) in
            absurd (cc)

    -- what an element leads to is on its level or above
    high : ℕ → Option ℕ → Bool
    high j None = false
    high j (Some k) = leb (level j) (level k)

    not_lower : (index : ℕ → Option ℕ) → IsIndex nodes (node_at nodes) index → (i j : ℕ) (x e : Node) → slice_get nodes i ≡ Some x → slice_get nodes j ≡ Some e → leads_to nodes e.serial x.serial ≡ true → level j ≤ level i
    unfolding high level
    not_lower index ids i j x e a b way =
        leb-true (level j) (level i) (sym (ap (high j) (place_of index ids i x a)) ∙ in_closure (feeds nodes) (serials (elements nodes)) (e.serial ∷ []) (λ s. high j (index s)) begun kept x.serial way)
      where
        begun : (y : ℕ) → has (e.serial ∷ []) y ≡ true → high j (index y) ≡ true
        begun y q = by_case (or_cases (e.serial == y) false q)
          where
            by_case : (e.serial == y ≡ true) ⊎ (false ≡ true) → high j (index y) ≡ true
            by_case (inl d) = ap (λ s. high j (index s)) (sym (eqb-true e.serial y d)) ∙ ap (high j) (place_of index ids j e b) ∙ le-leb (level j) (level j) (omega arith)
            by_case (inr d) = cc

        kept : (y z : ℕ) → high j (index y) ≡ true → feeds nodes y z ≡ true → has (serials (elements nodes)) z ≡ true → high j (index z) ≡ true
        kept y z t r h = by_index (index y) refl (all_there z h)
          where
            by_index : (o : Option ℕ) → index y ≡ o → (l : ℕ) × (n : Node) × (slice_get nodes l ≡ Some n) × (is_element n ≡ true) × (n.serial ≡ z) → high j (index z) ≡ true
            by_index None q found = let never : false ≡ true = sym (ap (high j) q) ∙ t in absurd (cc)
            by_index (Some k) q found =
                let m = there nodes k (ids.below y k q) in
                let serial : (m.0).serial ≡ y = find-serial y nodes m.0 (ids.node y ∙ ap (at_place nodes) q ∙ m.1) in
                let link : links feeders found.0 k ≡ true = linked k found.0 m.0 found.1 m.1 found.2 ∙ ap (λ u. feeds nodes u (found.1).serial) serial ∙ ap (feeds nodes y) found.4 ∙ r in
                let low : level j ≤ level k = leb-true (level j) (level k) (sym (ap (high j) q) ∙ t) in
                ap (λ u. high j (index u)) (sym found.4) ∙ ap (high j) (place_of index ids found.0 found.1 found.2) ∙ le-leb (level j) (level found.0) (omega (arith, low, ranked.falling found.0 k link))

    -- a reference is looped where it stays on its level
    pub looped_is : (index : ℕ → Option ℕ) → IsIndex nodes (node_at nodes) index → (i j : ℕ) (x e : Node) → slice_get nodes i ≡ Some x → slice_get nodes j ≡ Some e → is_element e ≡ true → links feeders j i ≡ true → (get_or levels i 0 == get_or levels j 0) ≡ leads_to nodes e.serial x.serial
    unfolding level
    looped_is index ids i j x e a b is link = by_case (cases_eq (get_or levels i 0) (get_or levels j 0)) (leads_to nodes e.serial x.serial) refl
      where
        by_case : (get_or levels i 0 ≡ get_or levels j 0) ⊎ (get_or levels i 0 ≡ get_or levels j 0 → ⊥) → (t : Bool) → leads_to nodes e.serial x.serial ≡ t → (get_or levels i 0 == get_or levels j 0) ≡ leads_to nodes e.serial x.serial
        by_case (inl same) t q = eq-eqb (get_or levels i 0) (get_or levels j 0) same ∙ sym (gone_back i j x e a b is (ranked.looped j i link (sym same)))
        by_case (inr apart) true q = absurd (apart (omega (arith, ranked.falling j i link, not_lower index ids i j x e a b q)))
        by_case (inr apart) false q = ne_eqb (get_or levels i 0) (get_or levels j 0) apart ∙ sym q
