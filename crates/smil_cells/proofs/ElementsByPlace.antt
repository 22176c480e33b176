-- Elements by the places of their nodes.
use Rattle.std.proofs.Common.{◌≡◌, refl, sym, ◌∙◌, ap, subst, ℕ, zero, suc, ◌+◌, ◌-◌, ◌<◌, ◌≤◌, List, [], ◌∷◌, ◌++◌, Option, Some, None, Bool, true, false, inl, inr, arith, length, take, drop, filter, get_or, eqb-true, eq-eqb}
use Rattle.std.specs.Prelude.{◌⊎◌, ◌≢◌, ◌||◌, ◌==◌, cond, is_some, slice_get, slice_range}
use Rattle.std.specs.List.{position}
use Rattle.std.specs.List.Sorted.{IsStrictlyIncreasing}
use Rattle.std.proofs.lemmas.Bool.{cases_eq, or_cases, or_left, or_right}
use Rattle.std.proofs.lemmas.List.Kept.{AllPairs-from_increasing}
use Rattle.smil_model.specs.declared.document.Node.{Node}
use Rattle.smil_model.specs.document.Document.{elements, is_element, node_at, serials}
use Rattle.smil_model.specs.document.Closure.{has}
use Rattle.smil_model.specs.document.Edits.{place_in}
use Rattle.smil_model.specs.document.Valid.{IsDistinct, IsNumberedTree}
use Rattle.smil_laws.proofs.ClosureExact.{has_filter}
use Rattle.smil_laws.proofs.Lists.{each_at}
use Rattle.smil_laws.proofs.ListMembers.{differ_each}
use Rattle.smil_laws.proofs.DependencyRanks.{filter_has}
use Rattle.smil_tree.proofs.NodeFamilies.{node_of_place as node_of}
use Rattle.smil_tree.proofs.ChildSpans.{has_place, node_of_place, place_told}
use Rattle.smil_graph.proofs.ReachByPlace.{filter_members}
use Rattle.smil_cells.specs.Shown.{ArePut, StayIn, elements_at, nodes_of}

-- ---- which elements stand at places

abbrev stands : List Node → List ℕ → ℕ → Bool
stands nodes places s = has places (place_in nodes s)

pub found_there : (ns : List Node) (s : ℕ) → is_some (node_at ns s) ≡ true → has (serials ns) s ≡ true
found_there [] s q = q
found_there (n ∷ ns) s q = by_test (n.serial == s) q (found_there ns s)
  where
    by_test : (b : Bool) → is_some (cond b (Some n) (node_at ns s)) ≡ true → (is_some (node_at ns s) ≡ true → has (serials ns) s ≡ true) → b || has (serials ns) s ≡ true
    by_test true p below = refl
    by_test false p below = below p

-- an element whose place is in
pub stands_there : (nodes : List Node) (places : List ℕ) (s : ℕ) → is_some (node_at (elements nodes) s) ≡ true → has places (place_in nodes s) ≡ true → has (elements_at nodes places) s ≡ true
stands_there nodes places s known put = has_filter (stands nodes places) (serials (elements nodes)) s (found_there (elements nodes) s known) put

-- what stood there still does
pub still_stands : (nodes : List Node) (old new : List ℕ) → StayIn old new → (s : ℕ) → has (elements_at nodes old) s ≡ true → has (elements_at nodes new) s ≡ true
still_stands nodes old new more s q =
    let was = filter_has (stands nodes old) (serials (elements nodes)) s q in
    has_filter (stands nodes new) (serials (elements nodes)) s was.0 (more (place_in nodes s) was.1)

in_filter : (t : ℕ → Bool) (xs : List ℕ) (x : ℕ) → has xs x ≡ true → has (filter t xs) x ≡ t x
in_filter t xs x h = by_test (t x) refl (has (filter t xs) x) refl
  where
    by_test : (b : Bool) → t x ≡ b → (c : Bool) → has (filter t xs) x ≡ c → has (filter t xs) x ≡ b
    by_test true e c g = has_filter t xs x h e
    by_test false e false g = g
    by_test false e true g = let never : false ≡ true = sym e ∙ (filter_has t xs x g).1 in cc

-- they are in document order
pub in_order : (nodes : List Node) (places list : List ℕ) → list ≡ elements_at nodes places → list ≡ filter (has list) (serials (elements nodes))
in_order nodes places list is =
    is
    ∙ (filter_members (stands nodes places) (has (elements_at nodes places)) (serials (elements nodes)) (λ s h. sym (in_filter (stands nodes places) (serials (elements nodes)) s h))
    ∙ ap (λ (l : List ℕ). filter (has l) (serials (elements nodes))) (sym is))

-- ---- the place of a node

same_place : (ns : List Node) (i p : ℕ) (n m : Node) → IsDistinct ns → slice_get ns i ≡ Some n → slice_get ns p ≡ Some m → n.serial ≡ m.serial → i ≡ p
same_place [] i p n m d e f same = cc
same_place (x ∷ xs) zero zero n m d e f same = refl
same_place (x ∷ xs) zero (suc p) n m d e f same =
    let one : x ≡ n = cc in
    let apart = each_at (λ (y : Node). y.serial == x.serial ≡ false) xs p m (differ_each x.serial xs d.0) f in
    let never : true ≡ false = sym (eq-eqb m.serial x.serial (sym same ∙ ap (λ (y : Node). y.serial) (sym one))) ∙ apart in
    cc
same_place (x ∷ xs) (suc i) zero n m d e f same =
    let one : x ≡ m = cc in
    let apart = each_at (λ (y : Node). y.serial == x.serial ≡ false) xs i n (differ_each x.serial xs d.0) e in
    let never : true ≡ false = sym (eq-eqb n.serial x.serial (same ∙ ap (λ (y : Node). y.serial) (sym one))) ∙ apart in
    cc
same_place (x ∷ xs) (suc i) (suc p) n m d e f same = ap suc (same_place xs i p n m d.1 e f same)

module _ (nodes : List Node) (next : ℕ) (numbered : IsNumberedTree (record { nodes = nodes; next = next })) where
  place_is : (i : ℕ) (n : Node) → slice_get nodes i ≡ Some n → place_in nodes n.serial ≡ i
  place_is i n at = same_place nodes (place_in nodes n.serial) i n n numbered.distinct (node_of_place nodes next numbered n.serial n (node_of nodes i n numbered.distinct at)) at refl

  -- the place that was found for a serial is in
  pub put_there : (s place : ℕ) (old new : List ℕ) → Some place ≡ position (λ (n : Node). n.serial == s) nodes → ((p : ℕ) → has new p ≡ ((p == place) || has old p)) → is_some (node_at nodes s) ≡ true → has new (place_in nodes s) ≡ true
  put_there s place old new found made known =
      made (place_in nodes s)
      ∙ ap (λ (b : Bool). b || has old (place_in nodes s)) (eq-eqb (place_in nodes s) place (sym (place_told nodes next numbered s place known found)))

  pub none_there : (s : ℕ) → None ≡ position (λ (n : Node). n.serial == s) nodes → is_some (node_at nodes s) ≡ true → ⊥
  none_there s none known =
      let there = has_place nodes next numbered s known in
      let never : false ≡ true = ap (λ (o : Option ℕ). is_some o) none ∙ there in
      cc

  -- ---- a range of places

  record IsBetween (a b s : ℕ) : Type 0 where
    from : a ≤ place_in nodes s
    below : place_in nodes s < b

  record IsAt (ns : List Node) (a b s : ℕ) : Type 0 where
    place : ℕ
    node : Node
    at : slice_get ns place ≡ Some node
    serial : node.serial ≡ s
    from : a ≤ place
    below : place < b

  among : (ns : List Node) (k s : ℕ) → has (serials (take k ns)) s ≡ true → IsAt ns 0 k s
  among [] zero s q = cc
  among [] (suc k) s q = cc
  among (n ∷ ns) zero s q = cc
  among (n ∷ ns) (suc k) s q = by_case (or_cases (n.serial == s) (has (serials (take k ns)) s) q) (among ns k s)
    where
      by_case : (n.serial == s ≡ true) ⊎ (has (serials (take k ns)) s ≡ true) → (has (serials (take k ns)) s ≡ true → IsAt ns 0 k s) → IsAt (n ∷ ns) 0 (suc k) s
      by_case (inl e) rest = record { place = 0; node = n; at = refl; serial = eqb-true n.serial s e; from = omega arith; below = omega arith }
      by_case (inr r) rest =
          let found = rest r in
          let low = found.below in
          record { place = suc found.place; node = found.node; at = found.at; serial = found.serial; from = omega arith; below = omega (arith, low) }

  from_zero : (ns : List Node) → drop 0 ns ≡ ns
  from_zero [] = refl
  from_zero (n ∷ ns) = refl

  behind : (ns : List Node) (a k s : ℕ) → has (serials (take k (drop a ns))) s ≡ true → IsAt ns a (a + k) s
  behind ns zero k s q =
      let found = among ns k s (subst (λ (l : List Node). has (serials (take k l)) s ≡ true) (from_zero ns) q) in
      let low = found.below in
      record { place = found.place; node = found.node; at = found.at; serial = found.serial; from = omega arith; below = omega (arith, low) }
  behind [] (suc a) k s q = let found = among [] k s q in let never = found.at in cc
  behind (n ∷ ns) (suc a) k s q =
      let found = behind ns a k s q in
      let low = found.below in
      let high = found.from in
      record { place = suc found.place; node = found.node; at = found.at; serial = found.serial; from = omega (arith, high); below = omega (arith, low) }

  -- a node among those from one place up to another stands there
  between : (a b s : ℕ) → has (serials (slice_range nodes a b)) s ≡ true → IsBetween a b s
  between a b s q =
      let found = behind nodes a (b - a) s q in
      let is : place_in nodes s ≡ found.place = ap (place_in nodes) (sym found.serial) ∙ place_is found.place found.node found.at in
      let low = found.below in
      let high = found.from in
      record { from = omega (arith, is, high); below = omega (arith, is, low, high) }

  pub range_put : (a b s : ℕ) (part : List Node) (places : List ℕ) → slice_range nodes a b ≡ part → ((p : ℕ) → a ≤ p → p < b → has places p ≡ true) → is_some (node_at (elements nodes) s) ≡ true → has (serials part) s ≡ true → has (elements_at nodes places) s ≡ true
  range_put a b s part places is all known q =
      let it = between a b s (subst (λ (l : List Node). has (serials l) s ≡ true) (sym is) q) in
      stands_there nodes places s known (all (place_in nodes s) it.from it.below)

  -- ---- the least place taken

  abbrev standing : List ℕ → List Node → List ℕ
  standing places ns = filter (stands nodes places) (serials (elements ns))

  without_head : (places : List ℕ) (n : Node) (ns : List Node) → stands nodes places n.serial ≡ false → standing places (n ∷ ns) ≡ standing places ns
  without_head places n ns q = by_element (is_element n)
    where
      by_element : (b : Bool) → filter (stands nodes places) (serials (cond b (n ∷ elements ns) (elements ns))) ≡ standing places ns
      by_element true = ap (λ (c : Bool). cond c (n.serial ∷ standing places ns) (standing places ns)) q
      by_element false = refl

  with_head : (places : List ℕ) (n : Node) (ns : List Node) → stands nodes places n.serial ≡ true → standing places (n ∷ ns) ≡ serials (elements (n ∷ [])) ++ standing places ns
  with_head places n ns q = by_element (is_element n)
    where
      by_element : (b : Bool) → filter (stands nodes places) (serials (cond b (n ∷ elements ns) (elements ns))) ≡ serials (cond b (n ∷ []) []) ++ standing places ns
      by_element true = ap (λ (c : Bool). cond c (n.serial ∷ standing places ns) (standing places ns)) q
      by_element false = refl

  -- nodes from a place on
  abbrev AreFrom : ℕ → List Node → Type 0
  AreFrom k ns = (i : ℕ) (n : Node) → slice_get ns i ≡ Some n → place_in nodes n.serial ≡ k + i

  are_next : (k : ℕ) (n : Node) (ns : List Node) → AreFrom k (n ∷ ns) → AreFrom (suc k) ns
  are_next k n ns are i m at = let is = are (suc i) m at in omega (arith, is)

  other : (p i : ℕ) → p < i → p == i ≡ false
  other p i l = by_test (p == i) refl
    where
      by_test : (b : Bool) → p == i ≡ b → b ≡ false
      by_test true e = absurd (let same = eqb-true p i e in omega (arith, l, same))
      by_test false e = refl

  other_up : (p i : ℕ) → i < p → p == i ≡ false
  other_up p i l = by_test (p == i) refl
    where
      by_test : (b : Bool) → p == i ≡ b → b ≡ false
      by_test true e = absurd (let same = eqb-true p i e in omega (arith, l, same))
      by_test false e = refl

  module _ (p : ℕ) (ps : List ℕ) (above : (q : ℕ) → has ps q ≡ true → p < q) where
    not_in : (i : ℕ) → i ≤ p → has ps i ≡ false
    not_in i l = by_test (has ps i) refl
      where
        by_test : (b : Bool) → has ps i ≡ b → b ≡ false
        by_test true e = absurd (let low = above i e in omega (arith, l, low))
        by_test false e = refl

    -- behind the least place the others alone are told
    passed : (k : ℕ) (ns : List Node) → AreFrom k ns → p < k → standing (p ∷ ps) ns ≡ standing ps ns
    passed k [] are l = refl
    passed k (n ∷ ns) are l =
        let here = are 0 n refl in
        let low : p < place_in nodes n.serial = omega (arith, here, l) in
        by_element (is_element n) (ap (λ (b : Bool). b || has ps (place_in nodes n.serial)) (other p (place_in nodes n.serial) low)) (passed (suc k) ns (are_next k n ns are) (omega (arith, l)))
      where
        by_element : (b : Bool) → stands nodes (p ∷ ps) n.serial ≡ stands nodes ps n.serial → standing (p ∷ ps) ns ≡ standing ps ns
            → filter (stands nodes (p ∷ ps)) (serials (cond b (n ∷ elements ns) (elements ns))) ≡ filter (stands nodes ps) (serials (cond b (n ∷ elements ns) (elements ns)))
        by_element true q r = λ i. cond (q i) (n.serial ∷ r i) (r i)
        by_element false q r = r

    least : (k : ℕ) (ns : List Node) → AreFrom k ns → k ≤ p → standing (p ∷ ps) ns ≡ serials (elements (nodes_of (slice_get ns (p - k)))) ++ standing ps ns
    least k [] are l = refl
    least k (n ∷ ns) are l = by_case (cases_eq k p) (least (suc k) ns (are_next k n ns are))
      where
        here : place_in nodes n.serial ≡ k
        here = let is = are 0 n refl in omega (arith, is)

        by_case : (k ≡ p) ⊎ (k ≢ p) → (suc k ≤ p → standing (p ∷ ps) ns ≡ serials (elements (nodes_of (slice_get ns (p - suc k)))) ++ standing ps ns) → standing (p ∷ ps) (n ∷ ns) ≡ serials (elements (nodes_of (slice_get (n ∷ ns) (p - k)))) ++ standing ps (n ∷ ns)
        by_case (inl e) rest =
            let none : p - k ≡ 0 = omega (arith, e) in
            let at : place_in nodes n.serial ≡ p = here ∙ e in
            with_head (p ∷ ps) n ns (ap (λ (b : Bool). b || has ps (place_in nodes n.serial)) (eq-eqb p (place_in nodes n.serial) (sym at)))
            ∙ (ap (λ (l : List ℕ). serials (elements (n ∷ [])) ++ l) (passed (suc k) ns (are_next k n ns are) (omega (arith, e)) ∙ sym (without_head ps n ns (not_in (place_in nodes n.serial) (omega (arith, at)))))
            ∙ ap (λ (d : ℕ). serials (elements (nodes_of (slice_get (n ∷ ns) d))) ++ standing ps (n ∷ ns)) (sym none))
        by_case (inr differ) rest =
            let later : suc k ≤ p = omega (arith, l, differ) in
            let one : p - k ≡ suc (p - suc k) = omega (arith, later) in
            let low : place_in nodes n.serial < p = let at = here in omega (arith, at, later) in
            without_head (p ∷ ps) n ns (ap (λ (b : Bool). b || has ps (place_in nodes n.serial)) (other_up p (place_in nodes n.serial) low) ∙ not_in (place_in nodes n.serial) (omega (arith, low)))
            ∙ (rest later
            ∙ (ap (λ (l : List ℕ). serials (elements (nodes_of (slice_get ns (p - suc k)))) ++ l) (sym (without_head ps n ns (not_in (place_in nodes n.serial) (omega (arith, low)))))
            ∙ ap (λ (d : ℕ). serials (elements (nodes_of (slice_get (n ∷ ns) d))) ++ standing ps (n ∷ ns)) (sym one)))

  all_above : (p : ℕ) (ps : List ℕ) → ((j : ℕ) → j < length ps → p < get_or ps j 0) → (q : ℕ) → has ps q ≡ true → p < q
  all_above p [] up q h = cc
  all_above p (x ∷ xs) up q h = by_case (or_cases (x == q) (has xs q) h) (all_above p xs (λ j l. up (suc j) (omega (arith, l))) q)
    where
      by_case : (x == q ≡ true) ⊎ (has xs q ≡ true) → (has xs q ≡ true → p < q) → p < q
      by_case (inl e) rest = let same = eqb-true x q e in let low = up 0 (omega arith) in omega (arith, same, low)
      by_case (inr r) rest = rest r

  from_none : (i : ℕ) → i ≡ 0 + i
  from_none i = omega arith

  less_none : (i : ℕ) → i - 0 ≡ i
  less_none i = omega arith

  -- the element at the least place, and those at the others
  pub least_first : (p : ℕ) (ps old : List ℕ) → old ≡ p ∷ ps → IsStrictlyIncreasing old → elements_at nodes old ≡ serials (elements (nodes_of (slice_get nodes p))) ++ elements_at nodes ps
  least_first p ps old is up =
      ap (elements_at nodes) is
      ∙ (least p ps (all_above p ps (λ j l. AllPairs-from_increasing (p ∷ ps) (subst IsStrictlyIncreasing is up) 0 (suc j) 0 (omega arith) (omega (arith, l)))) 0 nodes (λ i n at. place_is i n at ∙ from_none i) (omega arith)
      ∙ ap (λ (d : ℕ). serials (elements (nodes_of (slice_get nodes d))) ++ elements_at nodes ps) (less_none p))

pub none_stand : (nodes : List Node) (places : List ℕ) → places ≡ [] → elements_at nodes places ≡ []
none_stand nodes places e = ap (elements_at nodes) e ∙ none (serials (elements nodes))
  where
    none : (xs : List ℕ) → filter (λ (x : ℕ). false) xs ≡ []
    none [] = refl
    none (x ∷ xs) = none xs

-- ---- listed nodes one after another

pub whole : {A : Type 0} (xs : List A) (k : ℕ) → length xs ≤ k → take k xs ≡ xs
whole [] zero l = refl
whole [] (suc k) l = refl
whole (x ∷ xs) zero l = absurd (omega (arith, l))
whole (x ∷ xs) (suc k) l = ap (λ ys. x ∷ ys) (whole xs k (omega (arith, l)))

taken : (xs : List ℕ) (i s : ℕ) → i < length xs → has (take (suc i) xs) s ≡ true → (has (take i xs) s ≡ true) ⊎ (get_or xs i 0 ≡ s)
taken [] i s l h = absurd (omega (arith, l))
taken (x ∷ []) zero s l h = by_case (or_cases (x == s) false h)
  where
    by_case : (x == s ≡ true) ⊎ (false ≡ true) → (false ≡ true) ⊎ (x ≡ s)
    by_case (inl e) = inr (eqb-true x s e)
    by_case (inr r) = inl r
taken (x ∷ (y ∷ ys)) zero s l h = by_case (or_cases (x == s) false h)
  where
    by_case : (x == s ≡ true) ⊎ (false ≡ true) → (false ≡ true) ⊎ (x ≡ s)
    by_case (inl e) = inr (eqb-true x s e)
    by_case (inr r) = inl r
taken (x ∷ xs) (suc i) s l h = by_case (or_cases (x == s) (has (take (suc i) xs) s) h) (taken xs i s (omega (arith, l)))
  where
    by_rest : (has (take i xs) s ≡ true) ⊎ (get_or xs i 0 ≡ s) → ((x == s) || has (take i xs) s ≡ true) ⊎ (get_or xs i 0 ≡ s)
    by_rest (inl p) = inl (or_right (x == s) (has (take i xs) s) p)
    by_rest (inr q) = inr q

    by_case : (x == s ≡ true) ⊎ (has (take (suc i) xs) s ≡ true) → (has (take (suc i) xs) s ≡ true → (has (take i xs) s ≡ true) ⊎ (get_or xs i 0 ≡ s)) → ((x == s) || has (take i xs) s ≡ true) ⊎ (get_or xs i 0 ≡ s)
    by_case (inl e) rest = inl (or_left (x == s) (has (take i xs) s) e)
    by_case (inr r) rest = by_rest (rest r)

pub none_put : (nodes : List Node) (listed places : List ℕ) → ArePut nodes (take 0 listed) places
none_put nodes [] places s h known = cc
none_put nodes (x ∷ xs) places s h known = cc

pub one_more_put : (nodes : List Node) (listed : List ℕ) (i : ℕ) (before after : List ℕ) → i < length listed → StayIn before after
    → (is_some (node_at nodes (get_or listed i 0)) ≡ true → has after (place_in nodes (get_or listed i 0)) ≡ true)
    → ArePut nodes (take i listed) before → ArePut nodes (take (i + 1) listed) after
one_more_put nodes listed i before after l more put are s h known =
    by_case (taken listed i s l (subst (λ (k : ℕ). has (take k listed) s ≡ true) (one_on i) h))
  where
    one_on : (k : ℕ) → k + 1 ≡ suc k
    one_on k = omega arith

    by_case : (has (take i listed) s ≡ true) ⊎ (get_or listed i 0 ≡ s) → has after (place_in nodes s) ≡ true
    by_case (inl p) = more (place_in nodes s) (are s p known)
    by_case (inr e) = subst (λ (k : ℕ). has after (place_in nodes k) ≡ true) e (put (subst (λ (k : ℕ). is_some (node_at nodes k) ≡ true) (sym e) known))

-- ---- places one after another

pub place_put : (start place : ℕ) (before after : List ℕ) → ((p : ℕ) → has after p ≡ ((p == place) || has before p)) → ((p : ℕ) → start ≤ p → p < place → has before p ≡ true) → (p : ℕ) → start ≤ p → p < place + 1 → has after p ≡ true
place_put start place before after made was p from below = made p ∙ by_case (cases_eq p place)
  where
    by_case : (p ≡ place) ⊎ (p ≢ place) → (p == place) || has before p ≡ true
    by_case (inl e) = or_left (p == place) (has before p) (eq-eqb p place e)
    by_case (inr differ) = or_right (p == place) (has before p) (was p from (omega (arith, below, differ)))

pub place_stays : (place : ℕ) (before after : List ℕ) → ((p : ℕ) → has after p ≡ ((p == place) || has before p)) → StayIn before after
place_stays place before after made p q = made p ∙ or_right (p == place) (has before p) q

pub nothing : (xs : List ℕ) → take 0 xs ≡ []
nothing [] = refl
nothing (x ∷ xs) = refl
