-- The ranks of elements are listed one after another.
use Rattle.std.proofs.Common.{◌≡◌, refl, sym, ◌∙◌, ap, subst, ℕ, suc, ◌+◌, ◌<◌, ◌≤◌, List, [], ◌∷◌, length, take, drop, get_or, Option, Some, None, Bool, true, false, arith, inl, inr}
use mathlib.Core.Bool.{and-false}
use Rattle.std.specs.Prelude.{◌⊎◌, ◌==◌, ◌||◌, ◌&&◌, cond, filter, is_some, option_map, slice_get}
use Rattle.std.specs.List.{list_any, position}
use Rattle.std.proofs.lemmas.Bool.{and_from, and_parts, or_cases, or_left, or_right, eqb-true, eq-eqb}
use Rattle.std.proofs.lemmas.List.{take_all}
use Rattle.std.proofs.lemmas.List.Folds.{list_any_more}
use Rattle.std.proofs.lemmas.List.Quantifiers.{position-Some}
use Rattle.std.proofs.lemmas.List.Sorted.{list_any-IsPermutation}
use Rattle.smil_model.specs.declared.diary.Happening.{Happening}
use Rattle.smil_model.specs.declared.diary.Happening.TheVariants as happening
use Rattle.smil_model.specs.declared.diary.LogEntry.{LogEntry}
use Rattle.smil_model.specs.declared.diary.Step.{Step}
use Rattle.smil_model.specs.declared.diary.Step.TheVariants.{Began, Repeated, Ended, Cut, Paused, Resumed, Deferred, Passed, Logged}
use Rattle.smil_model.specs.declared.document.Node.{Node}
use Rattle.smil_model.specs.declared.interval.Interval.{Interval}
use Rattle.smil_model.specs.document.Document.{elements, is_below, is_element, is_within, node_at, serials}
use Rattle.smil_model.specs.document.Closure.{has}
use Rattle.smil_model.specs.document.Valid.{IsDistinct}
use Rattle.smil_model.specs.reach.Reach.{is_option, key_of, logged_key, logged_subject, pressed, reads, subject, subject_of, waiters}
use Rattle.smil_concern_laws.specs.Concerned.{is_concerned_by_happening, is_concerned_by_logged, is_concerned_by_step, is_concerned_through, is_moved}
use Rattle.smil_laws.proofs.LineageParents.{same_eqb}
use Rattle.smil_laws.proofs.DependencyRanks.{any_elem}
use Rattle.smil_graph.specs.Graph.{IsGraphOrder, has_rank, readers_of}
use Rattle.smil_graph.proofs.GraphTables.{place_is}
use Rattle.smil_graph.proofs.GraphAnswers.{element_at, only_element}
use Rattle.smil_graph.proofs.LinksAreDependencies.{any_filter, any_there, there_any_item}
use Rattle.smil_stretch.proofs.NodesAbove.{known_element, lineage_before}
use Rattle.smil_past.proofs.KnownNodes.{known_node}
use Rattle.smil_cells.specs.Evaluated.{acts_on, is_container_of, is_moved_container}
use Rattle.smil_nodes.specs.Noted.{AreNoted, has_item, has_moved_item, is_below_or_reader, is_concerned_by_heard, is_self_or_reader}
use Rattle.smil_model.proofs.FirstPlaces.{position_cons}
use Rattle.smil_graph.proofs.RowsBuilt.{assoc, right}
use Rattle.smil_tree.proofs.InsertPlaces.{both_ways}
use Rattle.smil_tree.proofs.NodeFamilies.{node_of_place}

-- ---- a rank in an order

-- what has a rank stands at it
pub at_rank : (order : List ℕ) (s r : ℕ) → position (λ t. t == s) order ≡ Some r → get_or order r 0 ≡ s
at_rank order s r at = let found = position-Some (λ t. t == s) order r 0 at in eqb-true (get_or order r 0) s found.1

pub below : (order : List ℕ) (s r : ℕ) → position (λ t. t == s) order ≡ Some r → r < length order
below order s r at = let found = position-Some (λ t. t == s) order r 0 at in found.0

-- what is in an order has a rank in it
is_placed : (xs : List ℕ) (s : ℕ) → is_some (position (λ t. t == s) xs) ≡ has xs s
is_placed [] s = refl
is_placed (x ∷ xs) s = ap is_some (position_cons (λ t. t == s) x xs) ∙ step (x == s) (position (λ t. t == s) xs) (is_placed xs s)
  where
    step : (b : Bool) (o : Option ℕ) → is_some o ≡ has xs s → is_some (cond b (Some 0) (option_map suc o)) ≡ (b || has xs s)
    step true o q = refl
    step false None q = q
    step false (Some k) q = q

pub known_serial : (s : ℕ) (ns : List Node) → has (serials ns) s ≡ is_some (node_at ns s)
known_serial s [] = refl
known_serial s (n ∷ ns) = step (n.serial == s) (known_serial s ns)
  where
    step : (b : Bool) → has (serials ns) s ≡ is_some (node_at ns s) → (b || has (serials ns) s) ≡ is_some (cond b (Some n) (node_at ns s))
    step true q = refl
    step false q = q

-- the elements are those that have a rank
pub ranked : (nodes : List Node) (order : List ℕ) (s : ℕ) → IsGraphOrder nodes order → is_some (position (λ t. t == s) order) ≡ is_some (node_at (elements nodes) s)
ranked nodes order s is =
    is_placed order s
    ∙ sym (list_any-IsPermutation (λ t. t == s) (serials (elements nodes)) order is.all)
    ∙ known_serial s (elements nodes)

-- ---- lists that grow

pub take_none : {A : Type 0} (xs : List A) → take 0 xs ≡ []
take_none [] = refl
take_none (x ∷ xs) = refl

module _ (order : List ℕ) where
  -- nothing more is listed
  pub none_noted : (test : ℕ → Bool) (old : List ℕ) → ((s r : ℕ) → position (λ t. t == s) order ≡ Some r → test s ≡ false) → AreNoted order test old old
  none_noted test old none = record {
    listed = λ s r at. right (has old r) ∙ ap (λ b. has old r || b) (sym (none s r at));
    ranks = λ r q. inl q;
  }

  -- one rank more
  pub one_noted : (serial rank : ℕ) (old new : List ℕ) → position (λ t. t == serial) order ≡ Some rank → ((r : ℕ) → has new r ≡ ((r == rank) || has old r)) → AreNoted order (λ s. serial == s) old new
  one_noted serial rank old new at put = record {
    listed = λ s r at_s. put r ∙ turn (r == rank) (has old r) ∙ ap (λ b. has old r || b) (same s r at_s (r == rank) refl (serial == s) refl);
    ranks = λ r q. by_case r (or_cases (r == rank) (has old r) (sym (put r) ∙ q));
  }
    where
      turn : (a b : Bool) → (a || b) ≡ (b || a)
      turn true true = refl
      turn true false = refl
      turn false true = refl
      turn false false = refl

      same : (s r : ℕ) → position (λ t. t == s) order ≡ Some r → (a : Bool) → r == rank ≡ a → (b : Bool) → serial == s ≡ b → a ≡ b
      same s r at_s true p true q = refl
      same s r at_s false p false q = refl
      same s r at_s true p false q =
          let one : serial ≡ s = sym (at_rank order serial rank at) ∙ ap (λ k. get_or order k 0) (sym (eqb-true r rank p)) ∙ at_rank order s r at_s in
          let never : true ≡ false = sym (eq-eqb serial s one) ∙ q in
          cc
      same s r at_s false p true q =
          let both : Some rank ≡ Some r = sym at ∙ ap (λ k. position (λ t. t == k) order) (eqb-true serial s q) ∙ at_s in
          let one : r ≡ rank = cc in
          let never : true ≡ false = sym (eq-eqb r rank one) ∙ p in
          cc

      by_case : (r : ℕ) → (r == rank ≡ true) ⊎ (has old r ≡ true) → (has old r ≡ true) ⊎ (r < length order)
      by_case r (inl e) = let one = eqb-true r rank e in let low = below order serial rank at in inr (omega (arith, one, low))
      by_case r (inr q) = inl q

  -- the same by a test that agrees on all that has a rank
  pub noted_by : (p q : ℕ → Bool) (old new : List ℕ) → ((s r : ℕ) → position (λ t. t == s) order ≡ Some r → p s ≡ q s) → AreNoted order p old new → AreNoted order q old new
  noted_by p q old new same noted = record {
    listed = λ s r at. noted.listed s r at ∙ ap (λ b. has old r || b) (same s r at);
    ranks = noted.ranks;
  }

  -- more and more is listed
  pub noted_then : (p q : ℕ → Bool) (old mid new : List ℕ) → AreNoted order p old mid → AreNoted order q mid new → AreNoted order (λ s. p s || q s) old new
  noted_then p q old mid new first second = record {
    listed = λ s r at. second.listed s r at ∙ ap (λ b. b || q s) (first.listed s r at) ∙ assoc (has old r) (p s) (q s);
    ranks = λ r is. by_case r (second.ranks r is);
  }
    where
      by_case : (r : ℕ) → (has mid r ≡ true) ⊎ (r < length order) → (has old r ≡ true) ⊎ (r < length order)
      by_case r (inl is) = first.ranks r is
      by_case r (inr low) = inr low

  -- ---- a list one after another

  module _ {A : Type 0} (test : ℕ → A → Bool) (xs : List A) where
    pub none_taken : (old : List ℕ) → AreNoted order (λ s. list_any (test s) (take 0 xs)) old old
    none_taken old = none_noted (λ s. list_any (test s) (take 0 xs)) old (λ s r at. ap (list_any (test s)) (take_none xs))

    pub more_noted : (k : ℕ) (d : A) (old now new : List ℕ) → k < length xs → AreNoted order (λ s. list_any (test s) (take k xs)) old now → AreNoted order (λ s. test s (get_or xs k d)) now new → AreNoted order (λ s. list_any (test s) (take (k + 1) xs)) old new
    more_noted k d old now new l so_far one =
        noted_by (λ s. list_any (test s) (take k xs) || test s (get_or xs k d)) (λ s. list_any (test s) (take (k + 1) xs)) old new
        (λ s r at. sym (list_any_more (test s) xs k d l))
        (noted_then (λ s. list_any (test s) (take k xs)) (λ s. test s (get_or xs k d)) old now new so_far one)

    pub all_noted : (k : ℕ) (old new : List ℕ) → length xs ≤ k → AreNoted order (λ s. list_any (test s) (take k xs)) old new → AreNoted order (λ s. list_any (test s) xs) old new
    all_noted k old new l noted = noted_by (λ s. list_any (test s) (take k xs)) (λ s. list_any (test s) xs) old new (λ s r at. ap (list_any (test s)) (take_all k xs l)) noted

-- ---- ranks of serials

-- the rank of one serial is that of no other
rank_is : (order : List ℕ) (s r x : ℕ) → position (λ t. t == s) order ≡ Some r → has_rank order r x ≡ (x == s)
rank_is order s r x at = by_test (x == s) refl
  where
    by_place : (o : Option ℕ) → position (λ t. t == x) order ≡ o → x == s ≡ false → is_option r o ≡ false
    by_place None q other = refl
    by_place (Some k) q other = by_rank (r == k) refl
      where
        by_rank : (t : Bool) → r == k ≡ t → t ≡ false
        by_rank false e = refl
        by_rank true e =
            let one : x ≡ s = sym (at_rank order x k q) ∙ ap (λ n. get_or order n 0) (sym (eqb-true r k e)) ∙ at_rank order s r at in
            let never : true ≡ false = sym (eq-eqb x s one) ∙ other in
            cc

    by_test : (t : Bool) → x == s ≡ t → has_rank order r x ≡ t
    by_test true q = ap (λ y. has_rank order r y) (eqb-true x s q) ∙ ap (is_option r) at ∙ eq-eqb r r refl
    by_test false q = by_place (position (λ t. t == x) order) refl q

-- the ranks of serials are listed
pub ranks_noted : (order serials ranks old new : List ℕ) → ((r : ℕ) → has ranks r ≡ list_any (has_rank order r) serials) → ((r : ℕ) → has new r ≡ (has old r || has ranks r)) → AreNoted order (has serials) old new
ranks_noted order serials ranks old new those told = record {
  listed = λ s r at. told r ∙ ap (λ t. has old r || t) (those r ∙ any_rank serials s r at);
  ranks = λ r on. by_case r (or_cases (has old r) (has ranks r) (sym (told r) ∙ on));
}
  where
    any_rank : (xs : List ℕ) (s r : ℕ) → position (λ t. t == s) order ≡ Some r → list_any (has_rank order r) xs ≡ has xs s
    any_rank [] s r at = refl
    any_rank (x ∷ xs) s r at = ap (λ t. t || list_any (has_rank order r) xs) (rank_is order s r x at) ∙ ap (λ t. (x == s) || t) (any_rank xs s r at)

    by_case : (r : ℕ) → (has old r ≡ true) ⊎ (has ranks r ≡ true) → (has old r ≡ true) ⊎ (r < length order)
    by_case r (inl was) = inl was
    by_case r (inr q) =
        let one = any_elem (has_rank order r) serials (sym (those r) ∙ q) in
        inr (below order one.0 r (place_is r (position (λ t. t == one.0) order) one.2))

-- ---- of the elements of a document

has_kept : (p : ℕ → Bool) (xs : List ℕ) (s : ℕ) → has (filter p xs) s ≡ (has xs s && p s)
has_kept p [] s = refl
has_kept p (x ∷ xs) s = step (p x) refl (x == s) refl (has_kept p xs s)
  where
    step : (t : Bool) → p x ≡ t → (b : Bool) → x == s ≡ b → has (filter p xs) s ≡ (has xs s && p s) → has (cond t (x ∷ filter p xs) (filter p xs)) s ≡ ((b || has xs s) && p s)
    step true e true q rest = ap (λ u. u || has (filter p xs) s) q ∙ sym e ∙ ap p (eqb-true x s q)
    step true e false q rest = ap (λ u. u || has (filter p xs) s) q ∙ rest
    step false e true q rest = rest ∙ none (has xs s) (ap p (sym (eqb-true x s q)) ∙ e)
      where
        none : (u : Bool) → p s ≡ false → (u && p s) ≡ p s
        none true f = refl
        none false f = sym f
    step false e false q rest = rest

module _ (nodes : List Node) (order : List ℕ) (is : IsGraphOrder nodes order) where
  is_known : (s : ℕ) (b : Bool) → is_some (position (λ t. t == s) order) ≡ b → is_some (node_at (elements nodes) s) ≡ b
  is_known s b at = sym (ranked nodes order s is) ∙ at

  pub known : (s r : ℕ) → position (λ t. t == s) order ≡ Some r → is_some (node_at (elements nodes) s) ≡ true
  known s r at = is_known s true (ap is_some at)

  -- an element is a node
  pub node_known : (tree : List Node) (s : ℕ) → nodes ≡ tree → is_some (position (λ t. t == s) order) ≡ true → is_some (node_at tree s) ≡ true
  node_known tree s same at = ap (λ ns. is_some (node_at ns s)) (sym same) ∙ known_node nodes s (is_known s true at)

  -- a serial of no element is passed over
  pub element_passed : (x : ℕ) (old : List ℕ) → position (λ t. t == x) order ≡ None → AreNoted order (is_self_or_reader nodes x) old old
  element_passed x old at = none_noted order (is_self_or_reader nodes x) old (λ s r at_s. ap (λ b. b && ((x == s) || reads nodes x s)) (is_known x false (ap is_some at)))

  -- an element and its readers
  pub element_noted : (x rank : ℕ) (readers old mid new : List ℕ) → position (λ t. t == x) order ≡ Some rank → readers ≡ readers_of nodes x → ((r : ℕ) → has mid r ≡ ((r == rank) || has old r)) → AreNoted order (has readers) mid new → AreNoted order (is_self_or_reader nodes x) old new
  element_noted x rank readers old mid new at those put noted =
      noted_by order (λ s. (x == s) || has readers s) (is_self_or_reader nodes x) old new same
      (noted_then order (λ s. x == s) (has readers) old mid new (one_noted order x rank old mid at put) noted)
    where
      reads_it : (s r : ℕ) → position (λ t. t == s) order ≡ Some r → has readers s ≡ reads nodes x s
      reads_it s r at_s =
          ap (λ xs. has xs s) those
          ∙ has_kept (reads nodes x) (serials (elements nodes)) s
          ∙ ap (λ b. b && reads nodes x s) (known_serial s (elements nodes) ∙ known s r at_s)

      same : (s r : ℕ) → position (λ t. t == s) order ≡ Some r → ((x == s) || has readers s) ≡ is_self_or_reader nodes x s
      same s r at_s =
          ap (λ b. (x == s) || b) (reads_it s r at_s)
          ∙ sym (ap (λ b. b && ((x == s) || reads nodes x s)) (known x rank at))

  -- an element alone; nothing where there is none
  pub alone_noted : (x : ℕ) (old new : List ℕ) → AreNoted order (λ s. x == s) old new → AreNoted order (λ s. is_some (node_at (elements nodes) x) && (x == s)) old new
  alone_noted x old new noted = noted_by order (λ s. x == s) (λ s. is_some (node_at (elements nodes) x) && (x == s)) old new (λ s r at. same s r at (x == s) refl) noted
    where
      same : (s r : ℕ) → position (λ t. t == s) order ≡ Some r → (t : Bool) → x == s ≡ t → t ≡ (is_some (node_at (elements nodes) x) && t)
      same s r at true q = sym (ap (λ b. b && true) (ap (λ y. is_some (node_at (elements nodes) y)) (eqb-true x s q) ∙ known s r at))
      same s r at false q = sym (and-false (is_some (node_at (elements nodes) x)))

-- ---- the nodes within a node

-- a node with this serial passes
pub any_known : (f : Node → Bool) (ns : List Node) (s : ℕ) → is_some (node_at ns s) ≡ true → ((n : Node) → n.serial ≡ s → f n ≡ true) → list_any f ns ≡ true
any_known f [] s q t = cc
any_known f (n ∷ ns) s q t = by_test (n.serial == s) refl q (λ r. any_known f ns s r t)
  where
    by_test : (b : Bool) → n.serial == s ≡ b → is_some (cond b (Some n) (node_at ns s)) ≡ true → (is_some (node_at ns s) ≡ true → list_any f ns ≡ true) → (f n || list_any f ns) ≡ true
    by_test true e r later = or_left _ _ (t n (eqb-true n.serial s e))
    by_test false e r later = or_right _ _ (later r)

module _ (nodes : List Node) (distinct : IsDistinct nodes) (x s : ℕ) where
  abbrev of_below : Node → Bool
  of_below n = is_below nodes x n.serial && is_self_or_reader nodes n.serial s

  abbrev of_reader : Node → Bool
  of_reader b = is_below nodes x b.serial && reads nodes b.serial s

  -- a node within another is that or below it
  is_own_or_below : (i : ℕ) (n : Node) → slice_get nodes i ≡ Some n → is_within nodes x n.serial ≡ ((n.serial == x) || is_below nodes x n.serial)
  is_own_or_below i n here =
      let line = lineage_before nodes i n distinct here in
      ap (list_any (λ (a : Node). a.serial == x)) line
      ∙ ap (λ b. (n.serial == x) || b) (sym (ap (λ (l : List Node). list_any (λ (a : Node). a.serial == x) (drop 1 l)) line))

  pub own_or_below : is_some (node_at nodes s) ≡ true → is_within nodes x s ≡ ((s == x) || is_below nodes x s)
  own_or_below known = from (any_there (λ (n : Node). n.serial == s) nodes (any_known (λ (n : Node). n.serial == s) nodes s known (λ n e. eq-eqb n.serial s e)))
    where
      from : ((i : ℕ) × (n : Node) × (slice_get nodes i ≡ Some n) × ((n.serial == s) ≡ true)) → is_within nodes x s ≡ ((s == x) || is_below nodes x s)
      from at = subst (λ t. is_within nodes x t ≡ ((t == x) || is_below nodes x t)) (eqb-true (at.1).serial s at.3) (is_own_or_below at.0 at.1 at.2)

  below_there : is_below_or_reader nodes x s ≡ list_any of_below nodes
  below_there = any_filter (λ (n : Node). is_below nodes x n.serial) (λ (n : Node). is_self_or_reader nodes n.serial s) nodes

  to_concerned : is_below_or_reader nodes x s ≡ true → (is_below nodes x s || list_any of_reader (elements nodes)) ≡ true
  to_concerned q = found (any_there of_below nodes (sym below_there ∙ q))
    where
      found : ((i : ℕ) × (n : Node) × (slice_get nodes i ≡ Some n) × (of_below n ≡ true)) → (is_below nodes x s || list_any of_reader (elements nodes)) ≡ true
      found at =
          let n = at.1 in
          let parts = and_parts (is_below nodes x n.serial) (is_self_or_reader nodes n.serial s) at.3 in
          let others = and_parts (is_some (node_at (elements nodes) n.serial)) ((n.serial == s) || reads nodes n.serial s) parts.1 in
          by_case (or_cases (n.serial == s) (reads nodes n.serial s) others.1) parts.0 others.0
        where
          by_case : (((at.1).serial == s) ≡ true) ⊎ (reads nodes (at.1).serial s ≡ true) → is_below nodes x (at.1).serial ≡ true → is_some (node_at (elements nodes) (at.1).serial) ≡ true → (is_below nodes x s || list_any of_reader (elements nodes)) ≡ true
          by_case (inl e) below is = or_left _ _ (ap (is_below nodes x) (sym (eqb-true (at.1).serial s e)) ∙ below)
          by_case (inr r) below is =
              or_right _ _
              (any_filter is_element of_reader nodes
              ∙ there_any_item (λ (b : Node). is_element b && of_reader b) nodes at.0 at.1 at.2
              (and_from _ _ (known_element nodes at.0 at.1 distinct at.2 is) (and_from _ _ below r)))

  from_concerned : is_some (node_at (elements nodes) s) ≡ true → (is_below nodes x s || list_any of_reader (elements nodes)) ≡ true → is_below_or_reader nodes x s ≡ true
  from_concerned known_s q = by_case (or_cases (is_below nodes x s) (list_any of_reader (elements nodes)) q)
    where
      self : is_below nodes x s ≡ true → (n : Node) → n.serial ≡ s → of_below n ≡ true
      self below n e =
          and_from _ _ (ap (is_below nodes x) e ∙ below)
          (and_from _ _ (ap (λ k. is_some (node_at (elements nodes) k)) e ∙ known_s) (or_left _ _ (eq-eqb n.serial s e)))

      reader : ((i : ℕ) × (n : Node) × (slice_get nodes i ≡ Some n) × ((is_element n && of_reader n) ≡ true)) → list_any of_below nodes ≡ true
      reader at =
          let n = at.1 in
          let parts = and_parts (is_element n) (of_reader n) at.3 in
          let both = and_parts (is_below nodes x n.serial) (reads nodes n.serial s) parts.1 in
          let is : is_some (node_at (elements nodes) n.serial) ≡ true =
          ap is_some (element_at nodes n.serial distinct ∙ ap only_element (node_of_place nodes at.0 n distinct at.2)) ∙ ap (λ t. is_some (cond t (Some n) None)) parts.0 in
          there_any_item of_below nodes at.0 n at.2 (and_from _ _ both.0 (and_from _ _ is (or_right _ _ both.1)))

      by_case : (is_below nodes x s ≡ true) ⊎ (list_any of_reader (elements nodes) ≡ true) → is_below_or_reader nodes x s ≡ true
      by_case (inl below) = below_there ∙ any_known of_below nodes s (known_node nodes s known_s) (self below)
      by_case (inr r) = below_there ∙ reader (any_there (λ (b : Node). is_element b && of_reader b) nodes (sym (any_filter is_element of_reader nodes) ∙ r))

  -- an element itself, what is below it, and what reads that
  pub within_is : is_some (node_at (elements nodes) s) ≡ true → ((s == x) || is_below_or_reader nodes x s) ≡ (is_within nodes x s || list_any of_reader (elements nodes))
  within_is known_s =
      ap (λ t. (s == x) || t) (both_ways _ _ to_concerned (from_concerned known_s))
      ∙ sym (assoc (s == x) (is_below nodes x s) (list_any of_reader (elements nodes)))
      ∙ ap (λ t. t || list_any of_reader (elements nodes)) (sym (own_or_below (known_node nodes s known_s)))

-- ---- what a step concerns

-- of a step on an element
module _ (nodes : List Node) (log : List LogEntry) (before : ℕ → Option Interval) (x s : ℕ) where
  acted_is : (step : Step) → acts_on step ≡ Some x → is_concerned_through nodes log (key_of log step) (subject_of log step) step s ≡ (is_some (node_at (elements nodes) x) && is_concerned_by_step nodes x step s)
  acted_is (Began who begin) on = let one : who ≡ x = cc in ap (λ y. is_some (node_at (elements nodes) y) && is_concerned_by_step nodes y (Began who begin) s) one
  acted_is (Repeated who start) on = let one : who ≡ x = cc in ap (λ y. is_some (node_at (elements nodes) y) && is_concerned_by_step nodes y (Repeated who start) s) one
  acted_is (Ended who end') on = let one : who ≡ x = cc in ap (λ y. is_some (node_at (elements nodes) y) && is_concerned_by_step nodes y (Ended who end') s) one
  acted_is (Cut who) on = let one : who ≡ x = cc in ap (λ y. is_some (node_at (elements nodes) y) && is_concerned_by_step nodes y (Cut who) s) one
  acted_is (Paused who) on = let one : who ≡ x = cc in ap (λ y. is_some (node_at (elements nodes) y) && is_concerned_by_step nodes y (Paused who) s) one
  acted_is (Resumed who) on = let one : who ≡ x = cc in ap (λ y. is_some (node_at (elements nodes) y) && is_concerned_by_step nodes y (Resumed who) s) one
  acted_is (Deferred who begin) on = let one : who ≡ x = cc in ap (λ y. is_some (node_at (elements nodes) y) && is_concerned_by_step nodes y (Deferred who begin) s) one
  acted_is (Passed who begin) on = let one : who ≡ x = cc in ap (λ y. is_some (node_at (elements nodes) y) && is_concerned_by_step nodes y (Passed who begin) s) one
  acted_is (Logged place) on = cc

  -- what it concerns, and the container
  pub acted_noted : (step : Step) → acts_on step ≡ Some x → (is_concerned_through nodes log (key_of log step) (subject_of log step) step s || is_container_of nodes before step (acts_on step) s) ≡ (is_some (node_at (elements nodes) x) && (is_concerned_by_step nodes x step s || is_moved_container nodes before step x s))
  acted_noted step on =
      ap (λ t. t || is_container_of nodes before step (acts_on step) s) (acted_is step on)
      ∙ ap (λ o. (is_some (node_at (elements nodes) x) && is_concerned_by_step nodes x step s) || is_container_of nodes before step o s) on
      ∙ both (is_some (node_at (elements nodes) x)) (is_concerned_by_step nodes x step s) (is_moved_container nodes before step x s)
    where
      both : (a b c : Bool) → ((a && b) || (a && c)) ≡ (a && (b || c))
      both true b c = refl
      both false b c = refl

-- a log entry that is heard
module _ (nodes : List Node) (log : List LogEntry) (before : ℕ → Option Interval) (place s : ℕ) where
  abbrev concerned_heard : Option ℕ → Option ℕ → Option LogEntry → Bool
  concerned_heard (Some key) on o = has (waiters nodes key) s
  concerned_heard None None o = false
  concerned_heard None (Some x) o = is_some (node_at (elements nodes) x) && is_concerned_by_logged nodes x o s

  through_heard : (key on : Option ℕ) → is_concerned_through nodes log key on (Logged place) s ≡ concerned_heard key on (slice_get log place)
  through_heard (Some key) on = refl
  through_heard None None = refl
  through_heard None (Some x) = refl

  abbrev concerned_what : Option ℕ → Option ℕ → Happening → Bool
  concerned_what (Some key) on what = has (waiters nodes key) s
  concerned_what None None what = false
  concerned_what None (Some x) what = is_some (node_at (elements nodes) x) && is_concerned_by_happening nodes x what s

  of_entry : (entry : LogEntry) (key on : Option ℕ) → concerned_heard key on (Some entry) ≡ concerned_what key on entry.what
  of_entry entry (Some key) on = refl
  of_entry entry None None = refl
  of_entry entry None (Some x) = refl

  by_what : (what : Happening) → concerned_what (pressed what) (subject what) what ≡ is_concerned_by_heard nodes what s
  by_what (happening.Event who name) = refl
  by_what (happening.Media who long) = refl
  by_what (happening.Key key) = refl

  or_none : (a : Bool) → (a || false) ≡ a
  or_none true = refl
  or_none false = refl

  pub heard_is : (entry : LogEntry) → slice_get log place ≡ Some entry → (is_concerned_through nodes log (key_of log (Logged place)) (subject_of log (Logged place)) (Logged place) s || is_container_of nodes before (Logged place) (acts_on (Logged place)) s) ≡ is_concerned_by_heard nodes entry.what s
  heard_is entry at =
      or_none (is_concerned_through nodes log (key_of log (Logged place)) (subject_of log (Logged place)) (Logged place) s)
      ∙ through_heard (logged_key (slice_get log place)) (logged_subject (slice_get log place))
      ∙ ap (λ o. concerned_heard (logged_key o) (logged_subject o) o) at
      ∙ of_entry entry (logged_key (Some entry)) (logged_subject (Some entry))
      ∙ by_what entry.what

-- ---- what an element reaches

-- whether an element is one of these nodes or reads one
abbrev pub reached_by : List Node → List Node → ℕ → Bool
reached_by nodes ns s = list_any (λ (n : Node). is_self_or_reader nodes n.serial s) ns

module _ (nodes : List Node) (distinct : IsDistinct nodes) (order : List ℕ) (is : IsGraphOrder nodes order) (log : List LogEntry) (before : ℕ → Option Interval) (x : ℕ) (step : Step) (on : acts_on step ≡ Some x) where
  shuffle : (a c b h : Bool) → (((a || c) || b) || h) ≡ (((a || b) || h) || c)
  shuffle true c b h = refl
  shuffle false true true true = refl
  shuffle false true true false = refl
  shuffle false true false true = refl
  shuffle false true false false = refl
  shuffle false false true h = refl
  shuffle false false false true = refl
  shuffle false false false false = refl

  acted_tests : (s r : ℕ) → is_some (node_at (elements nodes) x) ≡ true → position (λ t. t == s) order ≡ Some r → ((((x == s) || is_moved_container nodes before step x s) || is_below_or_reader nodes x s) || has_moved_item nodes x step s) ≡ (is_concerned_through nodes log (key_of log step) (subject_of log step) step s || is_container_of nodes before step (acts_on step) s)
  acted_tests s r known_x at =
      let held = is_moved_container nodes before step x s in
      let moved = has_item nodes (λ e. is_moved nodes e x step) s in
      ap (λ t. ((t || held) || is_below_or_reader nodes x s) || has_moved_item nodes x step s) (same_eqb x s)
      ∙ ap (λ t. (((s == x) || held) || is_below_or_reader nodes x s) || (t && moved)) known_x
      ∙ shuffle (s == x) held (is_below_or_reader nodes x s) moved
      ∙ ap (λ t. (t || moved) || held) (within_is nodes distinct x s (known nodes order is s r at))
      ∙ sym (ap (λ t. t && (is_concerned_by_step nodes x step s || held)) known_x)
      ∙ sym (acted_noted nodes log before x s step on)

  -- what a step on an element concerns is listed, and the container of the element
  pub all_acted : (rank : ℕ) (old one held below new : List ℕ) → position (λ t. t == x) order ≡ Some rank → ((r : ℕ) → has one r ≡ ((r == rank) || has old r)) → AreNoted order (is_moved_container nodes before step x) one held → AreNoted order (is_below_or_reader nodes x) held below → AreNoted order (has_moved_item nodes x step) below new
      → AreNoted order (λ s. is_concerned_through nodes log (key_of log step) (subject_of log step) step s || is_container_of nodes before step (acts_on step) s) old new
  all_acted rank old one held below new at put containers belows moves =
      noted_by order (λ s. (((x == s) || is_moved_container nodes before step x s) || is_below_or_reader nodes x s) || has_moved_item nodes x step s)
      (λ s. is_concerned_through nodes log (key_of log step) (subject_of log step) step s || is_container_of nodes before step (acts_on step) s) old new
      (λ s r at_s. acted_tests s r (known nodes order is x rank at) at_s)
      (noted_then order (λ s. ((x == s) || is_moved_container nodes before step x s) || is_below_or_reader nodes x s) (has_moved_item nodes x step) old below new
      (noted_then order (λ s. (x == s) || is_moved_container nodes before step x s) (is_below_or_reader nodes x) old held below
      (noted_then order (λ s. x == s) (is_moved_container nodes before step x) old one held (one_noted order x rank old one at put) containers)
      belows) moves)

  -- a step on no element concerns nothing
  pub none_acted : (old : List ℕ) → position (λ t. t == x) order ≡ None → AreNoted order (λ s. is_concerned_through nodes log (key_of log step) (subject_of log step) step s || is_container_of nodes before step (acts_on step) s) old old
  none_acted old at =
      none_noted order (λ s. is_concerned_through nodes log (key_of log step) (subject_of log step) step s || is_container_of nodes before step (acts_on step) s) old
      (λ s r at_s.
      acted_noted nodes log before x s step on
      ∙ ap (λ t. t && (is_concerned_by_step nodes x step s || is_moved_container nodes before step x s)) (is_known nodes order is x false (ap is_some at)))
