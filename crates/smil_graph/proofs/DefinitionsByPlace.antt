-- What the definitions say of nodes, by their places.
use Rattle.std.proofs.Common.{◌≡◌, refl, sym, ◌∙◌, ap, ℕ, suc, zero, ◌<◌, ◌+◌, List, [], ◌∷◌, ◌++◌, length, Bool, true, false, Option, Some, None, arith, inl, inr}
use mathlib.Core.Bool.{or-false, or_assoc}
use Rattle.std.specs.Prelude.{pos, cond, ◌==◌, ◌||◌, ◌&&◌, ◌⊎◌, filter, slice_get}
use Rattle.std.specs.List.{AllByRecursion, list_any, range_with_len}
use Rattle.std.proofs.lemmas.Bool.{or_from, eqb-true, eq-eqb, ne_eqb, cases_eq}
use Rattle.std.proofs.lemmas.List.Folds.{list_any-append}
use Rattle.smil_model.specs.declared.document.Node.{Node}
use Rattle.smil_model.specs.declared.document.Item.{Item}
use Rattle.smil_model.specs.declared.document.Item.TheVariants.{Offset, Sync, Event, Repeat, Indefinite}
use Rattle.smil_model.specs.document.Document.{is_element, has_serial, has_kind, is_seq_kind, time_parent, is_time_child, time_children, just_before, previous_child, previous_in_seq, element_named, is_in_excl, target}
use Rattle.smil_model.specs.document.Defaults.{items_or, begin_list, end_list}
use Rattle.smil_model.specs.document.Dependencies.{has_implicit_duration, is_sync_with, all_items, feeds_node}
use Rattle.smil_model.specs.reach.Reach.{is_event_of, is_option}
use Rattle.smil_model.specs.document.Valid.{IsDistinct}
use Rattle.smil_laws.proofs.LineageParents.{same_eqb, swap_eqb, is_option-serial_of}
use Rattle.smil_laws.proofs.ListMembers.{differ_each}
use Rattle.smil_laws.proofs.Lists.{each_at}
use Rattle.smil_model.specs.document.Closure.{has}
use Rattle.smil_graph.specs.Links.{row}
use Rattle.smil_graph.specs.Places.{at_place, up, has_element, is_element_at, before, named_by, target_place, source_of, leads_to_place, follows, hears, previous_of, IsTable, IsIndex, AreTimeChildren}
use Rattle.smil_graph.proofs.PlaceLists.{any_each}
use Rattle.smil_graph.proofs.NodesByPlace.{there_below, IsTableTo, table_step}
use Rattle.smil_graph.proofs.PlacesInOrder.{has_in_range}

-- ---- serials and places

pub same_place : (nodes : List Node) (j k : ℕ) (e m : Node) → IsDistinct nodes → slice_get nodes j ≡ Some e → slice_get nodes k ≡ Some m → m.serial ≡ e.serial → j ≡ k
same_place [] j k e m d a b s = cc
same_place (n ∷ ns) zero zero e m d a b s = refl
same_place (n ∷ ns) zero (suc k) e m d a b s =
    let one : n ≡ e = cc in
    let never : false ≡ true = sym (each_at (λ (x : Node). x.serial == n.serial ≡ false) ns k m (differ_each n.serial ns d.0) b) ∙ eq-eqb m.serial n.serial (s ∙ sym (ap (λ (x : Node). x.serial) one)) in absurd (cc)
same_place (n ∷ ns) (suc j) zero e m d a b s =
    let one : n ≡ m = cc in
    let never : false ≡ true = sym (each_at (λ (x : Node). x.serial == n.serial ≡ false) ns j e (differ_each n.serial ns d.0) a) ∙ eq-eqb e.serial n.serial (sym s ∙ sym (ap (λ (x : Node). x.serial) one)) in absurd (cc)
same_place (n ∷ ns) (suc j) (suc k) e m d a b s = ap suc (same_place ns j k e m d.1 a b s)

-- a test that fails at what an absent list stands for
pub all_any : (nodes : List Node) (test : Item → Bool) → test (Offset (pos 0)) ≡ false → test Indefinite ≡ false → (e : Node) → list_any test (all_items nodes e) ≡ (list_any test (items_or [] e.attrs.begin) || list_any test (items_or [] e.attrs.«end»))
all_any nodes test t u e = list_any-append test (begin_list nodes e) (end_list e) ∙ ap (λ b. b || list_any test (end_list e)) (by_begin e.attrs.begin (is_in_excl nodes e.serial))
  where
    by_begin : (o : Option (List Item)) (b : Bool) → list_any test (items_or (cond b (Indefinite ∷ []) (Offset (pos 0) ∷ [])) o) ≡ list_any test (items_or [] o)
    by_begin None true = ap (λ z. z || false) u
    by_begin None false = ap (λ z. z || false) t
    by_begin (Some items) b = refl

module _ (nodes : List Node) (distinct : IsDistinct nodes) where
  serial_is : (j k : ℕ) (e m : Node) → slice_get nodes j ≡ Some e → slice_get nodes k ≡ Some m → (m.serial == e.serial) ≡ (j == k)
  serial_is j k e m a b = by_case (cases_eq j k)
    where
      by_case : (j ≡ k) ⊎ (j ≡ k → ⊥) → (m.serial == e.serial) ≡ (j == k)
      by_case (inl s) =
          let one : Some m ≡ Some e = sym b ∙ sym (ap (slice_get nodes) s) ∙ a in
          let same : m ≡ e = cc in
          eq-eqb m.serial e.serial (ap (λ (x : Node). x.serial) same) ∙ sym (eq-eqb j k s)
      by_case (inr o) = ne_eqb m.serial e.serial (λ s. o (same_place nodes j k e m distinct a b s)) ∙ sym (ne_eqb j k o)

  -- whether a place has the serial of the node at j
  pub has_at : (j : ℕ) (e : Node) (o : Option ℕ) → slice_get nodes j ≡ Some e → has_serial e.serial (at_place nodes o) ≡ is_option j o
  has_at j e None a = refl
  has_at j e (Some k) a = by_node (slice_get nodes k) refl
    where
      by_node : (z : Option Node) → slice_get nodes k ≡ z → has_serial e.serial (slice_get nodes k) ≡ (j == k)
      by_node None q = ap (has_serial e.serial) q ∙ sym (ne_eqb j k (λ s. let never : Some e ≡ None = sym a ∙ ap (slice_get nodes) s ∙ q in absurd (cc)))
      by_node (Some m) q = ap (has_serial e.serial) q ∙ serial_is j k e m a q

  -- ---- time children

  pub any_one : (f : Node → Bool) (ns : List Node) (i : ℕ) (x : Node) → IsDistinct ns → slice_get ns i ≡ Some x → list_any (λ (c : Node). (c.serial == x.serial) && f c) ns ≡ f x
  any_one f [] i x d a = cc
  any_one f (n ∷ ns) zero x d a =
      let one : n ≡ x = cc in
      ap (λ (y : Node). list_any (λ (c : Node). (c.serial == y.serial) && f c) (n ∷ ns)) (sym one)
      ∙ ap (λ t. (t && f n) || list_any (λ (c : Node). (c.serial == n.serial) && f c) ns) (eq-eqb n.serial n.serial refl)
      ∙ ap (λ t. f n || t) (none ns (differ_each n.serial ns d.0))
      ∙ or-false (f n)
      ∙ ap f one
    where
      none : (ms : List Node) → AllByRecursion (λ (m : Node). m.serial == n.serial ≡ false) ms → list_any (λ (c : Node). (c.serial == n.serial) && f c) ms ≡ false
      none [] each = refl
      none (m ∷ ms) each = or_from _ _ (ap (λ t. t && f m) each.0) (none ms each.1)
  any_one f (n ∷ ns) (suc i) x d a =
      ap (λ t. (t && f n) || list_any (λ (c : Node). (c.serial == x.serial) && f c) ns) (swap_eqb x.serial n.serial (each_at (λ (m : Node). m.serial == n.serial ≡ false) ns i x (differ_each n.serial ns d.0) a))
      ∙ any_one f ns i x d.1 a

  module _ (tps : List (Option ℕ)) (children : List (List ℕ)) (table : IsTable nodes (λ n. time_parent nodes n.serial) tps) (under : AreTimeChildren nodes tps children) where
    pub child_is : (i j : ℕ) (x e : Node) → slice_get nodes i ≡ Some x → slice_get nodes j ≡ Some e → is_time_child nodes e.serial x ≡ (is_element_at nodes i && is_option j (up tps i))
    child_is i j x e a b =
        ap (λ t. is_element x && t) (ap (has_serial e.serial) (table.node i x a) ∙ has_at j e (up tps i) b)
        ∙ ap (λ o. has_element o && is_option j (up tps i)) (sym a)

    pub children_are : (i j : ℕ) (x e : Node) → slice_get nodes i ≡ Some x → slice_get nodes j ≡ Some e → list_any (λ (c : Node). (c.serial == x.serial) && is_time_child nodes e.serial c) nodes ≡ has (row children j) i
    children_are i j x e a b =
        any_one (is_time_child nodes e.serial) nodes i x distinct a
        ∙ child_is i j x e a b
        ∙ sym (ap (λ r. has r i) (under j) ∙ has_in_range (λ p. is_element_at nodes p && is_option j (up tps p)) (length nodes) 0 i (omega arith) (omega (arith, there_below nodes i x a)))

    -- ---- the child before

    along : (s p : ℕ) (test : Node → Bool) (f : ℕ → Bool) (ms : List Node) (a : ℕ) → ((k : ℕ) (m : Node) → slice_get ms k ≡ Some m → (slice_get nodes (a + k) ≡ Some m) × (test m ≡ f (a + k)) × ((m.serial == s) ≡ ((a + k) == p)))
        → (o : Option Node) (o' : Option ℕ) → o ≡ at_place nodes o' → just_before s o (filter test ms) ≡ at_place nodes (before p o' (filter f (range_with_len a (length ms))))
    along s p test f [] a so o o' q = refl
    along s p test f (m ∷ ms) a so o o' q =
        let zero_more : a + 0 ≡ a = omega arith in
        let here = so 0 m refl in
        let at : slice_get nodes a ≡ Some m = sym (ap (slice_get nodes) zero_more) ∙ here.0 in
        let same : test m ≡ f a = here.1 ∙ ap f zero_more in
        let serial : (m.serial == s) ≡ (a == p) = here.2 ∙ ap (λ k. k == p) zero_more in
        let rest : (k : ℕ) (n : Node) → slice_get ms k ≡ Some n → (slice_get nodes ((a + 1) + k) ≡ Some n) × (test n ≡ f ((a + 1) + k)) × ((n.serial == s) ≡ (((a + 1) + k) == p)) = λ k n r. rest_of k n r in
        step (test m) (f a) same serial at (λ z z' r. along s p test f ms (a + 1) rest z z' r)
      where
        rest_of : (k : ℕ) (n : Node) → slice_get ms k ≡ Some n → (slice_get nodes ((a + 1) + k) ≡ Some n) × (test n ≡ f ((a + 1) + k)) × ((n.serial == s) ≡ (((a + 1) + k) == p))
        rest_of k n r =
            let there = so (suc k) n r in
            let one : a + suc k ≡ (a + 1) + k = omega arith in
            (sym (ap (slice_get nodes) one) ∙ there.0, there.1 ∙ ap f one, there.2 ∙ ap (λ z. z == p) one)

        step : (t u : Bool) → t ≡ u → (m.serial == s) ≡ (a == p) → slice_get nodes a ≡ Some m → ((z : Option Node) (z' : Option ℕ) → z ≡ at_place nodes z' → just_before s z (filter test ms) ≡ at_place nodes (before p z' (filter f (range_with_len (a + 1) (length ms)))))
            → just_before s o (cond t (m ∷ filter test ms) (filter test ms)) ≡ at_place nodes (before p o' (cond u (a ∷ filter f (range_with_len (a + 1) (length ms))) (filter f (range_with_len (a + 1) (length ms)))))
        step true true e serial at later =
            ap (λ b. cond b o (just_before s (Some m) (filter test ms))) serial
            ∙ by_test (a == p)
          where
            by_test : (b : Bool) → cond b o (just_before s (Some m) (filter test ms)) ≡ at_place nodes (cond b o' (before p (Some a) (filter f (range_with_len (a + 1) (length ms)))))
            by_test true = q
            by_test false = later (Some m) (Some a) (sym at)
        step true false e serial at later = cc
        step false true e serial at later = cc
        step false false e serial at later = later o o' q

    pub previous_is : (p : ℕ) (n : Node) → slice_get nodes p ≡ Some n → previous_in_seq nodes n.serial ≡ at_place nodes (previous_of nodes children p (up tps p))
    previous_is p n at =
        ap (λ z. cond (has_kind is_seq_kind z) (previous_child nodes z n.serial) None) (table.node p n at)
        ∙ by_place (up tps p)
      where
        by_place : (o : Option ℕ) → cond (has_kind is_seq_kind (at_place nodes o)) (previous_child nodes (at_place nodes o) n.serial) None ≡ at_place nodes (previous_of nodes children p o)
        by_place None = refl
        by_place (Some q) = by_node (slice_get nodes q) refl
          where
            facts : (parent : Node) → slice_get nodes q ≡ Some parent → (k : ℕ) (m : Node) → slice_get nodes k ≡ Some m → (slice_get nodes (0 + k) ≡ Some m) × (is_time_child nodes parent.serial m ≡ (is_element_at nodes (0 + k) && is_option q (up tps (0 + k)))) × ((m.serial == n.serial) ≡ ((0 + k) == p))
            facts parent r k m b =
                let same : k ≡ 0 + k = omega arith in
                (sym (ap (slice_get nodes) same) ∙ b, child_is k q m parent b r ∙ ap (λ z. is_element_at nodes z && is_option q (up tps z)) same, serial_is p k n m at b ∙ same_eqb p k ∙ ap (λ z. z == p) same)

            by_node : (z : Option Node) → slice_get nodes q ≡ z → cond (has_kind is_seq_kind (slice_get nodes q)) (previous_child nodes (slice_get nodes q) n.serial) None ≡ at_place nodes (cond (has_kind is_seq_kind (slice_get nodes q)) (before p None (row children q)) None)
            by_node None r = ap (λ z. cond (has_kind is_seq_kind z) (previous_child nodes z n.serial) None) r ∙ sym (ap (λ z. at_place nodes (cond (has_kind is_seq_kind z) (before p None (row children q)) None)) r)
            by_node (Some parent) r =
                ap (λ z. cond (has_kind is_seq_kind z) (previous_child nodes z n.serial) None) r
                ∙ by_seq (is_seq_kind parent.kind)
                ∙ sym (ap (λ z. at_place nodes (cond (has_kind is_seq_kind z) (before p None (row children q)) None)) r)
              where
                by_seq : (t : Bool) → cond t (just_before n.serial None (time_children nodes parent.serial)) None ≡ at_place nodes (cond t (before p None (row children q)) None)
                by_seq true =
                    along n.serial p (is_time_child nodes parent.serial) (λ k. is_element_at nodes k && is_option q (up tps k)) nodes 0 (facts parent r) None None refl
                    ∙ ap (λ is. at_place nodes (before p None is)) (sym (under q))
                by_seq false = refl

    pub before_low : (p a n : ℕ) (f : ℕ → Bool) (o : Option ℕ) (q : ℕ) → ((k : ℕ) → o ≡ Some k → k < a) → before p o (filter f (range_with_len a n)) ≡ Some q → q < p
    before_low p a zero f o q low e = cc
    before_low p a (suc n) f o q low e = step (f a) refl e (λ z l. before_low p (a + 1) n f z q l)
      where
        step : (t : Bool) → f a ≡ t → before p o (cond t (a ∷ filter f (range_with_len (a + 1) n)) (filter f (range_with_len (a + 1) n))) ≡ Some q → ((z : Option ℕ) → ((k : ℕ) → z ≡ Some k → k < a + 1) → before p z (filter f (range_with_len (a + 1) n)) ≡ Some q → q < p) → q < p
        step true r e later = by_test (a == p) refl e
          where
            by_test : (b : Bool) → a == p ≡ b → cond b o (before p (Some a) (filter f (range_with_len (a + 1) n))) ≡ Some q → q < p
            by_test true s e = omega (arith, low q e, eqb-true a p s)
            by_test false s e = later (Some a) (λ k is. let same : a ≡ k = cc in omega (arith, same)) e
        step false r e later = later o (λ k is. omega (arith, low k is)) e

    pub previous_low : (p q : ℕ) (o : Option ℕ) → previous_of nodes children p o ≡ Some q → q < p
    previous_low p q None e = cc
    previous_low p q (Some parent) e = by_seq (has_kind is_seq_kind (slice_get nodes parent)) e
      where
        by_seq : (t : Bool) → cond t (before p None (row children parent)) None ≡ Some q → q < p
        by_seq true e = before_low p 0 (length nodes) (λ k. is_element_at nodes k && is_option parent (up tps k)) None q (λ k is. cc) (sym (ap (before p None) (under parent)) ∙ e)
        by_seq false e = cc

    pub previous_step : (k : ℕ) (previous : List (Option ℕ)) → IsTableTo nodes (λ n. previous_in_seq nodes n.serial) k previous → IsTableTo nodes (λ n. previous_in_seq nodes n.serial) (k + 1) (previous ++ previous_of nodes children k (up tps k) ∷ [])
    previous_step k previous so = table_step nodes (λ n. previous_in_seq nodes n.serial) k previous (previous_of nodes children k (up tps k)) so (previous_is k) (λ q e. previous_low k q (up tps k) e)

  -- ---- items

  module _ (named : List ℕ → Option ℕ) (ids : IsIndex nodes (element_named nodes) named) where
    pub sync_is : (i : ℕ) (x : Node) → slice_get nodes i ≡ Some x → (item : Item) → is_sync_with nodes x.serial item ≡ is_option i (named_by named item)
    sync_is i x a (Offset o) = refl
    sync_is i x a (Sync who edge o) = ap (has_serial x.serial) (ids.node who) ∙ has_at i x (named who) a
    sync_is i x a _ = refl

    target_is : (i j : ℕ) (x e : Node) → slice_get nodes i ≡ Some x → slice_get nodes j ≡ Some e → (who : Option (List ℕ)) → is_option x.serial (target nodes e.serial who) ≡ is_option i (target_place named j who)
    target_is i j x e a b None = serial_is j i e x b a ∙ same_eqb j i
    target_is i j x e a b (Some id) = is_option-serial_of x.serial (element_named nodes id) ∙ ap (has_serial x.serial) (ids.node id) ∙ has_at i x (named id) a

    event_is : (i j : ℕ) (x e : Node) → slice_get nodes i ≡ Some x → slice_get nodes j ≡ Some e → (item : Item) → is_event_of nodes e.serial x.serial item ≡ is_option i (source_of named j item)
    event_is i j x e a b (Offset o) = refl
    event_is i j x e a b (Sync who edge o) = refl
    event_is i j x e a b (Event who name o) = target_is i j x e a b who
    event_is i j x e a b (Repeat who n o) = target_is i j x e a b who
    event_is i j x e a b _ = refl

    pub hears_is : (i j : ℕ) (x e : Node) → slice_get nodes i ≡ Some x → slice_get nodes j ≡ Some e → list_any (is_event_of nodes e.serial x.serial) (all_items nodes e) ≡ hears named j e i
    hears_is i j x e a b = any_each (is_event_of nodes e.serial x.serial) (λ item. is_option i (source_of named j item)) (all_items nodes e) (event_is i j x e a b) ∙ all_any nodes (λ item. is_option i (source_of named j item)) refl refl e

    module _ (tps : List (Option ℕ)) (children : List (List ℕ)) (previous : List (Option ℕ)) (table : IsTable nodes (λ n. time_parent nodes n.serial) tps) (under : AreTimeChildren nodes tps children) (befores : IsTable nodes (λ n. previous_in_seq nodes n.serial) previous) where
      pub follows_is : (i j : ℕ) (x e : Node) → slice_get nodes i ≡ Some x → slice_get nodes j ≡ Some e → feeds_node nodes x.serial e ≡ follows (row children j) (up previous j) named e i
      follows_is i j x e a b =
          ap (λ t. ((has_implicit_duration e && t) || has_serial x.serial (previous_in_seq nodes e.serial)) || list_any (is_sync_with nodes x.serial) (all_items nodes e)) (children_are tps children table under i j x e a b)
          ∙ ap (λ t. ((has_implicit_duration e && has (row children j) i) || t) || list_any (is_sync_with nodes x.serial) (all_items nodes e)) (ap (has_serial x.serial) (befores.node j e b) ∙ has_at i x (up previous j) a)
          ∙ ap (λ t. ((has_implicit_duration e && has (row children j) i) || is_option i (up previous j)) || t)
          (any_each (is_sync_with nodes x.serial) (λ item. is_option i (named_by named item)) (all_items nodes e) (sync_is i x a) ∙ all_any nodes (λ item. is_option i (named_by named item)) refl refl e)
          ∙ sym (or_assoc ((has_implicit_duration e && has (row children j) i) || is_option i (up previous j)) (leads_to_place (named_by named) (items_or [] e.attrs.begin) i) (leads_to_place (named_by named) (items_or [] e.attrs.«end») i))
