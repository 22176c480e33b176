-- What is outside the reach of x reads nothing of x, and nothing that is in the reach.
use Rattle.std.proofs.Common.{◌≡◌, refl, sym, ◌∙◌, ap, ℕ, List, [], ◌∷◌, Option, Some, None, Bool, true, false, inl, inr}
use Rattle.std.specs.Prelude.{cond, ◌==◌, ◌||◌, ◌&&◌, ◌⊎◌, not, reverse, filter, find, option_map}
use Rattle.std.specs.List.{list_any}
use Rattle.std.proofs.lemmas.Bool.{or_left, or_right, or_parts, or_from, or_cases, and_parts, and_right, and_from, eqb-true, eq-eqb, false_from_ne_true, not_from_false, not-true}
use Rattle.std.proofs.lemmas.List.{reverse-append}
use Rattle.std.proofs.lemmas.List.Folds.{list_any-append}
use Rattle.smil_model.specs.declared.document.Node.{Node}
use Rattle.smil_model.specs.declared.document.Item.{Item}
use Rattle.smil_model.specs.declared.document.Item.TheVariants.{Offset, Sync, Event, Repeat, Key, Indefinite}
use Rattle.smil_model.specs.document.Document.{is_element, elements, node_at, lineage, is_within, upwards, time_parent, time_children, is_time_child, just_before, previous_child, previous_in_seq, is_in_seq, element_named, has_serial, has_id, target, serials}
use Rattle.smil_model.specs.document.Dependencies.{is_sync_with, all_items}
use Rattle.smil_model.specs.document.Closure.{has, closure}
use Rattle.smil_model.specs.reach.Reach.{is_option, is_event_of, reads_node, reads, is_near, near, down}
use Rattle.smil_laws.proofs.ClosureExact.{has_filter, is_closed, has_set}
use Rattle.smil_laws.proofs.LineageParents.{skip, take_it}
use Rattle.smil_laws.proofs.ForeignEntries.{Apart}
use Rattle.smil_laws.proofs.ReachLaw.{IsOutside}

-- ---- lists of nodes

-- a node of the list with this serial that passes is found
pub found_any : (s : ℕ) (test : Node → Bool) (ns : List Node) (e : Node) → find (λ (n : Node). n.serial == s) ns ≡ Some e → test e ≡ true → list_any (λ (n : Node). (n.serial == s) && test n) ns ≡ true
found_any s test [] e q t = cc
found_any s test (n ∷ ns) e q t = step (n.serial == s) refl q (found_any s test ns e)
  where
    step : (b : Bool) → n.serial == s ≡ b → cond b (Some n) (find (λ (n : Node). n.serial == s) ns) ≡ Some e → (find (λ (n : Node). n.serial == s) ns ≡ Some e → test e ≡ true → list_any (λ (n : Node). (n.serial == s) && test n) ns ≡ true) → list_any (λ (n : Node). (n.serial == s) && test n) (n ∷ ns) ≡ true
    step true b q later = let one : n ≡ e = cc in or_left _ _ (and_from _ _ b (ap test one ∙ t))
    step false b q later = or_right _ _ (later q t)

pub has_serials : (s : ℕ) (ns : List Node) → list_any (λ (n : Node). n.serial == s) ns ≡ true → has (serials ns) s ≡ true
has_serials s [] q = q
has_serials s (n ∷ ns) q = by_case (or_cases (n.serial == s) (list_any (λ (n : Node). n.serial == s) ns) q) (has_serials s ns)
  where
    by_case : (n.serial == s ≡ true) ⊎ (list_any (λ (n : Node). n.serial == s) ns ≡ true) → (list_any (λ (n : Node). n.serial == s) ns ≡ true → has (serials ns) s ≡ true) → has (serials (n ∷ ns)) s ≡ true
    by_case (inl e) later = or_left _ _ e
    by_case (inr r) later = or_right _ _ (later r)

pub from_serials : (s : ℕ) (ns : List Node) → has (serials ns) s ≡ true → list_any (λ (n : Node). n.serial == s) ns ≡ true
from_serials s [] q = q
from_serials s (n ∷ ns) q = by_case (or_cases (n.serial == s) (has (serials ns) s) q) (from_serials s ns)
  where
    by_case : (n.serial == s ≡ true) ⊎ (has (serials ns) s ≡ true) → (has (serials ns) s ≡ true → list_any (λ (n : Node). n.serial == s) ns ≡ true) → list_any (λ (n : Node). n.serial == s) (n ∷ ns) ≡ true
    by_case (inl e) later = or_left _ _ e
    by_case (inr r) later = or_right _ _ (later r)

-- among those that pass, one that passes a weaker test
pub any_filter : (p q t : Node → Bool) (ns : List Node) → ((n : Node) → t n ≡ true → p n ≡ true) → ((n : Node) → t n ≡ true → q n ≡ true) → list_any t ns ≡ true → list_any q (filter p ns) ≡ true
any_filter p q t [] f g h = h
any_filter p q t (n ∷ ns) f g h = by_case (or_cases (t n) (list_any t ns) h) (any_filter p q t ns f g)
  where
    keep : (b : Bool) → list_any q (filter p ns) ≡ true → list_any q (cond b (n ∷ filter p ns) (filter p ns)) ≡ true
    keep true r = or_right _ _ r
    keep false r = r

    by_case : (t n ≡ true) ⊎ (list_any t ns ≡ true) → (list_any t ns ≡ true → list_any q (filter p ns) ≡ true) → list_any q (cond (p n) (n ∷ filter p ns) (filter p ns)) ≡ true
    by_case (inl e) later = ap (λ b. list_any q (cond b (n ∷ filter p ns) (filter p ns))) (f n e) ∙ or_left _ _ (g n e)
    by_case (inr r) later = keep (p n) (later r)

-- and the other way: one that passes among those that are kept
pub any_kept : (p q t : Node → Bool) (ns : List Node) → ((n : Node) → p n ≡ true → q n ≡ true → t n ≡ true) → list_any q (filter p ns) ≡ true → list_any t ns ≡ true
any_kept p q t [] f h = h
any_kept p q t (n ∷ ns) f h = keep (p n) refl h (any_kept p q t ns f)
  where
    keep : (b : Bool) → p n ≡ b → list_any q (cond b (n ∷ filter p ns) (filter p ns)) ≡ true → (list_any q (filter p ns) ≡ true → list_any t ns ≡ true) → list_any t (n ∷ ns) ≡ true
    keep true e r later = by_case (or_cases (q n) (list_any q (filter p ns)) r)
      where
        by_case : (q n ≡ true) ⊎ (list_any q (filter p ns) ≡ true) → list_any t (n ∷ ns) ≡ true
        by_case (inl d) = or_left _ _ (f n e d)
        by_case (inr d) = or_right _ _ (later d)
    keep false e r later = or_right _ _ (later r)

any_weaker : (t q : Node → Bool) (ns : List Node) → ((n : Node) → t n ≡ true → q n ≡ true) → list_any t ns ≡ true → list_any q ns ≡ true
any_weaker t q [] f h = h
any_weaker t q (n ∷ ns) f h = by_case (or_cases (t n) (list_any t ns) h) (any_weaker t q ns f)
  where
    by_case : (t n ≡ true) ⊎ (list_any t ns ≡ true) → (list_any t ns ≡ true → list_any q ns ≡ true) → list_any q (n ∷ ns) ≡ true
    by_case (inl e) later = or_left _ _ (f n e)
    by_case (inr r) later = or_right _ _ (later r)

find_any : (test : Node → Bool) (ns : List Node) (e : Node) → find test ns ≡ Some e → list_any (λ (n : Node). (n.serial == e.serial) && test n) ns ≡ true
find_any test [] e q = cc
find_any test (n ∷ ns) e q = step (test n) refl q (find_any test ns e)
  where
    step : (b : Bool) → test n ≡ b → cond b (Some n) (find test ns) ≡ Some e → (find test ns ≡ Some e → list_any (λ (n : Node). (n.serial == e.serial) && test n) ns ≡ true) → list_any (λ (n : Node). (n.serial == e.serial) && test n) (n ∷ ns) ≡ true
    step true b q later = let one : n ≡ e = cc in or_left _ _ (and_from _ _ (eq-eqb n.serial e.serial (ap (λ (m : Node). m.serial) one)) b)
    step false b q later = or_right _ _ (later q)

pub before_any : (s : ℕ) (o : Option Node) (ns : List Node) (b : Node) → just_before s o ns ≡ Some b → (o ≡ Some b) ⊎ (list_any (λ (n : Node). n.serial == b.serial) ns ≡ true)
before_any s o [] b q = cc
before_any s o (n ∷ ns) b q = step (n.serial == s) q (before_any s (Some n) ns b)
  where
    step : (t : Bool) → cond t o (just_before s (Some n) ns) ≡ Some b → (just_before s (Some n) ns ≡ Some b → (Some n ≡ Some b) ⊎ (list_any (λ (n : Node). n.serial == b.serial) ns ≡ true)) → (o ≡ Some b) ⊎ (list_any (λ (n : Node). n.serial == b.serial) (n ∷ ns) ≡ true)
    step true q later = inl q
    step false q later = by_case (later q)
      where
        by_case : (Some n ≡ Some b) ⊎ (list_any (λ (n : Node). n.serial == b.serial) ns ≡ true) → (o ≡ Some b) ⊎ (list_any (λ (n : Node). n.serial == b.serial) (n ∷ ns) ≡ true)
        by_case (inl e) = let one : n ≡ b = cc in inr (or_left _ _ (eq-eqb n.serial b.serial (ap (λ (m : Node). m.serial) one)))
        by_case (inr r) = inr (or_right _ _ r)

-- ---- lineages

pub any_reverse : (test : Node → Bool) (ns : List Node) → list_any test ns ≡ true → list_any test (reverse ns) ≡ true
any_reverse test [] q = q
any_reverse test (n ∷ ns) q =
    ap (list_any test) (reverse-append (n ∷ []) ns) ∙ list_any-append test (reverse ns) (n ∷ []) ∙ by_case (or_cases (test n) (list_any test ns) q) (any_reverse test ns)
  where
    by_case : (test n ≡ true) ⊎ (list_any test ns ≡ true) → (list_any test ns ≡ true → list_any test (reverse ns) ≡ true) → (list_any test (reverse ns) || list_any test (n ∷ [])) ≡ true
    by_case (inl e) later = or_right _ _ (or_left _ _ e)
    by_case (inr r) later = or_left _ _ (later r)

pub chain_begins : (rs : List Node) (s x : ℕ) → list_any (λ (n : Node). n.serial == s) rs ≡ true → list_any (λ (n : Node). n.serial == x) (upwards rs s) ≡ false → s == x ≡ false
chain_begins [] s x q free = cc
chain_begins (n ∷ before) s x q free = step (n.serial == s) refl (or_cases (n.serial == s) (list_any (λ (n : Node). n.serial == s) before) q) (chain_begins before s x)
  where
    step : (t : Bool) → n.serial == s ≡ t → (n.serial == s ≡ true) ⊎ (list_any (λ (n : Node). n.serial == s) before ≡ true) → (list_any (λ (n : Node). n.serial == s) before ≡ true → list_any (λ (n : Node). n.serial == x) (upwards before s) ≡ false → s == x ≡ false) → s == x ≡ false
    step true t c later =
        let here : list_any (λ (n : Node). n.serial == x) (n ∷ upwards before n.parent) ≡ false = sym (ap (list_any (λ (n : Node). n.serial == x)) (take_it n before s t)) ∙ free in
        rw (← eqb-true n.serial s t) ((or_parts _ _ here).0)
    step false t (inl e) later = let no : false ≡ true = sym t ∙ e in cc
    step false t (inr r) later = later r (sym (ap (list_any (λ (n : Node). n.serial == x)) (skip n before s t)) ∙ free)

-- ---- the reach

-- what is not in a lineage is no element of it
pub no_element_above : (x : ℕ) (chain : List Node) → list_any (λ (n : Node). n.serial == x) chain ≡ false → list_any (λ (n : Node). is_element n && (n.serial == x)) chain ≡ false
no_element_above x [] q = refl
no_element_above x (n ∷ ns) q =
    let parts = or_parts _ _ q in
    or_from _ _ (and_right (is_element n) _ parts.0) (no_element_above x ns parts.1)

module _ (nodes : List Node) (x : ℕ) where
  abbrev all : List ℕ
  all = serials (elements nodes)

  abbrev pub is_out : ℕ → Bool
  is_out s = not (has (down nodes x) s)

  -- an element that is not in the reach is apart from x
  apart_out : (s : ℕ) → has all s ≡ true → has (down nodes x) s ≡ false → Apart nodes x s
  apart_out s i out = record {
    self = chain_begins (reverse nodes) s x (any_reverse (λ (n : Node). n.serial == s) nodes in_nodes) free;
    above = no_element_above x (lineage nodes s) free;
  }
    where
      in_nodes : list_any (λ (n : Node). n.serial == s) nodes ≡ true
      in_nodes = any_kept is_element (λ (n : Node). n.serial == s) (λ (n : Node). n.serial == s) nodes (λ n p q. q) (from_serials s (elements nodes) i)

      free : is_within nodes x s ≡ false
      free =
          false_from_ne_true (is_within nodes x s)
          (λ t. let is_in : has (down nodes x) s ≡ true = has_set (reads nodes) all (near nodes x) s i (has_filter (is_near nodes x) all s i (or_left _ _ (or_right _ _ t))) in
          let no : false ≡ true = sym out ∙ is_in in cc)

  -- what an element reads that is not in a closed set is not in it either
  pub out_before : (set : List ℕ) (b : ℕ) (e : Node) → node_at (elements nodes) e.serial ≡ Some e → has (closure (reads nodes) all set) e.serial ≡ false → reads_node nodes b e ≡ true → has (closure (reads nodes) all set) b ≡ false
  out_before set b e here out r =
      false_from_ne_true (has (closure (reads nodes) all set) b)
      (λ t. let is_in : has (closure (reads nodes) all set) e.serial ≡ true = is_closed (reads nodes) all set b e.serial t (found_any e.serial (reads_node nodes b) (elements nodes) e here r) (is_listed e here) in
      let no : false ≡ true = sym out ∙ is_in in cc)
    where
      is_listed : (e : Node) → node_at (elements nodes) e.serial ≡ Some e → has all e.serial ≡ true
      is_listed e here =
          has_serials e.serial (elements nodes)
          (any_kept (λ _. true) (λ (n : Node). n.serial == e.serial) (λ (n : Node). n.serial == e.serial) (elements nodes) (λ n p q. q)
          (any_filter (λ _. true) (λ (n : Node). n.serial == e.serial) (λ (n : Node). (n.serial == e.serial) && true) (elements nodes) (λ n t. refl) (λ n t. (and_parts _ _ t).0)
          (found_any e.serial (λ _. true) (elements nodes) e here refl)))

  is_all : (s : ℕ) → list_any (λ (n : Node). (n.serial == s) && is_element n) nodes ≡ true → has all s ≡ true
  is_all s q =
      has_serials s (elements nodes)
      (any_filter is_element (λ (n : Node). n.serial == s) (λ (n : Node). (n.serial == s) && is_element n) nodes (λ n t. (and_parts _ _ t).1) (λ n t. (and_parts _ _ t).0) q)

  pub child_is_all : (e s : ℕ) → list_any (λ (c : Node). (c.serial == s) && is_time_child nodes e c) nodes ≡ true → has all s ≡ true
  child_is_all e s q =
      has_serials s (elements nodes)
      (any_filter is_element (λ (n : Node). n.serial == s) (λ (c : Node). (c.serial == s) && is_time_child nodes e c) nodes (λ n t. (and_parts _ _ ((and_parts _ _ t).1)).0) (λ n t. (and_parts _ _ t).0) q)

  named_is_all : (id : List ℕ) (b : Node) → element_named nodes id ≡ Some b → has all b.serial ≡ true
  named_is_all id b q =
      is_all b.serial
      (any_weaker (λ (n : Node). (n.serial == b.serial) && (is_element n && has_id id n.attrs.id)) (λ (n : Node). (n.serial == b.serial) && is_element n) nodes
      (λ n t.
      let both = and_parts (n.serial == b.serial) (is_element n && has_id id n.attrs.id) t in
      and_from (n.serial == b.serial) (is_element n) both.0 ((and_parts (is_element n) (has_id id n.attrs.id) both.1).0))
      (find_any (λ (n : Node). is_element n && has_id id n.attrs.id) nodes b q))

  pub before_is_all : (e : ℕ) (b : Node) → previous_in_seq nodes e ≡ Some b → has all b.serial ≡ true
  before_is_all e b q = in_seq (is_in_seq nodes e) q
    where
      among : (o : Option Node) → previous_child nodes o e ≡ Some b → has all b.serial ≡ true
      among None r = cc
      among (Some p) r = by_case (before_any e None (time_children nodes p.serial) b r)
        where
          by_case : (None ≡ Some b) ⊎ (list_any (λ (n : Node). n.serial == b.serial) (time_children nodes p.serial) ≡ true) → has all b.serial ≡ true
          by_case (inl never) = cc
          by_case (inr t) =
              child_is_all p.serial b.serial
              (any_kept (is_time_child nodes p.serial) (λ (n : Node). n.serial == b.serial) (λ (c : Node). (c.serial == b.serial) && is_time_child nodes p.serial c) nodes (λ n u v. and_from _ _ v u) t)

      in_seq : (t : Bool) → cond t (previous_child nodes (time_parent nodes e) e) None ≡ Some b → has all b.serial ≡ true
      in_seq true r = among (time_parent nodes e) r
      in_seq false r = cc

  pub sync_is_all : (b : ℕ) (is : List Item) → list_any (is_sync_with nodes b) is ≡ true → has all b ≡ true
  sync_is_all b [] q = cc
  sync_is_all b (i ∷ is) q = by_case (or_cases (is_sync_with nodes b i) (list_any (is_sync_with nodes b) is) q) (sync_is_all b is)
    where
      by_named : (id : List ℕ) (o : Option Node) → element_named nodes id ≡ o → has_serial b o ≡ true → has all b ≡ true
      by_named id None e t = cc
      by_named id (Some n) e t = rw (← eqb-true n.serial b t) (named_is_all id n e)

      by_item : (j : Item) → is_sync_with nodes b j ≡ true → has all b ≡ true
      by_item (Sync who edge offset) t = by_named who (element_named nodes who) refl t
      by_item (Offset offset) t = cc
      by_item (Event who name offset) t = cc
      by_item (Repeat who n offset) t = cc
      by_item (Key key offset) t = cc
      by_item Indefinite t = cc

      by_case : (is_sync_with nodes b i ≡ true) ⊎ (list_any (is_sync_with nodes b) is ≡ true) → (list_any (is_sync_with nodes b) is ≡ true → has all b ≡ true) → has all b ≡ true
      by_case (inl t) later = by_item i t
      by_case (inr t) later = later t

  pub event_is_all : (e t : ℕ) (is : List Item) → has all e ≡ true → list_any (is_event_of nodes e t) is ≡ true → has all t ≡ true
  event_is_all e t [] own q = cc
  event_is_all e t (i ∷ is) own q = by_case (or_cases (is_event_of nodes e t i) (list_any (is_event_of nodes e t) is) q) (event_is_all e t is own)
    where
      by_element : (id : List ℕ) (o : Option Node) → element_named nodes id ≡ o → is_option t (option_map (λ (n : Node). n.serial) o) ≡ true → has all t ≡ true
      by_element id None r u = cc
      by_element id (Some n) r u = rw (eqb-true t n.serial u) (named_is_all id n r)

      by_target : (who : Option (List ℕ)) → is_option t (target nodes e who) ≡ true → has all t ≡ true
      by_target None u = rw (eqb-true t e u) own
      by_target (Some id) u = by_element id (element_named nodes id) refl u

      by_item : (j : Item) → is_event_of nodes e t j ≡ true → has all t ≡ true
      by_item (Event who name offset) u = by_target who u
      by_item (Repeat who n offset) u = by_target who u
      by_item (Offset offset) u = cc
      by_item (Sync who edge offset) u = cc
      by_item (Key key offset) u = cc
      by_item Indefinite u = cc

      by_case : (is_event_of nodes e t i ≡ true) ⊎ (list_any (is_event_of nodes e t) is ≡ true) → (list_any (is_event_of nodes e t) is ≡ true → has all t ≡ true) → has all t ≡ true
      by_case (inl u) later = by_item i u
      by_case (inr u) later = later u

  pub own_is_all : (e : Node) → node_at (elements nodes) e.serial ≡ Some e → has all e.serial ≡ true
  own_is_all e here =
      has_serials e.serial (elements nodes)
      (any_weaker (λ (n : Node). (n.serial == e.serial) && true) (λ (n : Node). n.serial == e.serial) (elements nodes) (λ n t. (and_parts _ _ t).0)
      (found_any e.serial (λ _. true) (elements nodes) e here refl))

  pub outside_reach : (e : Node) → node_at (elements nodes) e.serial ≡ Some e → is_out e.serial ≡ true → IsOutside nodes x is_out e
  outside_reach e here t = record {
    apart = apart_out e.serial (own_is_all e here) out;
    children = λ s i q. away s (child_is_all e.serial s q) (or_left _ _ (or_left _ _ (or_left _ _ (and_from _ _ i q))));
    before = λ b q. away b.serial (before_is_all e.serial b q) (or_left _ _ (or_left _ _ (or_right _ _ (ap (has_serial b.serial) q ∙ eq-eqb b.serial b.serial refl))));
    named = λ b q. away b (sync_is_all b (all_items nodes e) q) (or_left _ _ (or_right _ _ q));
    heard = λ u q. (away u (event_is_all e.serial u (all_items nodes e) (own_is_all e here) q) (or_right _ _ q)).1.self;
  }
    where
      out : has (down nodes x) e.serial ≡ false
      out = not-true (has (down nodes x) e.serial) t

      away : (s : ℕ) → has all s ≡ true → reads_node nodes s e ≡ true → (is_out s ≡ true) × Apart nodes x s
      away s i r = let o = out_before (near nodes x) s e here out r in (not_from_false _ o, apart_out s i o)
