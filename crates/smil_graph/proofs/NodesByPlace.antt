-- Nodes by their places.
use Rattle.std.proofs.Common.{◌≡◌, refl, sym, ◌∙◌, ap, ℕ, suc, zero, ◌<◌, ◌≤◌, ◌+◌, List, [], ◌∷◌, ◌++◌, length, take, drop, Bool, true, false, Option, Some, None, arith, inl, inr}
use Rattle.std.specs.Prelude.{bytes_eq, cond, ◌==◌, ◌⊎◌, is_some, reverse, find, slice_get}
use Rattle.std.specs.List.{AllByRecursion}
use Rattle.std.specs.Option.{option_or}
use Rattle.std.specs.Cmp.Lexicographic.{bytes_decides}
use Rattle.std.proofs.lemmas.Bool.{eq-eqb}
use Rattle.std.proofs.lemmas.List.{reverse-append, reverse-reverse, take_all}
use Rattle.smil_model.specs.declared.document.Node.{Node}
use Rattle.smil_model.specs.document.Document.{Document, is_element, node_at, upwards, time_parent}
use Rattle.smil_model.specs.document.Valid.{IsNumberedTree}
use Rattle.smil_laws.specs.Locality.{NoParent, ParentsBefore}
use Rattle.smil_laws.proofs.AsideDocuments.{each_reverse, find_each}
use Rattle.smil_laws.proofs.DescendantChains.{IsChain, ordered_chains}
use Rattle.smil_laws.proofs.NumberedTrees.{ordered}
use Rattle.smil_laws.proofs.RoundsRest.{find-serial}
use Rattle.smil_laws.proofs.Lists.{each_at, take-more_at}
use Rattle.smil_laws.proofs.EditsBelow.{along_each}
use Rattle.smil_graph.specs.Places.{at_place, up, has_element, is_element_at, element_above, parent_by, IsTable, IsIndex}

-- ---- lists by places

pub there : {A : Type 0} (xs : List A) (p : ℕ) → p < length xs → (x : A) × (slice_get xs p ≡ Some x)
there [] p l = absurd (omega (arith, l))
there (x ∷ xs) zero l = (x, refl)
there (x ∷ xs) (suc p) l = there xs p (omega (arith, l))

pub there_below : {A : Type 0} (xs : List A) (p : ℕ) (x : A) → slice_get xs p ≡ Some x → p < length xs
there_below [] p x q = cc
there_below (y ∷ ys) zero x q = omega arith
there_below (y ∷ ys) (suc p) x q = omega (arith, there_below ys p x q)

pub find_place : (t : Node → Bool) (ns : List Node) (n : Node) → find t ns ≡ Some n → (k : ℕ) × (slice_get ns k ≡ Some n)
find_place t [] n q = cc
find_place t (m ∷ ms) n q = step (t m) q (find_place t ms n)
  where
    step : (b : Bool) → cond b (Some m) (find t ms) ≡ Some n → (find t ms ≡ Some n → (k : ℕ) × (slice_get ms k ≡ Some n)) → (k : ℕ) × (slice_get (m ∷ ms) k ≡ Some n)
    step true r later = (0, r)
    step false r later = let found = later r in (suc found.0, found.1)

-- an index has the first k nodes
pub record IsFilledTo {K : Type 0} (test : K → Node → Bool) (nodes : List Node) (k : ℕ) (index : K → Option ℕ) : Type 0 where
  pub node : (q : K) → find (test q) (take k nodes) ≡ at_place nodes (index q)
  pub below : (q : K) (p : ℕ) → index q ≡ Some p → p < length nodes

pub fill_none : {K : Type 0} (test : K → Node → Bool) (nodes : List Node) (index : K → Option ℕ) → ((q : K) → index q ≡ None) → IsFilledTo test nodes 0 index
fill_none test nodes index none = record {
  node = λ q. ap (at_place nodes) (sym (none q));
  below = λ q p e. let never : None ≡ Some p = sym (none q) ∙ e in absurd (cc);
}

find_push : (t : Node → Bool) (ns : List Node) (n : Node) → find t (ns ++ n ∷ []) ≡ option_or (find t ns) (cond (t n) (Some n) None)
find_push t [] n = refl
find_push t (m ∷ ms) n = step (t m) (find_push t ms n)
  where
    step : (b : Bool) → find t (ms ++ n ∷ []) ≡ option_or (find t ms) (cond (t n) (Some n) None) → cond b (Some m) (find t (ms ++ n ∷ [])) ≡ option_or (cond b (Some m) (find t ms)) (cond (t n) (Some n) None)
    step true later = refl
    step false later = later

-- one node more
pub fill_step : {K : Type 0} (test : K → Node → Bool) (nodes : List Node) (k : ℕ) (n : Node) (old new : K → Option ℕ) → slice_get nodes k ≡ Some n → IsFilledTo test nodes k old → ((q : K) → new q ≡ option_or (old q) (cond (test q n) (Some k) None)) → IsFilledTo test nodes (k + 1) new
fill_step {K} test nodes k n old new here so after = record {
  node = λ q.
      ap (find (test q)) (take-more_at nodes k n here)
      ∙ find_push (test q) (take k nodes) n
      ∙ ap (λ o. option_or o (cond (test q n) (Some n) None)) (so.node q)
      ∙ by_index q (old q) (test q n) refl
      ∙ ap (at_place nodes) (sym (after q));
  below = λ q p e. low q p (old q) (test q n) refl (sym (after q) ∙ e);
}
  where
    by_index : (q : K) (o : Option ℕ) (t : Bool) → old q ≡ o → option_or (at_place nodes o) (cond t (Some n) None) ≡ at_place nodes (option_or o (cond t (Some k) None))
    by_index q None true e = sym here
    by_index q None false e = refl
    by_index q (Some p) t e = let m = there nodes p (so.below q p e) in ap (λ z. option_or z (cond t (Some n) None)) m.1 ∙ sym m.1

    low : (q : K) (p : ℕ) (o : Option ℕ) (t : Bool) → old q ≡ o → option_or o (cond t (Some k) None) ≡ Some p → p < length nodes
    low q p None true e is = let same : k ≡ p = cc in omega (arith, same, there_below nodes k n here)
    low q p None false e is = absurd (cc)
    low q p (Some r) t e is = let same : r ≡ p = cc in omega (arith, same, so.below q r e)

pub fill_all : {K : Type 0} (test : K → Node → Bool) (nodes : List Node) (k : ℕ) (index : K → Option ℕ) → length nodes ≤ k → IsFilledTo test nodes k index → IsIndex nodes (λ q. find (test q) nodes) index
fill_all test nodes k index l so = record {
  node = λ q. sym (ap (find (test q)) (take_all k nodes l)) ∙ so.node q;
  below = so.below;
}

-- ---- what is noted of an id

or_none : (o : Option ℕ) → o ≡ option_or o None
or_none None = refl
or_none (Some p) = refl

-- where the id has a place
pub noted_before : (index : List ℕ → Option ℕ) (id q : List ℕ) (place : ℕ) → is_some (index id) ≡ true → index q ≡ option_or (index q) (cond (bytes_eq id q) (Some place) None)
noted_before index id q place there_already = by_test (bytes_eq id q) refl
  where
    by_some : (o : Option ℕ) → is_some o ≡ true → o ≡ option_or o (Some place)
    by_some None h = cc
    by_some (Some p) h = refl

    by_test : (t : Bool) → bytes_eq id q ≡ t → index q ≡ option_or (index q) (cond t (Some place) None)
    by_test true e = by_some (index q) (ap (λ x. is_some (index x)) (sym ((bytes_decides id q).0 e)) ∙ there_already)
    by_test false e = or_none (index q)

-- where it has none
pub noted_now : (index : List ℕ → Option ℕ) (id q : List ℕ) (place : ℕ) (new : Option ℕ) → is_some (index id) ≡ false → new ≡ cond (bytes_eq id q) (Some place) (index q) → new ≡ option_or (index q) (cond (bytes_eq id q) (Some place) None)
noted_now index id q place new none put = put ∙ by_test (bytes_eq id q) refl
  where
    by_none : (o : Option ℕ) → is_some o ≡ false → Some place ≡ option_or o (Some place)
    by_none None h = refl
    by_none (Some p) h = cc

    by_test : (t : Bool) → bytes_eq id q ≡ t → cond t (Some place) (index q) ≡ option_or (index q) (cond t (Some place) None)
    by_test true e = by_none (index q) (ap (λ x. is_some (index x)) (sym ((bytes_decides id q).0 e)) ∙ none)
    by_test false e = or_none (index q)

-- ---- parents stand before their children

back : (P : Node → Type 0) (ns : List Node) → AllByRecursion P (reverse ns) → AllByRecursion P ns
back P ns each = along_each P (reverse (reverse ns)) ns (reverse-reverse ns) (each_reverse P (reverse ns) each)

-- no node's parent is the node itself or stands after it
abbrev Forward : List Node → Type 0
Forward [] = Unit {0}
Forward (n ∷ ns) = (n.parent == n.serial ≡ false) × AllByRecursion (λ (m : Node). n.parent == m.serial ≡ false) ns × Forward ns

no_parent_last : (s : ℕ) (rs : List Node) (n : Node) → NoParent s (rs ++ n ∷ []) → (n.parent == s ≡ false) × NoParent s rs
no_parent_last s [] n free = (free.0, tt)
no_parent_last s (m ∷ rs) n free = let rest = no_parent_last s rs n free.1 in (rest.0, (free.0, rest.1))

split_last : (rs : List Node) (n : Node) → ParentsBefore (rs ++ n ∷ []) → (n.parent == n.serial ≡ false) × AllByRecursion (λ (m : Node). n.parent == m.serial ≡ false) rs × ParentsBefore rs
split_last [] n first = (first.0, tt, tt)
split_last (m ∷ rs) n first =
    let free = no_parent_last m.serial rs n first.1 in
    let rest = split_last rs n first.2 in
    (rest.0, (free.0, rest.1), (first.0, free.1, rest.2))

forward : (nodes : List Node) → ParentsBefore (reverse nodes) → Forward nodes
forward [] first = tt
forward (n ∷ ns) first =
    let parts = split_last (reverse ns) n (rw (← reverse-append (n ∷ []) ns) first) in
    (parts.0, back (λ (m : Node). n.parent == m.serial ≡ false) ns parts.1, forward ns parts.2)

parent_before : (nodes : List Node) (p q : ℕ) (n m : Node) → Forward nodes → slice_get nodes p ≡ Some n → slice_get nodes q ≡ Some m → m.serial ≡ n.parent → q < p
parent_before [] p q n m f a b e = cc
parent_before (x ∷ xs) zero zero n m f a b e =
    let one : x ≡ n = cc in
    let two : x ≡ m = cc in
    let never : false ≡ true = sym f.0 ∙ eq-eqb x.parent x.serial (ap (λ (y : Node). y.parent) one ∙ sym e ∙ sym (ap (λ (y : Node). y.serial) two)) in cc
parent_before (x ∷ xs) zero (suc q) n m f a b e =
    let one : x ≡ n = cc in
    let never : false ≡ true = sym (each_at (λ (y : Node). x.parent == y.serial ≡ false) xs q m f.1 b) ∙ eq-eqb x.parent m.serial (ap (λ (y : Node). y.parent) one ∙ sym e) in cc
parent_before (x ∷ xs) (suc p) zero n m f a b e = omega arith
parent_before (x ∷ xs) (suc p) (suc q) n m f a b e = omega (arith, parent_before xs p q n m f.2 a b e)

-- the place of a parent is before that of the node
pub parent_place : (document : Document) → IsNumberedTree document → (p q : ℕ) (n : Node) (o : Option ℕ) → slice_get document.nodes p ≡ Some n → node_at document.nodes n.parent ≡ at_place document.nodes o → ((k : ℕ) → o ≡ Some k → k < length document.nodes) → o ≡ Some q → q < p
parent_place document tree p q n o here at below is =
    let m = there document.nodes q (below q is) in
    let found : node_at document.nodes n.parent ≡ Some m.0 = at ∙ ap (at_place document.nodes) is ∙ m.1 in
    parent_before document.nodes p q n m.0 (forward document.nodes (ordered document tree).first) here m.1 (find-serial n.parent document.nodes m.0 found)

-- ---- time parents

pub upwards_none : (rs : List Node) (s : ℕ) → AllByRecursion (λ (m : Node). m.serial == s ≡ false) rs → upwards rs s ≡ []
upwards_none [] s each = refl
upwards_none (n ∷ before) s each = ap (λ t. cond t (n ∷ upwards before (cond t n.parent s)) (upwards before (cond t n.parent s))) each.0 ∙ upwards_none before s each.1

pub none_each : (s : ℕ) (ns : List Node) → node_at ns s ≡ None → AllByRecursion (λ (m : Node). m.serial == s ≡ false) ns
none_each s [] q = tt
none_each s (n ∷ ns) q = step (n.serial == s) refl q (none_each s ns)
  where
    step : (t : Bool) → n.serial == s ≡ t → cond t (Some n) (node_at ns s) ≡ None → (node_at ns s ≡ None → AllByRecursion (λ (m : Node). m.serial == s ≡ false) ns) → (n.serial == s ≡ false) × AllByRecursion (λ (m : Node). m.serial == s ≡ false) ns
    step true e r later = cc
    step false e r later = (e, later r)

module _ (document : Document) (tree : IsNumberedTree document) where
  abbrev nodes : List Node
  nodes = document.nodes

  pub chain_of : AllByRecursion (IsChain (reverse nodes)) nodes
  chain_of = back (IsChain (reverse nodes)) nodes (ordered_chains nodes (ordered document tree))

  -- what stands above a node stands above its parent, or is its parent
  up_one : (n : Node) → IsChain (reverse nodes) n → time_parent nodes n.serial ≡ find is_element (upwards (reverse nodes) n.parent)
  up_one n chain = ap (λ c. find is_element (drop 1 c)) chain

  abbrev pub above : Option Node → Option Node
  above None = None
  above (Some a) = cond (is_element a) (Some a) (time_parent nodes a.serial)

  pub by_parent : (p : ℕ) (n : Node) → slice_get nodes p ≡ Some n → time_parent nodes n.serial ≡ above (node_at nodes n.parent)
  by_parent p n here = up_one n (each_at (IsChain (reverse nodes)) nodes p n chain_of here) ∙ by_node (node_at nodes n.parent) refl
    where
      by_node : (o : Option Node) → node_at nodes n.parent ≡ o → find is_element (upwards (reverse nodes) n.parent) ≡ above o
      by_node None q = ap (find is_element) (upwards_none (reverse nodes) n.parent (each_reverse (λ (m : Node). m.serial == n.parent ≡ false) nodes (none_each n.parent nodes q)))
      by_node (Some a) q =
          let chain : IsChain (reverse nodes) a = find_each (IsChain (reverse nodes)) (λ (m : Node). m.serial == n.parent) nodes a chain_of q in
          let same : a.serial ≡ n.parent = find-serial n.parent nodes a q in
          ap (λ s. find is_element (upwards (reverse nodes) s)) (sym same)
          ∙ ap (find is_element) chain
          ∙ ap (cond (is_element a) (Some a)) (sym (up_one a chain))

  -- one node more in the table of time parents
  pub time_step : (parents above_places : List (Option ℕ)) (p : ℕ) (n : Node) → slice_get nodes p ≡ Some n → IsTable nodes (λ m. node_at nodes m.parent) parents
      → ((k : ℕ) (m : Node) → k < p → slice_get nodes k ≡ Some m → time_parent nodes m.serial ≡ at_place nodes (up above_places k))
      → time_parent nodes n.serial ≡ at_place nodes (element_above nodes above_places (up parents p))
  time_step parents above_places p n here table so = by_parent p n here ∙ ap above (table.node p n here) ∙ by_place (up parents p) refl
    where
      by_place : (o : Option ℕ) → up parents p ≡ o → above (at_place nodes o) ≡ at_place nodes (element_above nodes above_places o)
      by_place None q = refl
      by_place (Some k) q =
          let less : k < p = table.before p k q in
          let m = there nodes k (omega (arith, less, there_below nodes p n here)) in
          ap above m.1 ∙ by_element k m.0 m.1 less (is_element m.0)
          ∙ sym (ap (λ z. at_place nodes (cond (has_element z) (Some k) (up above_places k))) m.1)
        where
          by_element : (k : ℕ) (m : Node) → slice_get nodes k ≡ Some m → k < p → (t : Bool) → cond t (Some m) (time_parent nodes m.serial) ≡ at_place nodes (cond t (Some k) (up above_places k))
          by_element k m at less true = sym at
          by_element k m at less false = so k m less at

-- ---- tables

-- a table has the first k nodes
pub record IsTableTo (nodes : List Node) (of : Node → Option Node) (k : ℕ) (table : List (Option ℕ)) : Type 0 where
  pub count : length table ≡ k
  pub node : (p : ℕ) (n : Node) → p < k → slice_get nodes p ≡ Some n → of n ≡ at_place nodes (up table p)
  pub before : (p q : ℕ) → up table p ≡ Some q → q < p

front_entry : (xs : List (Option ℕ)) (y : Option ℕ) (k : ℕ) → k < length xs → up (xs ++ y ∷ []) k ≡ up xs k
front_entry [] y k l = absurd (omega (arith, l))
front_entry (x ∷ xs) y zero l = refl
front_entry (x ∷ xs) y (suc k) l = front_entry xs y k (omega (arith, l))

end_entry : (xs : List (Option ℕ)) (y : Option ℕ) → up (xs ++ y ∷ []) (length xs) ≡ y
end_entry [] y = refl
end_entry (x ∷ xs) y = end_entry xs y

past_entry : (xs : List (Option ℕ)) (k : ℕ) → length xs ≤ k → up xs k ≡ None
past_entry [] k l = refl
past_entry (x ∷ xs) zero l = absurd (omega (arith, l))
past_entry (x ∷ xs) (suc k) l = past_entry xs k (omega (arith, l))

entry_length : (xs : List (Option ℕ)) (y : Option ℕ) → length (xs ++ y ∷ []) ≡ length xs + 1
entry_length [] y = refl
entry_length (x ∷ xs) y = let rest : length (xs ++ y ∷ []) ≡ length xs + 1 = entry_length xs y in omega (arith, rest)

pub table_step : (nodes : List Node) (of : Node → Option Node) (k : ℕ) (table : List (Option ℕ)) (entry : Option ℕ) → IsTableTo nodes of k table → ((n : Node) → slice_get nodes k ≡ Some n → of n ≡ at_place nodes entry) → ((q : ℕ) → entry ≡ Some q → q < k) → IsTableTo nodes of (k + 1) (table ++ entry ∷ [])
table_step nodes of k table entry so here low = record {
  count = entry_length table entry ∙ ap (λ m. m + 1) so.count;
  node = λ p n l at. by_place p n at (split p k l);
  before = λ p q e. by_entry p q e (compare p k);
}
  where
    split : (p k : ℕ) → p < k + 1 → (p < k) ⊎ (p ≡ k)
    split p k l = grind arith

    compare : (p k : ℕ) → (p < k) ⊎ ((p ≡ k) ⊎ (k < p))
    compare p k = grind arith

    by_place : (p : ℕ) (n : Node) → slice_get nodes p ≡ Some n → (p < k) ⊎ (p ≡ k) → of n ≡ at_place nodes (up (table ++ entry ∷ []) p)
    by_place p n at (inl l) = so.node p n l at ∙ ap (at_place nodes) (sym (front_entry table entry p (omega (arith, l, so.count))))
    by_place p n at (inr e) = here n (sym (ap (slice_get nodes) e) ∙ at) ∙ ap (at_place nodes) (sym (ap (up (table ++ entry ∷ [])) (e ∙ sym so.count) ∙ end_entry table entry))

    by_entry : (p q : ℕ) → up (table ++ entry ∷ []) p ≡ Some q → (p < k) ⊎ ((p ≡ k) ⊎ (k < p)) → q < p
    by_entry p q e (inl l) = so.before p q (sym (front_entry table entry p (omega (arith, l, so.count))) ∙ e)
    by_entry p q e (inr (inl s)) = omega (arith, low q (sym (ap (up (table ++ entry ∷ [])) (s ∙ sym so.count) ∙ end_entry table entry) ∙ e), s)
    by_entry p q e (inr (inr l)) = let never : None ≡ Some q = sym (past_entry (table ++ entry ∷ []) p (omega (arith, l, so.count, entry_length table entry))) ∙ e in absurd (cc)

pub table_all : (nodes : List Node) (of : Node → Option Node) (k : ℕ) (table : List (Option ℕ)) → k ≡ length nodes → IsTableTo nodes of k table → IsTable nodes of table
table_all nodes of k table l so = record {
  count = so.count ∙ l;
  node = λ p n at. so.node p n (omega (arith, there_below nodes p n at, l)) at;
  before = so.before;
}

pub parent_step : (document : Document) → IsNumberedTree document → (index : ℕ → Option ℕ) → IsIndex document.nodes (node_at document.nodes) index → (k : ℕ) (table : List (Option ℕ)) → IsTableTo document.nodes (λ n. node_at document.nodes n.parent) k table → IsTableTo document.nodes (λ n. node_at document.nodes n.parent) (k + 1) (table ++ parent_by index (slice_get document.nodes k) ∷ [])
parent_step document tree index all k table so = table_step document.nodes (λ n. node_at document.nodes n.parent) k table (parent_by index (slice_get document.nodes k)) so here (λ q e. low q (slice_get document.nodes k) refl e)
  where
    here : (n : Node) → slice_get document.nodes k ≡ Some n → node_at document.nodes n.parent ≡ at_place document.nodes (parent_by index (slice_get document.nodes k))
    here n at = all.node n.parent ∙ sym (ap (λ o. at_place document.nodes (parent_by index o)) at)

    low : (q : ℕ) (o : Option Node) → slice_get document.nodes k ≡ o → parent_by index (slice_get document.nodes k) ≡ Some q → q < k
    low q None at e = let never : None ≡ Some q = sym (ap (parent_by index) at) ∙ e in absurd (cc)
    low q (Some n) at e = parent_place document tree k q n (index n.parent) at (all.node n.parent) (all.below n.parent) (sym (ap (parent_by index) at) ∙ e)

pub time_parent_step : (document : Document) → IsNumberedTree document → (parents : List (Option ℕ)) → IsTable document.nodes (λ m. node_at document.nodes m.parent) parents → (k : ℕ) (table : List (Option ℕ)) → IsTableTo document.nodes (λ n. time_parent document.nodes n.serial) k table → IsTableTo document.nodes (λ n. time_parent document.nodes n.serial) (k + 1) (table ++ element_above document.nodes table (up parents k) ∷ [])
time_parent_step document tree parents all k table so = table_step document.nodes (λ n. time_parent document.nodes n.serial) k table (element_above document.nodes table (up parents k)) so (λ n at. time_step document tree parents table k n at all so.node) (λ q e. low q (up parents k) refl e)
  where
    by_element : (q p : ℕ) (t : Bool) → p < k → cond t (Some p) (up table p) ≡ Some q → q < k
    by_element q p true l e = let same : p ≡ q = cc in omega (arith, l, same)
    by_element q p false l e = omega (arith, l, so.before p q e)

    low : (q : ℕ) (o : Option ℕ) → up parents k ≡ o → element_above document.nodes table (up parents k) ≡ Some q → q < k
    low q None at e = let never : None ≡ Some q = sym (ap (element_above document.nodes table) at) ∙ e in absurd (cc)
    low q (Some p) at e = by_element q p (is_element_at document.nodes p) (all.before k p at) (sym (ap (element_above document.nodes table) at) ∙ e)
