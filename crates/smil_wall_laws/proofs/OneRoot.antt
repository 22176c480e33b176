-- The root of a document: it has no time parent, every other element has one, and where what is
-- active is alive, the root is active while any element is.
use Rattle.std.proofs.Common.{◌≡◌, refl, sym, ◌∙◌, ap, subst, ℕ, ◌<◌, List, [], ◌∷◌, Option, Some, None, Bool, true, false, arith, inl, inr}
use Rattle.std.specs.Prelude.{cond, ◌==◌, ◌⊎◌, reverse, drop, find, is_some, slice_get, All}
use Rattle.std.specs.List.{AllByRecursion, list_any}
use Rattle.std.proofs.lemmas.Bool.{or_left, or_right, or_cases, eq-eqb, eqb-true, ne_eqb}
use Rattle.std.proofs.lemmas.List.{reverse-reverse}
use Rattle.std.proofs.lemmas.List.Elements.{All-head, All-tail}
use Rattle.smil_model.specs.declared.diary.Entry.{Entry}
use Rattle.smil_model.specs.declared.document.Node.{Node}
use Rattle.smil_model.specs.document.Document.{Document, elements, node_at, is_element, upwards, lineage, time_parent}
use Rattle.smil_model.specs.document.Valid.{IsNumberedTree, IsTree, IsTreeFrom, open_from}
use Rattle.smil_model.specs.diary.Diary.{is_active, lives_under}
use Rattle.smil_laws.specs.Edited.{IsOrdered}
use Rattle.smil_laws.proofs.NumberedTrees.{ordered}
use Rattle.smil_laws.proofs.LineageParents.{upwards-rest, upwards-head}
use Rattle.smil_laws.proofs.DescendantChains.{each_upwards, IsChain, ordered_chains, no_chain}
use Rattle.smil_laws.proofs.ListMembers.{holds, found_held, held_reverse}
use Rattle.smil_laws.proofs.AsideDocuments.{each_reverse}
use Rattle.smil_laws.proofs.Lists.{each_weaker}

-- ---- lists

-- a list with a first element is that element and the rest
pub first_of : {A : Type 0} (xs : List A) (x : A) → slice_get xs 0 ≡ Some x → xs ≡ x ∷ drop 1 xs
first_of [] x q = cc
first_of (y ∷ ys) x q = let one : y ≡ x = cc in ap (λ z. z ∷ ys) one

each_along : (P : Node → Type 0) (xs ys : List Node) → xs ≡ ys → AllByRecursion P xs → AllByRecursion P ys
each_along P xs ys e each = rw (← e) each

each_back : (P : Node → Type 0) (ns : List Node) → AllByRecursion P (reverse ns) → AllByRecursion P ns
each_back P ns each = each_along P (reverse (reverse ns)) ns (reverse-reverse ns) (each_reverse P (reverse ns) each)

each_all : (P : Node → Type 0) (ns : List Node) → All P ns → AllByRecursion P ns
each_all P [] all = tt
each_all P (n ∷ ns) all = (All-head P n ns all, each_all P ns (All-tail P n ns all))

-- what no node has begins no chain
nowhere : (rs : List Node) (s : ℕ) → AllByRecursion (λ (n : Node). n.serial == s ≡ false) rs → upwards rs s ≡ []
nowhere [] s each = refl
nowhere (n ∷ before) s each = ap (λ t. cond t (n ∷ upwards before (cond t n.parent s)) (upwards before (cond t n.parent s))) each.0 ∙ nowhere before s each.1

-- ---- parents

each_held : (ns : List Node) → AllByRecursion (λ (n : Node). holds n.serial ns ≡ true) ns
each_held [] = tt
each_held (n ∷ ns) =
    (or_left _ _ (eq-eqb n.serial n.serial refl), each_weaker (λ (m : Node). holds m.serial ns ≡ true) (λ (m : Node). holds m.serial (n ∷ ns) ≡ true) ns (each_held ns) (λ m h. or_right _ _ h))

open_held : (P : ℕ → Type 0) (parent : ℕ) (xs : List ℕ) → AllByRecursion P xs → AllByRecursion P (open_from parent xs)
open_held P parent [] each = tt
open_held P parent (x ∷ xs) each = step (x == parent) (open_held P parent xs each.1)
  where
    step : (t : Bool) → AllByRecursion P (open_from parent xs) → AllByRecursion P (cond t (x ∷ xs) (open_from parent xs))
    step true r = each
    step false r = r

opened_one : (P : ℕ → Type 0) (s : ℕ) (xs : List ℕ) → AllByRecursion P xs → list_any (λ x. x == s) xs ≡ true → P s
opened_one P s [] each q = cc
opened_one P s (x ∷ xs) each q = by_case (or_cases (x == s) (list_any (λ x. x == s) xs) q) (opened_one P s xs each.1)
  where
    by_case : (x == s ≡ true) ⊎ (list_any (λ x. x == s) xs ≡ true) → (list_any (λ x. x == s) xs ≡ true → P s) → P s
    by_case (inl d) later = rw (← eqb-true x s d) each.0
    by_case (inr d) later = later d

parents_held : (all : List Node) (opened : List ℕ) (ns : List Node) → AllByRecursion (λ (s : ℕ). holds s all ≡ true) opened → AllByRecursion (λ (n : Node). holds n.serial all ≡ true) ns → IsTreeFrom opened ns → AllByRecursion (λ (n : Node). holds n.parent all ≡ true) ns
parents_held all opened [] o each tree = tt
parents_held all opened (n ∷ ns) o each tree = (
  opened_one (λ s. holds s all ≡ true) n.parent opened o tree.0,
  parents_held all (n.serial ∷ open_from n.parent opened) ns (each.0, open_held (λ s. holds s all ≡ true) n.parent opened o) each.1 tree.1,
)

-- ---- the root of a numbered tree

module _ (document : Document) (numbered : IsNumberedTree document) (root : Node) (first : slice_get document.nodes 0 ≡ Some root) where
  abbrev ns : List Node
  ns = document.nodes

  abbrev rs : List Node
  rs = reverse document.nodes

  pub split : document.nodes ≡ root ∷ drop 1 document.nodes
  split = first_of document.nodes root first

  order : IsOrdered document.nodes
  order = ordered document numbered

  pub root_parent : root.parent ≡ 0
  root_parent = go document.nodes split numbered.tree
    where
      go : (xs : List Node) → xs ≡ root ∷ drop 1 document.nodes → IsTree xs → root.parent ≡ 0
      go [] e tree = cc
      go (x ∷ xs) e tree = let one : x ≡ root = cc in ap (λ (n : Node). n.parent) (sym one) ∙ tree.0

  pub none_zero : AllByRecursion (λ (n : Node). n.serial == 0 ≡ false) ns
  none_zero =
      each_weaker (λ (n : Node). (0 < n.serial) × (n.serial < document.next)) (λ (n : Node). n.serial == 0 ≡ false) ns
      (each_all (λ (n : Node). (0 < n.serial) × (n.serial < document.next)) ns numbered.below)
      (λ n low. ne_eqb n.serial 0 (λ e. absurd (omega (arith, e, low.0))))

  root_chain : lineage document.nodes root.serial ≡ root ∷ []
  root_chain =
      (each_along (IsChain rs) ns (root ∷ drop 1 ns) split (each_back (IsChain rs) ns (ordered_chains ns order))).0
      ∙ ap (λ c. root ∷ c) (ap (upwards rs) root_parent ∙ nowhere rs 0 (each_reverse (λ (n : Node). n.serial == 0 ≡ false) ns none_zero))

  pub root_alone : time_parent document.nodes root.serial ≡ None
  root_alone = ap (λ c. find is_element (drop 1 c)) root_chain

  -- a node is the root, or its parent is there
  abbrev HasParent : Node → Type 0
  HasParent n = (n ≡ root) ⊎ (holds n.parent rs ≡ true)

  all_have : AllByRecursion HasParent document.nodes
  all_have =
      each_along HasParent (root ∷ drop 1 ns) ns (sym split)
      (inl refl, each_weaker (λ (n : Node). holds n.parent ns ≡ true) HasParent (drop 1 ns) rest (λ n h. inr (held_reverse n.parent ns ∙ h)))
    where
      whole : AllByRecursion (λ (n : Node). holds n.serial ns ≡ true) (root ∷ drop 1 ns)
      whole = each_along (λ (n : Node). holds n.serial ns ≡ true) ns (root ∷ drop 1 ns) split (each_held ns)

      tree : IsTree (root ∷ drop 1 ns)
      tree = subst (λ (xs : List Node). IsTree xs) split numbered.tree

      rest : AllByRecursion (λ (n : Node). holds n.parent ns ≡ true) (drop 1 ns)
      rest = parents_held ns (root.serial ∷ []) (drop 1 ns) (whole.0, tt) whole.1 tree.1

  -- the first of a chain is the root where nothing stands above it
  ends_at : (q : ℕ) (m : Node) → upwards rs q ≡ m ∷ [] → m ≡ root
  ends_at q m e = by_case (each_along HasParent (upwards rs q) (m ∷ []) e (each_upwards HasParent rs q (each_reverse HasParent ns all_have))).0
    where
      by_case : HasParent m → m ≡ root
      by_case (inl one) = one
      by_case (inr h) = let never : false ≡ true = sym (no_chain rs m.parent (upwards-rest rs q m [] order.first e)) ∙ h in cc

  module _ (element : is_element root ≡ true) where
    -- a chain that isn't empty has an element
    some_element : (c : List Node) (q : ℕ) (m : Node) (rest : List Node) → upwards rs q ≡ c → c ≡ m ∷ rest → is_some (find is_element c) ≡ true
    some_element [] q m rest e is = cc
    some_element (x ∷ []) q m rest e is = ap (λ n. is_some (cond (is_element n) (Some n) None)) (ends_at q x e) ∙ ap (λ t. is_some (cond t (Some root) None)) element
    some_element (x ∷ y ∷ more) q m rest e is = either (is_element x) (some_element (y ∷ more) x.parent y more (upwards-rest rs q x (y ∷ more) order.first e) refl)
      where
        either : (t : Bool) → is_some (find is_element (y ∷ more)) ≡ true → is_some (cond t (Some x) (find is_element (y ∷ more))) ≡ true
        either true r = refl
        either false r = r

    -- where an element of a chain is active, the root is
    climbs : (ds : List Entry) → ((s : ℕ) → is_active ds s ≡ true → lives_under (time_parent ns s) ds ≡ true) → (c : List Node) (q : ℕ) (p : Node) → upwards rs q ≡ c → find is_element c ≡ Some p → is_active ds p.serial ≡ true → is_active ds root.serial ≡ true
    climbs ds live [] q p e found active = cc
    climbs ds live (m ∷ rest) q p e found active = by_kind (is_element m) found (climbs ds live rest m.parent)
      where
        above : upwards rs m.parent ≡ rest
        above = upwards-rest rs q m rest order.first e

        parent : time_parent ns m.serial ≡ find is_element rest
        parent = ap (λ s. find is_element (drop 1 (upwards rs s))) (upwards-head rs q m rest e) ∙ ap (λ c. find is_element (drop 1 c)) e

        by_parent : (o : Option Node) → find is_element rest ≡ o → m ≡ p → lives_under o ds ≡ true → ((x : Node) → upwards rs m.parent ≡ rest → find is_element rest ≡ Some x → is_active ds x.serial ≡ true → is_active ds root.serial ≡ true) → is_active ds root.serial ≡ true
        by_parent (Some x) f one lives later = later x above f lives
        by_parent None f one lives later = by_rest rest refl
          where
            by_rest : (r : List Node) → rest ≡ r → is_active ds root.serial ≡ true
            by_rest [] g = ap (λ (n : Node). is_active ds n.serial) (sym (ends_at q m (e ∙ ap (λ r. m ∷ r) g)) ∙ one) ∙ active
            by_rest (x ∷ more) g = let never : true ≡ false = sym (some_element rest m.parent x more above g) ∙ ap is_some f in cc

        by_kind : (t : Bool) → cond t (Some m) (find is_element rest) ≡ Some p → ((x : Node) → upwards rs m.parent ≡ rest → find is_element rest ≡ Some x → is_active ds x.serial ≡ true → is_active ds root.serial ≡ true) → is_active ds root.serial ≡ true
        by_kind true f later =
            let one : m ≡ p = cc in
            by_parent (find is_element rest) refl one
            (ap (λ o. lives_under o ds) (sym parent) ∙ live m.serial (ap (λ (n : Node). is_active ds n.serial) one ∙ active)) later
        by_kind false f later = later p above f active

    -- so it is where a time parent is active
    pub climbs_from : (ds : List Entry) → ((s : ℕ) → is_active ds s ≡ true → lives_under (time_parent ns s) ds ≡ true) → (s : ℕ) (p : Node) → time_parent ns s ≡ Some p → is_active ds p.serial ≡ true → is_active ds root.serial ≡ true
    climbs_from ds live s p q active = by_chain (lineage ns s) refl
      where
        by_chain : (c : List Node) → lineage ns s ≡ c → is_active ds root.serial ≡ true
        by_chain [] e = let none : None ≡ Some p = sym (ap (λ c. find is_element (drop 1 c)) e) ∙ q in cc
        by_chain (m ∷ rest) e =
            climbs ds live rest m.parent p (upwards-rest rs s m rest order.first e) (sym (ap (λ c. find is_element (drop 1 c)) e) ∙ q) active

    -- an element other than the root has a time parent
    pub has_time_parent : (e : Node) → node_at (elements ns) e.serial ≡ Some e → e.serial == root.serial ≡ false → is_some (time_parent ns e.serial) ≡ true
    has_time_parent e here other = by_chain (lineage ns e.serial) refl
      where
        there : holds e.serial rs ≡ true
        there = held_reverse e.serial ns ∙ found_held is_element e.serial ns (ap is_some here)

        by_chain : (c : List Node) → lineage ns e.serial ≡ c → is_some (time_parent ns e.serial) ≡ true
        by_chain [] q = let never : false ≡ true = sym (no_chain rs e.serial q) ∙ there in cc
        by_chain (m ∷ []) q =
            let one : e.serial ≡ root.serial = sym (upwards-head rs e.serial m [] q) ∙ ap (λ (n : Node). n.serial) (ends_at e.serial m q) in
            let never : true ≡ false = sym (eq-eqb e.serial root.serial one) ∙ other in cc
        by_chain (m ∷ x ∷ more) q =
            ap (λ c. is_some (find is_element (drop 1 c))) q
            ∙ some_element (x ∷ more) m.parent x more (upwards-rest rs e.serial m (x ∷ more) order.first q) refl
