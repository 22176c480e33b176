-- The descendants of an element, where parents stand before their children and no serial is given twice.
use Rattle.std.proofs.Common.{◌≡◌, refl, sym, ◌∙◌, ap, ℕ, List, [], ◌∷◌, Some, Bool, true, false, inl, inr}
use Rattle.std.specs.Prelude.{cond, ◌==◌, ◌||◌, ◌⊎◌, reverse, drop, find, is_some}
use Rattle.std.specs.List.{AllByRecursion, list_any}
use Rattle.std.proofs.lemmas.Bool.{or_left, or_right, or_cases, eqb-true, eq-eqb}
use Rattle.std.proofs.lemmas.List.{reverse-reverse}
use Rattle.smil_model.specs.declared.document.Node.{Node}
use Rattle.smil_model.specs.document.Document.{is_element, upwards, lineage, ancestors, time_parent, is_below}
use Rattle.smil_laws.specs.Locality.{NoParent, ParentsBefore}
use Rattle.smil_laws.specs.Agreement.{IsPlaced}
use Rattle.smil_laws.specs.Edited.{IsOrdered}
use Rattle.smil_laws.proofs.LineageParents.{swap_eqb, skip, take_it, upwards-head}
use Rattle.smil_laws.proofs.AsideDocuments.{find_each, find_true, each_reverse, each_drop}
use Rattle.smil_laws.proofs.Lists.{each_weaker}
use Rattle.smil_laws.proofs.ListMembers.{Differ, differ_all, differ_reverse}

-- ---- lists

pub each_upwards : (P : Node → Type 0) (rs : List Node) (s : ℕ) → AllByRecursion P rs → AllByRecursion P (upwards rs s)
each_upwards P [] s each = tt
each_upwards P (n ∷ before) s each = step (n.serial == s) (each_upwards P before n.parent each.1) (each_upwards P before s each.1)
  where
    step : (t : Bool) → AllByRecursion P (upwards before n.parent) → AllByRecursion P (upwards before s) → AllByRecursion P (cond t (n ∷ upwards before (cond t n.parent s)) (upwards before (cond t n.parent s)))
    step true a b = (each.0, a)
    step false a b = b

-- ---- the lineage of each node

-- the lineage of a node is the node and the lineage of its parent
abbrev pub IsChain : List Node → Node → Type 0
IsChain rs m = upwards rs m.serial ≡ m ∷ upwards rs m.parent

chains : (rs : List Node) → ParentsBefore rs → Differ rs → AllByRecursion (IsChain rs) rs
chains [] first apart = tt
chains (n ∷ before) first apart = (
  take_it n before n.serial (eq-eqb n.serial n.serial refl) ∙ ap (λ c. n ∷ c) (sym (skip n before n.parent (swap_eqb n.parent n.serial first.0))),
  lift before first.1 apart.0 (chains before first.2 apart.1),
)
  where
    lift : (ms : List Node) → NoParent n.serial ms → AllByRecursion (λ (m : Node). m.serial == n.serial ≡ false) ms → AllByRecursion (IsChain before) ms → AllByRecursion (IsChain (n ∷ before)) ms
    lift [] free each chain = tt
    lift (m ∷ ms) free each chain = (
      skip n before m.serial (swap_eqb m.serial n.serial each.0) ∙ chain.0 ∙ ap (λ c. m ∷ c) (sym (skip n before m.parent (swap_eqb m.parent n.serial free.0))),
      lift ms free.1 each.1 chain.1,
    )

pub ordered_chains : (nodes : List Node) → IsOrdered nodes → AllByRecursion (IsChain (reverse nodes)) (reverse nodes)
ordered_chains nodes o = chains (reverse nodes) o.first (differ_reverse nodes (differ_all nodes o.distinct))

pub no_chain : (rs : List Node) (s : ℕ) → upwards rs s ≡ [] → list_any (λ (n : Node). n.serial == s) rs ≡ false
no_chain [] s q = refl
no_chain (n ∷ before) s q = step (n.serial == s) q (no_chain before s)
  where
    step : (t : Bool) → cond t (n ∷ upwards before (cond t n.parent s)) (upwards before (cond t n.parent s)) ≡ [] → (upwards before s ≡ [] → list_any (λ (n : Node). n.serial == s) before ≡ false) → (t || list_any (λ (n : Node). n.serial == s) before) ≡ false
    step true r later = cc
    step false r later = later r

-- ---- the descendants of the time parent of a node

pub found_any : (t : Node → Bool) (ns : List Node) (n : Node) → find t ns ≡ Some n → list_any (λ (m : Node). m.serial == n.serial) ns ≡ true
found_any t [] n q = cc
found_any t (m ∷ ms) n q = step (t m) q (found_any t ms n)
  where
    step : (b : Bool) → cond b (Some m) (find t ms) ≡ Some n → (find t ms ≡ Some n → list_any (λ (m : Node). m.serial == n.serial) ms ≡ true) → ((m.serial == n.serial) || list_any (λ (m : Node). m.serial == n.serial) ms) ≡ true
    step true r later = let one : m ≡ n = cc in or_left _ _ (eq-eqb m.serial n.serial (ap (λ (x : Node). x.serial) one))
    step false r later = or_right _ _ (later r)

any_found : (t : Node → Bool) (ns : List Node) → AllByRecursion (λ (n : Node). t n ≡ true → is_element n ≡ true) ns → list_any t ns ≡ true → is_some (find is_element ns) ≡ true
any_found t [] each q = cc
any_found t (n ∷ ns) each q = step (is_element n) refl (or_cases (t n) (list_any t ns) q) (any_found t ns each.1)
  where
    step : (b : Bool) → is_element n ≡ b → (t n ≡ true) ⊎ (list_any t ns ≡ true) → (list_any t ns ≡ true → is_some (find is_element ns) ≡ true) → is_some (cond b (Some n) (find is_element ns)) ≡ true
    step true e c later = refl
    step false e (inl d) later = let never : false ≡ true = sym e ∙ each.0 d in cc
    step false e (inr d) later = later d

-- a descendant of an element has a time parent
pub under_some : (nodes : List Node) (p s : ℕ) → AllByRecursion (λ (n : Node). n.serial == p ≡ true → is_element n ≡ true) nodes → is_below nodes p s ≡ true → is_some (time_parent nodes s) ≡ true
under_some nodes p s each q =
    any_found (λ (a : Node). a.serial == p) (ancestors nodes s)
    (each_drop (λ (n : Node). n.serial == p ≡ true → is_element n ≡ true) 1 (lineage nodes s) (each_upwards (λ (n : Node). n.serial == p ≡ true → is_element n ≡ true) (reverse nodes) s (each_reverse (λ (n : Node). n.serial == p ≡ true → is_element n ≡ true) nodes each))) q

module _ (nodes : List Node) (o : IsOrdered nodes) (x : ℕ) (parent : Node) (under : time_parent nodes x ≡ Some parent) where
  abbrev rs : List Node
  rs = reverse nodes

  abbrev p : ℕ
  p = parent.serial

  pub edited_below : is_below nodes p x ≡ true
  edited_below = found_any is_element (ancestors nodes x) parent under

  parent_chain : IsChain rs parent
  parent_chain = find_each (IsChain rs) is_element (ancestors nodes x) parent (each_drop (IsChain rs) 1 (lineage nodes x) (each_upwards (IsChain rs) rs x (ordered_chains nodes o))) under

  parent_element : is_element parent ≡ true
  parent_element = find_true is_element (ancestors nodes x) parent under

  place : (m : Node) → IsChain rs m → IsPlaced (is_below nodes p) p m
  place m chain = (ap (λ c. list_any (λ (a : Node). a.serial == p) (drop 1 c)) chain ∙ by_chain (upwards rs m.parent) refl, same_node)
    where
      same_node : m.serial == p ≡ true → is_element m ≡ true
      same_node t =
          let one : m ∷ upwards rs m.parent ≡ parent ∷ upwards rs parent.parent = sym chain ∙ ap (upwards rs) (eqb-true m.serial p t) ∙ parent_chain in
          let node : m ≡ parent = cc in
          rw node parent_element

      by_chain : (c : List Node) → upwards rs m.parent ≡ c → list_any (λ (a : Node). a.serial == p) (upwards rs m.parent) ≡ ((m.parent == p) || list_any (λ (a : Node). a.serial == p) (drop 1 (upwards rs m.parent)))
      by_chain [] q = by_test (m.parent == p) refl
        where
          by_test : (t : Bool) → m.parent == p ≡ t → list_any (λ (a : Node). a.serial == p) (upwards rs m.parent) ≡ (t || list_any (λ (a : Node). a.serial == p) (drop 1 (upwards rs m.parent)))
          by_test true d = let gone : [] ≡ parent ∷ upwards rs parent.parent = sym q ∙ ap (upwards rs) (eqb-true m.parent p d) ∙ parent_chain in cc
          by_test false d = ap (λ c. list_any (λ (a : Node). a.serial == p) c) q ∙ sym (ap (λ c. list_any (λ (a : Node). a.serial == p) (drop 1 c)) q)
      by_chain (n ∷ rest) q =
          ap (λ c. list_any (λ (a : Node). a.serial == p) c) q
          ∙ ap (λ s. (s == p) || list_any (λ (a : Node). a.serial == p) rest) (upwards-head rs m.parent n rest q)
          ∙ ap (λ c. (m.parent == p) || list_any (λ (a : Node). a.serial == p) (drop 1 c)) (sym q)

  pub all_placed : AllByRecursion (IsPlaced (is_below nodes p) p) nodes
  all_placed =
      let back : AllByRecursion (IsPlaced (is_below nodes p) p) (reverse rs) = each_reverse (IsPlaced (is_below nodes p) p) rs (each_weaker (IsChain rs) (IsPlaced (is_below nodes p) p) rs (ordered_chains nodes o) place) in
      along (reverse rs) nodes (reverse-reverse nodes) back
    where
      along : (xs ys : List Node) → xs ≡ ys → AllByRecursion (IsPlaced (is_below nodes p) p) xs → AllByRecursion (IsPlaced (is_below nodes p) p) ys
      along xs ys e each = rw (← e) each
