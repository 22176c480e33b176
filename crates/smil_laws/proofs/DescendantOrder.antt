-- Descendants in a document in order: an element is none of its own, its time parent is none, and no sibling is one.
use Rattle.std.proofs.Common.{◌≡◌, refl, sym, ◌∙◌, ap, ℕ, List, [], ◌∷◌, Some, None, Bool, true, false}
use Rattle.std.specs.Prelude.{cond, ◌==◌, ◌||◌, reverse, drop, find, filter, is_some}
use Rattle.std.specs.List.{AllByRecursion}
use Rattle.std.proofs.lemmas.Bool.{or_parts, or_from, eqb-true}
use Rattle.smil_model.specs.declared.document.Node.{Node}
use Rattle.smil_model.specs.document.Document.{is_element, upwards, lineage, time_parent, is_below}
use Rattle.smil_model.specs.document.Valid.{IsDistinct}
use Rattle.smil_model.specs.diary.Lawful.{has_element}
use Rattle.smil_laws.specs.Edited.{IsOrdered}
use Rattle.smil_laws.proofs.LineageParents.{upwards-rest, upwards-head}
use Rattle.smil_laws.proofs.AsideDocuments.{each_reverse}
use Rattle.smil_laws.proofs.DescendantChains.{each_upwards}
use Rattle.smil_laws.proofs.ListMembers.{holds, none_held, found_held, Differ, differ_all, differ_reverse, differ_each}
use Rattle.smil_laws.proofs.Lists.{each_weaker}

-- no node stands above itself
own_free : (x : ℕ) (rs : List Node) → Differ rs → holds x (drop 1 (upwards rs x)) ≡ false
own_free x [] d = refl
own_free x (n ∷ before) d = step (n.serial == x) refl (own_free x before d.1)
  where
    step : (t : Bool) → n.serial == x ≡ t → holds x (drop 1 (upwards before x)) ≡ false → holds x (drop 1 (cond t (n ∷ upwards before (cond t n.parent x)) (upwards before (cond t n.parent x)))) ≡ false
    step true e rest =
        none_held x (upwards before n.parent)
        (each_upwards (λ (m : Node). m.serial == x ≡ false) before n.parent
        (each_weaker (λ (m : Node). m.serial == n.serial ≡ false) (λ (m : Node). m.serial == x ≡ false) before d.0 (λ m q. ap (λ y. m.serial == y) (sym (eqb-true n.serial x e)) ∙ q)))
    step false e rest = rest

-- where an element has this serial, each node with it is an element
all_elements : (x : ℕ) (ns : List Node) → IsDistinct ns → is_some (find (λ (n : Node). n.serial == x) (filter is_element ns)) ≡ true → AllByRecursion (λ (n : Node). n.serial == x ≡ true → is_element n ≡ true) ns
all_elements x [] d q = tt
all_elements x (n ∷ ns) d q = step (is_element n) refl q (all_elements x ns d.1)
  where
    none_else : n.serial == x ≡ true → AllByRecursion (λ (m : Node). m.serial == x ≡ true → is_element m ≡ true) ns
    none_else e = each_weaker (λ (m : Node). m.serial == n.serial ≡ false) (λ (m : Node). m.serial == x ≡ true → is_element m ≡ true) ns (differ_each n.serial ns d.0) each
      where
        each : (m : Node) → m.serial == n.serial ≡ false → m.serial == x ≡ true → is_element m ≡ true
        each m r t = let never : false ≡ true = sym r ∙ ap (λ y. m.serial == y) (eqb-true n.serial x e) ∙ t in cc

    rest_of : (b : Bool) → n.serial == x ≡ b → is_some (cond b (Some n) (find (λ (m : Node). m.serial == x) (filter is_element ns))) ≡ true → (is_some (find (λ (m : Node). m.serial == x) (filter is_element ns)) ≡ true → AllByRecursion (λ (m : Node). m.serial == x ≡ true → is_element m ≡ true) ns) → AllByRecursion (λ (m : Node). m.serial == x ≡ true → is_element m ≡ true) ns
    rest_of true e r later = none_else e
    rest_of false e r later = later r

    step : (b : Bool) → is_element n ≡ b → is_some (find (λ (m : Node). m.serial == x) (cond b (n ∷ filter is_element ns) (filter is_element ns))) ≡ true → (is_some (find (λ (m : Node). m.serial == x) (filter is_element ns)) ≡ true → AllByRecursion (λ (m : Node). m.serial == x ≡ true → is_element m ≡ true) ns) → (n.serial == x ≡ true → is_element n ≡ true) × AllByRecursion (λ (m : Node). m.serial == x ≡ true → is_element m ≡ true) ns
    step true e r later = (λ t. e, rest_of (n.serial == x) refl r later)
    step false e r later = (λ t. absurd (lost t), later r)
      where
        lost : n.serial == x ≡ true → ⊥
        lost t =
            let here : holds n.serial ns ≡ true = ap (λ y. holds y ns) (eqb-true n.serial x t) ∙ found_held is_element x ns r in
            let never : false ≡ true = sym d.0 ∙ here in cc

module _ (nodes : List Node) (o : IsOrdered nodes) where
  -- in a chain without x, the nearest element is not x, and x does not stand above it
  chain_free : (x : ℕ) (chain : List Node) (s : ℕ) (p : Node) → lineage nodes s ≡ chain → holds x chain ≡ false → find is_element chain ≡ Some p → (p.serial == x ≡ false) × (is_below nodes x p.serial ≡ false)
  chain_free x [] s p e free q = cc
  chain_free x (m ∷ rest) s p e free q = step (is_element m) q (chain_free x rest m.parent p (upwards-rest (reverse nodes) s m rest o.first e) (or_parts _ _ free).1)
    where
      step : (t : Bool) → cond t (Some m) (find is_element rest) ≡ Some p → (find is_element rest ≡ Some p → (p.serial == x ≡ false) × (is_below nodes x p.serial ≡ false)) → (p.serial == x ≡ false) × (is_below nodes x p.serial ≡ false)
      step true r later =
          let one : m ≡ p = cc in
          let parts = or_parts (m.serial == x) (holds x rest) free in
          let head = upwards-head (reverse nodes) s m rest e in
          rw (← one, head, e) (ap (λ y. y == x) (sym head) ∙ parts.0, parts.1)
      step false r later = later r

  -- and the other way, where x is an element
  chain_holds_none : (x : ℕ) (chain : List Node) (s : ℕ) (p : Node) → lineage nodes s ≡ chain → find is_element chain ≡ Some p → AllByRecursion (λ (n : Node). n.serial == x ≡ true → is_element n ≡ true) chain → p.serial == x ≡ false → is_below nodes x p.serial ≡ false → holds x chain ≡ false
  chain_holds_none x [] s p e q each here free = refl
  chain_holds_none x (m ∷ rest) s p e q each here free = step (is_element m) refl q (λ r. chain_holds_none x rest m.parent p (upwards-rest (reverse nodes) s m rest o.first e) r each.1 here free)
    where
      other : (u : Bool) → m.serial == x ≡ u → is_element m ≡ false → m.serial == x ≡ false
      other true d k = let never : false ≡ true = sym k ∙ each.0 d in cc
      other false d k = d

      step : (t : Bool) → is_element m ≡ t → cond t (Some m) (find is_element rest) ≡ Some p → (find is_element rest ≡ Some p → holds x rest ≡ false) → ((m.serial == x) || holds x rest) ≡ false
      step true k r later =
          let one : m ≡ p = cc in
          or_from _ _ (ap (λ (n : Node). n.serial == x) one ∙ here)
          (sym (ap (λ c. holds x (drop 1 c)) e) ∙ sym (ap (λ y. holds x (drop 1 (lineage nodes y))) (upwards-head (reverse nodes) s m rest e)) ∙ ap (λ (n : Node). is_below nodes x n.serial) one ∙ free)
      step false k r later = or_from _ _ (other (m.serial == x) refl k) (later r)

  -- no element is a descendant of itself
  pub below_none : (x : ℕ) → is_below nodes x x ≡ false
  below_none x = own_free x (reverse nodes) (differ_reverse nodes (differ_all nodes o.distinct))

  -- the time parent of what is no descendant of x is neither x nor a descendant of it
  pub parent_apart : (x s : ℕ) (p : Node) → is_below nodes x s ≡ false → time_parent nodes s ≡ Some p → (p.serial == x ≡ false) × (is_below nodes x p.serial ≡ false)
  parent_apart x s p free q = by_chain (lineage nodes s) refl
    where
      by_chain : (chain : List Node) → lineage nodes s ≡ chain → (p.serial == x ≡ false) × (is_below nodes x p.serial ≡ false)
      by_chain [] e = let never : None ≡ Some p = sym (ap (λ c. find is_element (drop 1 c)) e) ∙ q in cc
      by_chain (m ∷ rest) e =
          chain_free x rest m.parent p (upwards-rest (reverse nodes) s m rest o.first e)
          (sym (ap (λ c. holds x (drop 1 c)) e) ∙ free) (sym (ap (λ c. find is_element (drop 1 c)) e) ∙ q)

  -- an element is above no child of a time parent that is neither the element nor a descendant of it
  pub child_apart : (x s : ℕ) (p : Node) → has_element nodes x ≡ true → time_parent nodes s ≡ Some p → p.serial == x ≡ false → is_below nodes x p.serial ≡ false → is_below nodes x s ≡ false
  child_apart x s p known q here free = by_chain (lineage nodes s) refl (each_upwards (λ (n : Node). n.serial == x ≡ true → is_element n ≡ true) (reverse nodes) s (each_reverse (λ (n : Node). n.serial == x ≡ true → is_element n ≡ true) nodes (all_elements x nodes o.distinct known)))
    where
      by_chain : (chain : List Node) → lineage nodes s ≡ chain → AllByRecursion (λ (n : Node). n.serial == x ≡ true → is_element n ≡ true) chain → is_below nodes x s ≡ false
      by_chain [] e each = let never : None ≡ Some p = sym (ap (λ c. find is_element (drop 1 c)) e) ∙ q in cc
      by_chain (m ∷ rest) e each =
          ap (λ c. holds x (drop 1 c)) e
          ∙ chain_holds_none x rest m.parent p (upwards-rest (reverse nodes) s m rest o.first e) (sym (ap (λ c. find is_element (drop 1 c)) e) ∙ q) each.1 here free
