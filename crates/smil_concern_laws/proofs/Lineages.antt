-- No element is above its own time parent, and what is neither x nor below it is apart from x.
use Rattle.std.proofs.Common.{◌≡◌, refl, sym, ◌∙◌, ap, ℕ, List, [], ◌∷◌, Some, None, Bool, true, false, inl, inr}
use Rattle.std.specs.Prelude.{◌==◌, ◌&&◌, ◌⊎◌, cond, drop, find, reverse}
use Rattle.std.specs.List.{list_any}
use Rattle.std.proofs.lemmas.Bool.{or_left, or_right, or_parts, or_from, or_cases, eqb-true}
use Rattle.smil_model.specs.declared.document.Node.{Node}
use Rattle.smil_model.specs.document.Document.{is_element, elements, serials, upwards, lineage, time_parent, is_within, is_below}
use Rattle.smil_model.specs.document.Closure.{has}
use Rattle.smil_laws.specs.Locality.{NoParent, ParentsBefore}
use Rattle.smil_laws.proofs.LineageParents.{skip, take_it, upwards-rest, upwards-head, is_above, above_parent, not_parent}
use Rattle.smil_laws.proofs.ForeignEntries.{Apart}
use Rattle.smil_laws.proofs.ReachClosed.{any_kept, any_reverse, chain_begins, from_serials, no_element_above}

-- one of the listed serials that passes
pub any_serial : (t : ℕ → Bool) (ns : List Node) (s : ℕ) → has (serials ns) s ≡ true → t s ≡ true → list_any (λ (n : Node). t n.serial) ns ≡ true
any_serial t [] s i q = cc
any_serial t (n ∷ ns) s i q = by_case (or_cases (n.serial == s) (has (serials ns) s) i) (λ r. any_serial t ns s r q)
  where
    by_case : (n.serial == s ≡ true) ⊎ (has (serials ns) s ≡ true) → (has (serials ns) s ≡ true → list_any (λ (m : Node). t m.serial) ns ≡ true) → list_any (λ (m : Node). t m.serial) (n ∷ ns) ≡ true
    by_case (inl d) later = or_left _ _ (ap t (eqb-true n.serial s d) ∙ q)
    by_case (inr r) later = or_right _ _ (later r)

pub in_nodes : (nodes : List Node) (s : ℕ) → has (serials (elements nodes)) s ≡ true → list_any (λ (n : Node). n.serial == s) nodes ≡ true
in_nodes nodes s i = any_kept is_element (λ (n : Node). n.serial == s) (λ (n : Node). n.serial == s) nodes (λ n p q. q) (from_serials s (elements nodes) i)

-- ---- below x or not

-- what is not x and not below it is not within it
pub not_within : (nodes : List Node) (x s : ℕ) → s == x ≡ false → is_below nodes x s ≡ false → is_within nodes x s ≡ false
not_within nodes x s other free = by_chain (lineage nodes s) refl
  where
    by_chain : (chain : List Node) → lineage nodes s ≡ chain → is_within nodes x s ≡ false
    by_chain [] q = ap (list_any (λ (n : Node). n.serial == x)) q
    by_chain (m ∷ rest) q =
        let here : m.serial == x ≡ false = ap (λ k. k == x) (upwards-head (reverse nodes) s m rest q) ∙ other in
        let above : list_any (λ (n : Node). n.serial == x) rest ≡ false = sym (ap (λ c. list_any (λ (n : Node). n.serial == x) (drop 1 c)) q) ∙ free in
        ap (list_any (λ (n : Node). n.serial == x)) q ∙ or_from _ _ here above

-- and apart from it
pub apart_other : (nodes : List Node) (x s : ℕ) → s == x ≡ false → is_below nodes x s ≡ false → Apart nodes x s
apart_other nodes x s other free = record {
  self = other;
  above = no_element_above x (lineage nodes s) (not_within nodes x s other free);
}

pub apart_free : (nodes : List Node) (x s : ℕ) → has (serials (elements nodes)) s ≡ true → is_within nodes x s ≡ false → Apart nodes x s
apart_free nodes x s i free = record {
  self = chain_begins (reverse nodes) s x (any_reverse (λ (n : Node). n.serial == s) nodes (in_nodes nodes s i)) free;
  above = no_element_above x (lineage nodes s) free;
}

-- ---- an element and its own time parent

-- a chain of parents that are not x does not come to x
not_met : (x : ℕ) (rs : List Node) (s : ℕ) → NoParent x rs → s == x ≡ false → list_any (λ (n : Node). n.serial == x) (upwards rs s) ≡ false
not_met x [] s free other = refl
not_met x (n ∷ before) s free other = step (n.serial == s) refl (not_met x before n.parent free.1 free.0) (not_met x before s free.1 other)
  where
    step : (t : Bool) → n.serial == s ≡ t → list_any (λ (m : Node). m.serial == x) (upwards before n.parent) ≡ false → list_any (λ (m : Node). m.serial == x) (upwards before s) ≡ false → list_any (λ (m : Node). m.serial == x) (upwards (n ∷ before) s) ≡ false
    step true t above below =
        ap (list_any (λ (m : Node). m.serial == x)) (take_it n before s t)
        ∙ or_from _ _ (ap (λ k. k == x) (eqb-true n.serial s t) ∙ other) above
    step false t above below = ap (list_any (λ (m : Node). m.serial == x)) (skip n before s t) ∙ below

-- an element is not above itself
not_above_itself : (rs : List Node) (s : ℕ) (m : Node) (rest : List Node) → ParentsBefore rs → upwards rs s ≡ m ∷ rest → list_any (λ (n : Node). n.serial == s) rest ≡ false
not_above_itself [] s m rest first q = cc
not_above_itself (n ∷ before) s m rest first q = step (n.serial == s) refl (not_above_itself before s m rest first.2)
  where
    step : (t : Bool) → n.serial == s ≡ t → (upwards before s ≡ m ∷ rest → list_any (λ (n : Node). n.serial == s) rest ≡ false) → list_any (λ (n : Node). n.serial == s) rest ≡ false
    step true t later =
        let same : n ∷ upwards before n.parent ≡ m ∷ rest = sym (take_it n before s t) ∙ q in
        let tail : upwards before n.parent ≡ rest = cc in
        let met : list_any (λ (k : Node). k.serial == n.serial) (upwards before n.parent) ≡ false = not_met n.serial before n.parent first.1 first.0 in
        sym (ap (list_any (λ (k : Node). k.serial == s)) tail) ∙ sym (ap (λ v. list_any (λ (k : Node). k.serial == v) (upwards before n.parent)) (eqb-true n.serial s t)) ∙ met
    step false t later = later (sym (skip n before s t) ∙ q)

module _ (nodes : List Node) (first : ParentsBefore (reverse nodes)) (x : ℕ) where
  -- the time parent of what is apart from x
  pub parent_apart : (s : ℕ) → Apart nodes x s → (p : Node) → time_parent nodes s ≡ Some p → Apart nodes x p.serial
  parent_apart s apart p found = record {
    self = not_parent nodes first x s p apart.above found;
    above = above_parent nodes first x s p apart.above found;
  }

  -- and of x itself
  pub own_parent_apart : (p : Node) → time_parent nodes x ≡ Some p → Apart nodes x p.serial
  own_parent_apart p found = by_chain (lineage nodes x) refl
    where
      by_chain : (chain : List Node) → lineage nodes x ≡ chain → Apart nodes x p.serial
      by_chain [] q = let none : None ≡ Some p = sym (ap (λ c. find is_element (drop 1 c)) q) ∙ found in cc
      by_chain (m ∷ rest) q = by_rest rest up (sym (ap (λ c. find is_element (drop 1 c)) q) ∙ found)
        where
          up : lineage nodes m.parent ≡ rest
          up = upwards-rest (reverse nodes) x m rest first q

          free : is_above nodes x m.parent ≡ false
          free = ap (list_any (λ (n : Node). is_element n && (n.serial == x))) up ∙ no_element_above x rest (not_above_itself (reverse nodes) x m rest first q)

          by_rest : (rest' : List Node) → lineage nodes m.parent ≡ rest' → find is_element rest' ≡ Some p → Apart nodes x p.serial
          by_rest [] u f = cc
          by_rest (r ∷ rs) u f = step (is_element r) refl f
            where
              step : (t : Bool) → is_element r ≡ t → cond t (Some r) (find is_element rs) ≡ Some p → Apart nodes x p.serial
              step true t g =
                  let one : r ≡ p = cc in
                  let up_to_it : p.serial ≡ m.parent = sym (ap (λ (n : Node). n.serial) one) ∙ upwards-head (reverse nodes) m.parent r rs u in
                  let here : (is_element r && (r.serial == x)) ≡ false = (or_parts _ _ (sym (ap (list_any (λ (n : Node). is_element n && (n.serial == x))) u) ∙ free)).0 in
                  record {
                    self = sym (ap (λ (n : Node). n.serial == x) one) ∙ sym (ap (λ b. b && (r.serial == x)) t) ∙ here;
                    above = ap (is_above nodes x) up_to_it ∙ free;
                  }
              step false t g =
                  let parent : time_parent nodes m.parent ≡ Some p = ap (λ c. find is_element (drop 1 c)) u ∙ g in
                  record {
                    self = not_parent nodes first x m.parent p free parent;
                    above = above_parent nodes first x m.parent p free parent;
                  }
