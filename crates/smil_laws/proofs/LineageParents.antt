-- Where parents stand before their children, the lineage of a parent is the rest of the lineage of the child.
use Rattle.std.proofs.Common.{◌≡◌, refl, sym, ◌∙◌, ap, ℕ, List, [], ◌∷◌, Option, Some, None, Bool, true, false, arith}
use Rattle.std.specs.Prelude.{cond, ◌==◌, ◌&&◌, reverse, drop, find}
use Rattle.std.specs.List.{list_any}
use Rattle.std.proofs.lemmas.Bool.{or_parts, eqb-true, eqb-false, ne_eqb}
use Rattle.smil_model.specs.declared.document.Node.{Node}
pub use Rattle.smil_laws.specs.Locality.{NoParent, ParentsBefore}
use Rattle.smil_model.specs.document.Document.{upwards, lineage, time_parent, is_element, has_serial, serial_of}
use Rattle.smil_model.specs.reach.Reach.{is_option}

pub swap_eqb : (a b : ℕ) → a == b ≡ false → b == a ≡ false
swap_eqb a b q = ne_eqb b a (λ e. eqb-false a b q (sym e))

pub same_eqb : (a b : ℕ) → a == b ≡ b == a
same_eqb a b = grind arith

pub is_option-serial_of : (s : ℕ) (o : Option Node) → is_option s (serial_of o) ≡ has_serial s o
is_option-serial_of s None = refl
is_option-serial_of s (Some n) = same_eqb s n.serial

-- a chain that does not begin at the last node does not meet it
pub skip : (n : Node) (before : List Node) (s : ℕ) → n.serial == s ≡ false → upwards (n ∷ before) s ≡ upwards before s
skip n before s q = ap (λ t. cond t (n ∷ upwards before (cond t n.parent s)) (upwards before (cond t n.parent s))) q

pub take_it : (n : Node) (before : List Node) (s : ℕ) → n.serial == s ≡ true → upwards (n ∷ before) s ≡ n ∷ upwards before n.parent
take_it n before s q = ap (λ t. cond t (n ∷ upwards before (cond t n.parent s)) (upwards before (cond t n.parent s))) q

-- the parent of a node of a chain is none of the later nodes
parent_free : (x : ℕ) (before : List Node) (s : ℕ) (m : Node) (rest : List Node) → NoParent x before → upwards before s ≡ m ∷ rest → m.parent == x ≡ false
parent_free x [] s m rest free q = cc
parent_free x (n ∷ before) s m rest free q = step (n.serial == s) refl (parent_free x before s m rest free.1)
  where
    step : (t : Bool) → n.serial == s ≡ t → (upwards before s ≡ m ∷ rest → m.parent == x ≡ false) → m.parent == x ≡ false
    step true t later = let same : n ∷ upwards before n.parent ≡ m ∷ rest = sym (take_it n before s t) ∙ q in let one : n ≡ m = cc in rw (← one) free.0
    step false t later = later (sym (skip n before s t) ∙ q)

-- the rest of a chain is the chain of the parent
pub upwards-rest : (rs : List Node) (s : ℕ) (m : Node) (rest : List Node) → ParentsBefore rs → upwards rs s ≡ m ∷ rest → upwards rs m.parent ≡ rest
upwards-rest [] s m rest first q = cc
upwards-rest (n ∷ before) s m rest first q = step (n.serial == s) refl (upwards-rest before s m rest first.2)
  where
    step : (t : Bool) → n.serial == s ≡ t → (upwards before s ≡ m ∷ rest → upwards before m.parent ≡ rest) → upwards (n ∷ before) m.parent ≡ rest
    step true t later =
        let same : n ∷ upwards before n.parent ≡ m ∷ rest = sym (take_it n before s t) ∙ q in
        let one : n ≡ m = cc in
        let tail : upwards before n.parent ≡ rest = cc in
        rw (← one) (skip n before n.parent (swap_eqb n.parent n.serial first.0) ∙ tail)
    step false t later =
        let chain : upwards before s ≡ m ∷ rest = sym (skip n before s t) ∙ q in
        skip n before m.parent (swap_eqb m.parent n.serial (parent_free n.serial before s m rest first.1 chain)) ∙ later chain

-- the first of a chain is the node with its serial
pub upwards-head : (rs : List Node) (s : ℕ) (m : Node) (rest : List Node) → upwards rs s ≡ m ∷ rest → m.serial ≡ s
upwards-head [] s m rest q = cc
upwards-head (n ∷ before) s m rest q = step (n.serial == s) refl (upwards-head before s m rest)
  where
    step : (t : Bool) → n.serial == s ≡ t → (upwards before s ≡ m ∷ rest → m.serial ≡ s) → m.serial ≡ s
    step true t later = let same : n ∷ upwards before n.parent ≡ m ∷ rest = sym (take_it n before s t) ∙ q in let one : n ≡ m = cc in rw (← one) (eqb-true n.serial s t)
    step false t later = later (sym (skip n before s t) ∙ q)

-- ---- what is not in a lineage is not in that of the time parent

-- whether the element x is in the lineage of s
abbrev pub is_above : List Node → ℕ → ℕ → Bool
is_above nodes x s = list_any (λ (n : Node). is_element n && (n.serial == x)) (lineage nodes s)

module _ (nodes : List Node) (first : ParentsBefore (reverse nodes)) (x : ℕ) where
  in_rest : (s : ℕ) (chain : List Node) (p : Node) → lineage nodes s ≡ chain → list_any (λ (n : Node). is_element n && (n.serial == x)) chain ≡ false → find is_element chain ≡ Some p → is_above nodes x p.serial ≡ false
  in_rest s [] p q free found = cc
  in_rest s (m ∷ rest) p q free found = step (is_element m) found (in_rest m.parent rest p (upwards-rest (reverse nodes) s m rest first q) ((or_parts _ _ free).1))
    where
      step : (t : Bool) → cond t (Some m) (find is_element rest) ≡ Some p → (find is_element rest ≡ Some p → is_above nodes x p.serial ≡ false) → is_above nodes x p.serial ≡ false
      step true f later =
          let one : m ≡ p = cc in
          rw (← one, upwards-head (reverse nodes) s m rest q, q) free
      step false f later = later f

  pub above_parent : (s : ℕ) (p : Node) → is_above nodes x s ≡ false → time_parent nodes s ≡ Some p → is_above nodes x p.serial ≡ false
  above_parent s p free found = by_chain (lineage nodes s) refl
    where
      by_chain : (chain : List Node) → lineage nodes s ≡ chain → is_above nodes x p.serial ≡ false
      by_chain [] q = let none : None ≡ Some p = sym (ap (λ c. find is_element (drop 1 c)) q) ∙ found in cc
      by_chain (m ∷ rest) q =
          in_rest m.parent rest p (upwards-rest (reverse nodes) s m rest first q)
          ((or_parts _ _ (sym (ap (λ c. list_any (λ (n : Node). is_element n && (n.serial == x)) c) q) ∙ free)).1)
          (sym (ap (λ c. find is_element (drop 1 c)) q) ∙ found)

  -- so it is not the time parent itself
  pub not_parent : (s : ℕ) (p : Node) → is_above nodes x s ≡ false → time_parent nodes s ≡ Some p → p.serial == x ≡ false
  not_parent s p free found = by_chain (lineage nodes s) refl
    where
      found_in : (chain : List Node) → list_any (λ (n : Node). is_element n && (n.serial == x)) chain ≡ false → find is_element chain ≡ Some p → p.serial == x ≡ false
      found_in [] f q = cc
      found_in (m ∷ rest) f q = step (is_element m) ((or_parts _ _ f).0) q (found_in rest ((or_parts _ _ f).1))
        where
          step : (t : Bool) → (t && (m.serial == x)) ≡ false → cond t (Some m) (find is_element rest) ≡ Some p → (find is_element rest ≡ Some p → p.serial == x ≡ false) → p.serial == x ≡ false
          step true here g later = let one : m ≡ p = cc in rw (← one) here
          step false here g later = later g

      by_chain : (chain : List Node) → lineage nodes s ≡ chain → p.serial == x ≡ false
      by_chain [] q = let none : None ≡ Some p = sym (ap (λ c. find is_element (drop 1 c)) q) ∙ found in cc
      by_chain (m ∷ rest) q =
          found_in rest ((or_parts _ _ (sym (ap (λ c. list_any (λ (n : Node). is_element n && (n.serial == x)) c) q) ∙ free)).1) (sym (ap (λ c. find is_element (drop 1 c)) q) ∙ found)
