-- The places of nodes and of their time parents.
use Rattle.std.proofs.Common.{◌≡◌, refl, ◌∙◌, ap, ℕ, zero, suc, ◌+◌, ◌≤◌, ◌<◌, List, [], ◌∷◌, Some, None, Bool, true, false, length, get_or, arith, inl, inr}
use Rattle.std.specs.Prelude.{cond, not, ◌==◌, ◌||◌, ◌⊎◌, take, slice_get, option_and_then}
use Rattle.std.specs.List.{AllByRecursion, list_any, position, position_or_len}
use Rattle.std.proofs.lemmas.Bool.{lt-ltb, eqb-true, eq-eqb, or_right}
use Rattle.std.proofs.lemmas.List.Folds.{find_at}
use Rattle.std.proofs.lemmas.Option.{slice_get_cases, slice_get_within}
use Rattle.smil_model.specs.declared.document.Node.{Node}
use Rattle.smil_model.specs.document.Document.{time_parent}
use Rattle.smil_model.specs.document.Valid.{IsDistinct}
use Rattle.smil_laws.proofs.AsideDocuments.{find_true}
use Rattle.smil_laws.proofs.Lists.{each_weaker}
use Rattle.smil_tree.specs.Outline.{parent_place}
use Rattle.smil_stretch.proofs.NodesAbove.{parent_before}

abbrev pub place : ℕ → List Node → ℕ
place s ns = position_or_len (λ (n : Node). n.serial == s) ns

-- among the first nodes
found_before : (s : ℕ) (ns : List Node) (j : ℕ) → list_any (λ (m : Node). m.serial == s) (take j ns) ≡ true → place s ns < j
found_before s [] zero q = cc
found_before s [] (suc j) q = cc
found_before s (n ∷ ns) zero q = cc
found_before s (n ∷ ns) (suc j) q = step (n.serial == s) q (found_before s ns j)
  where
    step : (t : Bool) → (t || list_any (λ (m : Node). m.serial == s) (take j ns)) ≡ true → (list_any (λ (m : Node). m.serial == s) (take j ns) ≡ true → place s ns < j) → cond (not t) (1 + place s ns) 0 < suc j
    step true r later = omega arith
    step false r later = omega (arith, later r)

each_in : (xs : List Node) → AllByRecursion (λ (m : Node). list_any (λ (z : Node). z.serial == m.serial) xs ≡ true) xs
each_in [] = tt
each_in (x ∷ xs) = (
  ap (λ t. t || list_any (λ (z : Node). z.serial == x.serial) xs) (eq-eqb x.serial x.serial refl),
  each_weaker (λ (m : Node). list_any (λ (z : Node). z.serial == m.serial) xs ≡ true) (λ (m : Node). list_any (λ (z : Node). z.serial == m.serial) (x ∷ xs) ≡ true) xs (each_in xs) (λ m q. or_right _ _ q),
)

-- the node with a serial, at its place
pub record IsFound (ns : List Node) (s k : ℕ) : Type 0 where
  pub node : Node
  pub at : slice_get ns k ≡ Some node
  pub serial : node.serial ≡ s

pub found_at : (s : ℕ) (ns : List Node) → place s ns < length ns → IsFound ns s (place s ns)
found_at s ns less = by_case (slice_get_cases ns (place s ns)).1
  where
    by_case : ((x : Node) × (place s ns < length ns) × (slice_get ns (place s ns) ≡ Some x) × (get_or ns (place s ns) x ≡ x)) ⊎ ((length ns ≤ place s ns) × (slice_get ns (place s ns) ≡ None)) → IsFound ns s (place s ns)
    by_case (inl w) = record {
      node = w.0;
      at = w.2;
      serial = eqb-true (w.0).serial s (find_true (λ (n : Node). n.serial == s) ns w.0 (find_at (λ (n : Node). n.serial == s) ns ∙ w.2));
    }
    by_case (inr w) = absurd (omega (arith, less, w.0))

-- the place of a time parent, which is before the node
pub record IsParentAt (ns : List Node) (i s p : ℕ) : Type 0 where
  pub parent : ℕ
  pub is_place : parent_place ns s ≡ Some parent
  pub before : parent < i
  pub found : IsFound ns p parent

pub parent_at_place : (ns : List Node) (i : ℕ) (n p : Node) → IsDistinct ns → slice_get ns i ≡ Some n → time_parent ns n.serial ≡ Some p → IsParentAt ns i n.serial p.serial
parent_at_place ns i n p d at under = record {
  parent = place p.serial ns;
  is_place =
      ap (option_and_then (λ (q : Node). position (λ (m : Node). m.serial == q.serial) ns)) under
      ∙ ap (λ t. cond t (Some (place p.serial ns)) None) (lt-ltb (place p.serial ns) (length ns) inside);
  before = early;
  found = found_at p.serial ns inside;
}
  where
    early : place p.serial ns < i
    early = found_before p.serial ns i (parent_before (λ (m : Node). list_any (λ (z : Node). z.serial == m.serial) (take i ns) ≡ true) ns i n p d at (each_in (take i ns)) under)

    inside : place p.serial ns < length ns
    inside = omega (arith, early, slice_get_within ns i n at)

pub no_parent_place : (ns : List Node) (s : ℕ) → time_parent ns s ≡ None → parent_place ns s ≡ None
no_parent_place ns s q = ap (option_and_then (λ (p : Node). position (λ (m : Node). m.serial == p.serial) ns)) q
