-- Nodes that are known.
use Rattle.std.proofs.Common.{◌≡◌, refl, sym, ◌∙◌, ap, ℕ, zero, suc, ◌<◌, List, [], ◌∷◌, Some, None, Bool, true, false, length, arith}
use Rattle.std.specs.Prelude.{cond, ◌==◌, nat_lt, filter, slice_get, is_some}
use Rattle.std.specs.List.{position}
use Rattle.std.proofs.lemmas.Bool.{ltb-true, lt-ltb}
use Rattle.std.proofs.lemmas.List.Folds.{find_at}
use Rattle.smil_model.specs.declared.document.Node.{Node}
use Rattle.smil_model.specs.document.Document.{node_at, is_element}
use Rattle.smil_stretch.proofs.NodePlaces.{place}

-- the place of a node that is known
pub known_place : (ns : List Node) (s : ℕ) → is_some (node_at ns s) ≡ true → is_some (position (λ (n : Node). n.serial == s) ns) ≡ true
known_place ns s q = ap (λ t. is_some (cond t (Some (place s ns)) None)) (lt-ltb (place s ns) (length ns) (inside ns (place s ns) (ap is_some (sym (find_at (λ (n : Node). n.serial == s) ns)) ∙ q)))
  where
    inside : (xs : List Node) (k : ℕ) → is_some (slice_get xs k) ≡ true → k < length xs
    inside [] k r = cc
    inside (x ∷ xs) zero r = omega arith
    inside (x ∷ xs) (suc k) r = let rest = inside xs k r in omega (arith, rest)

pub known_at_place : (ns : List Node) (s : ℕ) → is_some (position (λ (n : Node). n.serial == s) ns) ≡ true → is_some (node_at ns s) ≡ true
known_at_place ns s q = by_test (nat_lt (place s ns) (length ns)) refl q
  where
    inside : (xs : List Node) (k : ℕ) → k < length xs → is_some (slice_get xs k) ≡ true
    inside [] k r = absurd (omega (arith, r))
    inside (x ∷ xs) zero r = refl
    inside (x ∷ xs) (suc k) r = inside xs k (omega (arith, r))

    by_test : (t : Bool) → nat_lt (place s ns) (length ns) ≡ t → is_some (cond t (Some (place s ns)) None) ≡ true → is_some (node_at ns s) ≡ true
    by_test true e r = ap is_some (find_at (λ (n : Node). n.serial == s) ns) ∙ inside ns (place s ns) (ltb-true (place s ns) (length ns) e)
    by_test false e r = cc

-- an element is a node
pub known_node : (ns : List Node) (s : ℕ) → is_some (node_at (filter is_element ns) s) ≡ true → is_some (node_at ns s) ≡ true
known_node [] s q = cc
known_node (n ∷ ns) s q = step (is_element n) (n.serial == s) refl q (known_node ns s)
  where
    step : (t b : Bool) → n.serial == s ≡ b → is_some (node_at (cond t (n ∷ filter is_element ns) (filter is_element ns)) s) ≡ true → (is_some (node_at (filter is_element ns) s) ≡ true → is_some (node_at ns s) ≡ true) → is_some (cond b (Some n) (node_at ns s)) ≡ true
    step t true e r later = refl
    step true false e r later = later (ap (λ b. is_some (cond b (Some n) (node_at (filter is_element ns) s))) (sym e) ∙ r)
    step false false e r later = later r
