-- Lists that fall, and what is listed at their top.
use Rattle.std.proofs.Common.{◌≡◌, refl, sym, ℕ, ◌<◌, ◌≤◌, List, [], ◌∷◌, length, drop, Bool, true, false, cond, Some, None, arith, inl, inr}
use Rattle.std.specs.Prelude.{◌==◌, ◌⊎◌, nat_lt, slice_get}
use Rattle.std.proofs.lemmas.Bool.{or_left, or_right, or_cases, or_from, eqb-true, eq-eqb, ne_eqb, ltb-true, ltb-false}
use Rattle.smil_model.specs.document.Closure.{has}
use Rattle.smil_graph.specs.Components.{IsFalling, without_above}

pub is_head : (x : ℕ) (xs : List ℕ) (y : ℕ) → y ≡ x → has (x ∷ xs) y ≡ true
is_head x xs y e = or_left _ _ (eq-eqb x y (sym e))

pub in_tail : (x : ℕ) (xs : List ℕ) (y : ℕ) → has xs y ≡ true → has (x ∷ xs) y ≡ true
in_tail x xs y q = or_right _ _ q

pub head_or_tail : (x : ℕ) (xs : List ℕ) (y : ℕ) → has (x ∷ xs) y ≡ true → (y ≡ x) ⊎ (has xs y ≡ true)
head_or_tail x xs y q = by_case (or_cases (x == y) (has xs y) q)
  where
    by_case : (x == y ≡ true) ⊎ (has xs y ≡ true) → (y ≡ x) ⊎ (has xs y ≡ true)
    by_case (inl e) = inl (sym (eqb-true x y e))
    by_case (inr e) = inr e

pub in_neither : (x : ℕ) (xs : List ℕ) (y : ℕ) → (y ≡ x → ⊥) → has xs y ≡ false → has (x ∷ xs) y ≡ false
in_neither x xs y o q = or_from _ _ (ne_eqb x y (λ e. o (sym e))) q

-- ---- the top

pub top_listed : (xs : List ℕ) (x : ℕ) → slice_get xs 0 ≡ Some x → has xs x ≡ true
top_listed [] x e = cc
top_listed (y ∷ ys) x e = is_head y ys x (cc)

pub below_top : (xs : List ℕ) (x y : ℕ) → slice_get xs 0 ≡ Some x → has xs y ≡ true → (y ≡ x) ⊎ (has (drop 1 xs) y ≡ true)
below_top [] x y e q = cc
below_top (z ∷ zs) x y e q = by_case (head_or_tail z zs y q)
  where
    by_case : (y ≡ z) ⊎ (has zs y ≡ true) → (y ≡ x) ⊎ (has zs y ≡ true)
    by_case (inl same) = inl (cc)
    by_case (inr there) = inr there

pub under_top : (xs : List ℕ) (x y : ℕ) → slice_get xs 0 ≡ Some x → IsFalling xs → has (drop 1 xs) y ≡ true → y < x
under_top [] x y e f q = cc
under_top (z ∷ zs) x y e f q = let same : z ≡ x = cc in omega (arith, same, f.0 y q)

pub up_to_top : (xs : List ℕ) (x y : ℕ) → slice_get xs 0 ≡ Some x → IsFalling xs → has xs y ≡ true → y ≤ x
up_to_top xs x y e f q = by_case (below_top xs x y e q)
  where
    by_case : (y ≡ x) ⊎ (has (drop 1 xs) y ≡ true) → y ≤ x
    by_case (inl same) = omega arith
    by_case (inr there) = omega (arith, under_top xs x y e f there)

pub from_rest : (xs : List ℕ) (y : ℕ) → has (drop 1 xs) y ≡ true → has xs y ≡ true
from_rest [] y q = cc
from_rest (x ∷ xs) y q = in_tail x xs y q

pub rest_falls : (xs : List ℕ) → IsFalling xs → IsFalling (drop 1 xs)
rest_falls [] f = tt
rest_falls (x ∷ xs) f = f.1

pub shorter_rest : (xs : List ℕ) (x : ℕ) → slice_get xs 0 ≡ Some x → length (drop 1 xs) < length xs
shorter_rest [] x e = cc
shorter_rest (y ∷ ys) x e = omega arith

pub no_top : (xs : List ℕ) (y : ℕ) → slice_get xs 0 ≡ None → has xs y ≡ true → ⊥
no_top [] y e q = cc
no_top (x ∷ xs) y e q = cc

-- ---- without those above a position

pub without_in : (q : ℕ) (xs : List ℕ) (y : ℕ) → has (without_above q xs) y ≡ true → has xs y ≡ true
without_in q [] y r = cc
without_in q (x ∷ xs) y r = step (nat_lt q x) (without_in q xs y) r
  where
    step : (t : Bool) → (has (without_above q xs) y ≡ true → has xs y ≡ true) → has (cond t (without_above q xs) (x ∷ xs)) y ≡ true → has (x ∷ xs) y ≡ true
    step true later r = in_tail x xs y (later r)
    step false later r = r

pub without_low : (q : ℕ) (xs : List ℕ) (y : ℕ) → IsFalling xs → has (without_above q xs) y ≡ true → y ≤ q
without_low q [] y f r = cc
without_low q (x ∷ xs) y f r = step (nat_lt q x) refl (without_low q xs y f.1) r
  where
    by_case : x ≤ q → (y ≡ x) ⊎ (has xs y ≡ true) → y ≤ q
    by_case l (inl same) = omega arith
    by_case l (inr there) = omega (arith, l, f.0 y there)

    step : (t : Bool) → nat_lt q x ≡ t → (has (without_above q xs) y ≡ true → y ≤ q) → has (cond t (without_above q xs) (x ∷ xs)) y ≡ true → y ≤ q
    step true e later r = later r
    step false e later r = by_case (ltb-false q x e) (head_or_tail x xs y r)

pub without_keeps : (q : ℕ) (xs : List ℕ) (y : ℕ) → has xs y ≡ true → y ≤ q → has (without_above q xs) y ≡ true
without_keeps q [] y r l = cc
without_keeps q (x ∷ xs) y r l = step (nat_lt q x) refl (λ there. without_keeps q xs y there l)
  where
    by_case : q < x → (has xs y ≡ true → has (without_above q xs) y ≡ true) → (y ≡ x) ⊎ (has xs y ≡ true) → has (without_above q xs) y ≡ true
    by_case m later (inl same) = absurd (omega (arith, l, m, same))
    by_case m later (inr there) = later there

    step : (t : Bool) → nat_lt q x ≡ t → (has xs y ≡ true → has (without_above q xs) y ≡ true) → has (cond t (without_above q xs) (x ∷ xs)) y ≡ true
    step true e later = by_case (ltb-true q x e) later (head_or_tail x xs y r)
    step false e later = r

pub without_falls : (q : ℕ) (xs : List ℕ) → IsFalling xs → IsFalling (without_above q xs)
without_falls q [] f = tt
without_falls q (x ∷ xs) f = step (nat_lt q x) (without_falls q xs f.1)
  where
    step : (t : Bool) → IsFalling (without_above q xs) → IsFalling (cond t (without_above q xs) (x ∷ xs))
    step true later = later
    step false later = f

pub without_low_top : (q : ℕ) (xs : List ℕ) (x : ℕ) → slice_get xs 0 ≡ Some x → x ≤ q → without_above q xs ≡ xs
without_low_top q [] x e l = refl
without_low_top q (y ∷ ys) x e l = step (nat_lt q y) refl
  where
    step : (t : Bool) → nat_lt q y ≡ t → cond t (without_above q ys) (y ∷ ys) ≡ y ∷ ys
    step true r = let same : y ≡ x = cc in absurd (omega (arith, ltb-true q y r, same, l))
    step false r = refl

pub without_none : (q : ℕ) (xs : List ℕ) → slice_get xs 0 ≡ None → without_above q xs ≡ xs
without_none q [] e = refl
without_none q (x ∷ xs) e = cc
