-- Lists: their part up to a place, what holds of each element, and how many pass.
use Rattle.std.proofs.Common.{◌≡◌, refl, sym, ◌∙◌, ap, ℕ, suc, zero, ◌+◌, ◌≤◌, List, [], ◌∷◌, ◌++◌, length, append_assoc, Some, Bool, true, false, arith}
use Rattle.std.specs.Prelude.{cond, filter, reverse, slice_get, take}
use Rattle.std.specs.List.{AllByRecursion}
use Rattle.std.specs.Str.{bytes_eq}
use Rattle.std.specs.Cmp.Lexicographic.{bytes_decides}
use Rattle.std.proofs.lemmas.List.Sums.{length-filter, count_by-le-length}
use Rattle.std.proofs.lemmas.List.{reverse-append}

-- ---- the part up to a place

pub take-suc_at : {A : Type 0} (xs : List A) (i : ℕ) (x : A) → slice_get xs i ≡ Some x → take (suc i) xs ≡ take i xs ++ x ∷ []
take-suc_at [] i x at = cc
take-suc_at (y ∷ ys) zero x at = let one : y ≡ x = cc in ap (λ z. z ∷ []) one
take-suc_at (y ∷ ys) (suc i) x at = ap (λ zs. y ∷ zs) (take-suc_at ys i x at)

pub take-more_at : {A : Type 0} (xs : List A) (i : ℕ) (x : A) → slice_get xs i ≡ Some x → take (i + 1) xs ≡ take i xs ++ x ∷ []
take-more_at xs i x at = let next : i + 1 ≡ suc i = omega arith in ap (λ k. take k xs) next ∙ take-suc_at xs i x at

-- ---- what holds of each

pub each_at : {A : Type 0} (P : A → Type 0) (xs : List A) (i : ℕ) (x : A) → AllByRecursion P xs → slice_get xs i ≡ Some x → P x
each_at P [] i x each at = cc
each_at P (y ∷ ys) zero x each at = let same : y ≡ x = cc in rw (← same) each.0
each_at P (y ∷ ys) (suc i) x each at = each_at P ys i x each.1 at

pub each_push : {A : Type 0} (P : A → Type 0) (xs : List A) (y : A) → AllByRecursion P xs → P y → AllByRecursion P (xs ++ y ∷ [])
each_push P [] y each last = (last, tt)
each_push P (x ∷ xs) y each last = (each.0, each_push P xs y each.1 last)

pub each_take : {A : Type 0} (P : A → Type 0) (i : ℕ) (xs : List A) → AllByRecursion P xs → AllByRecursion P (take i xs)
each_take P zero xs each = tt
each_take P (suc i) [] each = tt
each_take P (suc i) (x ∷ xs) each = (each.0, each_take P i xs each.1)

pub each_weaker : {A : Type 0} (P Q : A → Type 0) (xs : List A) → AllByRecursion P xs → ((x : A) → P x → Q x) → AllByRecursion Q xs
each_weaker P Q [] each f = tt
each_weaker P Q (x ∷ xs) each f = (f x each.0, each_weaker P Q xs each.1 f)

-- what those that pass have
pub each_chosen : {A : Type 0} (P Q : A → Type 0) (t : A → Bool) (xs : List A) → AllByRecursion P xs → ((x : A) → t x ≡ true → P x → Q x) → AllByRecursion Q (filter t xs)
each_chosen P Q t [] each f = tt
each_chosen P Q t (x ∷ xs) each f = step (t x) (λ e. f x e each.0) (each_chosen P Q t xs each.1 f)
  where
    step : (b : Bool) → (b ≡ true → Q x) → AllByRecursion Q (filter t xs) → AllByRecursion Q (cond b (x ∷ filter t xs) (filter t xs))
    step true here rest = (here refl, rest)
    step false here rest = rest

pub each_kept : {A : Type 0} (P : A → Type 0) (t : A → Bool) (xs : List A) → AllByRecursion P xs → AllByRecursion P (filter t xs)
each_kept P t xs each = each_chosen P P t xs each (λ x q p. p)

-- ---- what stands around an element

pub reverse-around : {A : Type 0} (front : List A) (x : A) (back : List A) → reverse (front ++ x ∷ back) ≡ reverse back ++ x ∷ reverse front
reverse-around front x back =
    reverse-append front (x ∷ back)
    ∙ ap (λ xs. xs ++ reverse front) (reverse-append (x ∷ []) back)
    ∙ append_assoc (reverse back) (x ∷ []) (reverse front)

-- ---- how many pass

pub filter_shorter : {A : Type 0} (p : A → Bool) (xs : List A) → length (filter p xs) ≤ length xs
filter_shorter p xs = omega (arith, length-filter p xs, count_by-le-length p xs)

-- ---- bytes

pub bytes_swap : (a b : List ℕ) → bytes_eq a b ≡ bytes_eq b a
bytes_swap a b = by_test (bytes_eq a b) (bytes_eq b a) refl refl
  where
    by_test : (t u : Bool) → bytes_eq a b ≡ t → bytes_eq b a ≡ u → t ≡ u
    by_test true true e f = refl
    by_test false false e f = refl
    by_test true false e f = sym ((bytes_decides b a).1 (sym ((bytes_decides a b).0 e))) ∙ f
    by_test false true e f = sym e ∙ (bytes_decides a b).1 (sym ((bytes_decides b a).0 f))
