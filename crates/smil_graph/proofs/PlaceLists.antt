-- What is listed, and what a set of places lists after more are put in.
use Rattle.std.proofs.Common.{◌≡◌, refl, sym, ◌∙◌, ap, ℕ, suc, zero, ◌<◌, ◌≤◌, List, [], ◌∷◌, ◌++◌, length, get_or, Bool, true, false, arith, inl, inr, nat_eq}
use mathlib.Core.Bool.{or-false, or_assoc}
use Rattle.std.specs.Prelude.{cond, ◌==◌, ◌||◌, ◌⊎◌}
use Rattle.std.specs.List.{IsDistinct, list_any}
use Rattle.indexmap.specs.IndexSet.{insert_all, insert_key}
use Rattle.std.proofs.lemmas.Bool.{or_left, or_right, or_cases, eqb-true, eq-eqb}
use Rattle.std.proofs.lemmas.List.{get_or_append_left, get_or_push, length_push}
use Rattle.std.proofs.lemmas.List.Folds.{list_any-append}
use Rattle.std.proofs.lemmas.Map.Keys.{IsDistinct-push}
use Rattle.std.proofs.lemmas.Cmp.{nat_eq_equiv}
use Rattle.std.proofs.Math.ListN.{get_or-eq_default}
use Rattle.smil_model.specs.document.Closure.{has}
use Rattle.smil_laws.proofs.LineageParents.{same_eqb}
use Rattle.smil_graph.specs.Links.{links}

pub has_get : (xs : List ℕ) (i : ℕ) → i < length xs → has xs (get_or xs i 0) ≡ true
has_get [] i l = absurd (omega (arith, l))
has_get (x ∷ xs) zero l = or_left _ _ (eq-eqb x x refl)
has_get (x ∷ xs) (suc i) l = or_right _ _ (has_get xs i (omega (arith, l)))

-- a place that is listed stands somewhere
pub index_of : (xs : List ℕ) (x : ℕ) → has xs x ≡ true → (i : ℕ) × (i < length xs) × (get_or xs i 0 ≡ x)
index_of [] x q = cc
index_of (y ∷ ys) x q = by_case (or_cases (y == x) (has ys x) q) (index_of ys x)
  where
    by_case : (y == x ≡ true) ⊎ (has ys x ≡ true) → (has ys x ≡ true → (i : ℕ) × (i < length ys) × (get_or ys i 0 ≡ x)) → (i : ℕ) × (i < suc (length ys)) × (get_or (y ∷ ys) i 0 ≡ x)
    by_case (inl e) later = (0, omega arith, eqb-true y x e)
    by_case (inr e) later = let found = later e in (suc found.0, omega (arith, found.1), found.2)

pub has_push : (xs : List ℕ) (y x : ℕ) → has (xs ++ y ∷ []) x ≡ (has xs x || (x == y))
has_push xs y x = list_any-append (λ j. j == x) xs (y ∷ []) ∙ ap (λ t. has xs x || t) (or-false (y == x) ∙ same_eqb y x)

-- the same in the words of std
pub has_is : (xs : List ℕ) (x : ℕ) → has xs x ≡ list_any (nat_eq x) xs
has_is [] x = refl
has_is (y ∷ ys) x = ap (λ t. t || has ys x) (same_eqb y x) ∙ ap (λ t. (x == y) || t) (has_is ys x)

pub any_each : {A : Type 0} (f g : A → Bool) (xs : List A) → ((x : A) → f x ≡ g x) → list_any f xs ≡ list_any g xs
any_each f g [] same = refl
any_each f g (x ∷ xs) same = ap (λ t. t || list_any f xs) (same x) ∙ ap (λ t. g x || t) (any_each f g xs same)

-- ---- one place more

pub has_one : (ps : List ℕ) (y x : ℕ) → has (insert_key nat_eq ps y) x ≡ (has ps x || (x == y))
has_one ps y x = step (list_any (nat_eq y) ps) refl
  where
    same : (t : Bool) → x == y ≡ t → has ps y ≡ true → has ps x ≡ (has ps x || t)
    same true e q = let here : has ps x ≡ true = ap (has ps) (eqb-true x y e) ∙ q in rw here
    same false e q = sym (or-false (has ps x))

    step : (t : Bool) → list_any (nat_eq y) ps ≡ t → has (cond t ps (ps ++ y ∷ [])) x ≡ (has ps x || (x == y))
    step true q = same (x == y) refl (has_is ps y ∙ q)
    step false q = has_push ps y x

pub front_push : (xs : List ℕ) (y k : ℕ) → k < length xs → get_or (xs ++ y ∷ []) k 0 ≡ get_or xs k 0
front_push xs y k l = get_or_append_left xs (y ∷ []) 0 k l

pub front_one : (ps : List ℕ) (y k : ℕ) → k < length ps → get_or (insert_key nat_eq ps y) k 0 ≡ get_or ps k 0
front_one ps y k l = step (list_any (nat_eq y) ps)
  where
    step : (t : Bool) → get_or (cond t ps (ps ++ y ∷ [])) k 0 ≡ get_or ps k 0
    step true = refl
    step false = front_push ps y k l

pub longer_one : (ps : List ℕ) (y : ℕ) → length ps ≤ length (insert_key nat_eq ps y)
longer_one ps y = step (list_any (nat_eq y) ps)
  where
    step : (t : Bool) → length ps ≤ length (cond t ps (ps ++ y ∷ []))
    step true = omega arith
    step false = omega (arith, length_push ps y)

pub distinct_one : (ps : List ℕ) (y : ℕ) → IsDistinct nat_eq ps → IsDistinct nat_eq (insert_key nat_eq ps y)
distinct_one ps y d = step (list_any (nat_eq y) ps) refl
  where
    step : (t : Bool) → list_any (nat_eq y) ps ≡ t → IsDistinct nat_eq (cond t ps (ps ++ y ∷ []))
    step true q = d
    step false q = IsDistinct-push nat_eq_equiv ps y d q

-- ---- more places

pub has_more : (ps is : List ℕ) (x : ℕ) → has (insert_all nat_eq ps is) x ≡ (has ps x || has is x)
has_more ps [] x = sym (or-false (has ps x))
has_more ps (i ∷ is) x = has_more (insert_key nat_eq ps i) is x ∙ ap (λ t. t || has is x) (has_one ps i x) ∙ or_assoc (has ps x) (x == i) (has is x) ∙ ap (λ t. has ps x || (t || has is x)) (same_eqb x i)

pub longer_more : (ps is : List ℕ) → length ps ≤ length (insert_all nat_eq ps is)
longer_more ps [] = omega arith
longer_more ps (i ∷ is) = omega (arith, longer_one ps i, longer_more (insert_key nat_eq ps i) is)

pub front_more : (ps is : List ℕ) (k : ℕ) → k < length ps → get_or (insert_all nat_eq ps is) k 0 ≡ get_or ps k 0
front_more ps [] k l = refl
front_more ps (i ∷ is) k l = front_more (insert_key nat_eq ps i) is k (omega (arith, l, longer_one ps i)) ∙ front_one ps i k l

pub distinct_more : (ps is : List ℕ) → IsDistinct nat_eq ps → IsDistinct nat_eq (insert_all nat_eq ps is)
distinct_more ps [] d = d
distinct_more ps (i ∷ is) d = distinct_more (insert_key nat_eq ps i) is (distinct_one ps i d)

pub end_push : (xs : List ℕ) (y : ℕ) → get_or (xs ++ y ∷ []) (length xs) 0 ≡ y
end_push xs y = get_or_push xs y 0 (length xs) refl

pub only : (i q : ℕ) → has (i ∷ []) q ≡ true → q ≡ i
only i q h = by_case (or_cases (i == q) false h)
  where
    by_case : (i == q ≡ true) ⊎ (false ≡ true) → q ≡ i
    by_case (inl e) = sym (eqb-true i q e)
    by_case (inr e) = cc

-- a place with links is one of the places
pub from_place : (rows : List (List ℕ)) (i j : ℕ) → links rows i j ≡ true → i < length rows
from_place rows i j l = by_case (grind arith)
  where
    by_case : (i < length rows) ⊎ (length rows ≤ i) → i < length rows
    by_case (inl h) = h
    by_case (inr h) = let never : false ≡ true = sym (ap (λ is. has is j) (get_or-eq_default rows [] h)) ∙ l in absurd (cc)
