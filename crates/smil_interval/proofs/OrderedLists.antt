-- Lists in order, and their parts.
use Rattle.std.proofs.Common.{◌≡◌, refl, sym, ◌∙◌, ap, ℕ, suc, zero, ◌≤◌, ◌<◌, List, [], ◌∷◌, length, drop, get_or, Bool, true, false, arith}
use Rattle.std.proofs.lemmas.List.Sums.{length-filter, count_by-le-length}
use Rattle.std.specs.Prelude.{cond, not, filter}
use Rattle.std.specs.List.Sorted.{IsPartitionedBy, IsPartitionPoint}
use Rattle.smil_model.specs.Rising.{IsRising}
use Rattle.smil_model.proofs.RisingLists.{rest_rises}

pub drop_ordered : {A : Type 0} (le : A → A → Bool) (k : ℕ) (xs : List A) → IsRising le xs → IsRising le (drop k xs)
drop_ordered le zero xs up = up
drop_ordered le (suc k) [] up = up
drop_ordered le (suc k) (x ∷ xs) up = drop_ordered le k xs (rest_rises le x xs up)

pub filter_all : {A : Type 0} (p : A → Bool) (xs : List A) → ((k : ℕ) (d : A) → k < length xs → p (get_or xs k d) ≡ true) → filter p xs ≡ xs
filter_all p [] all = refl
filter_all p (x ∷ xs) all =
    ap (λ t. cond t (x ∷ filter p xs) (filter p xs)) (all 0 x (omega arith))
    ∙ ap (λ ys. x ∷ ys) (filter_all p xs (λ k d inside. all (suc k) d (omega (arith, inside))))

point_of_rest : {A : Type 0} (P Q : A → Type 0) (x : A) (xs : List A) (k : ℕ) → IsPartitionPoint P Q (x ∷ xs) (suc k) → IsPartitionPoint P Q xs k
point_of_rest P Q x xs k point =
    (λ j d low high. point.0 (suc j) d (omega arith) (omega (arith, high)), λ j d low high. point.1 (suc j) d (omega (arith, low)) (omega (arith, high)))

-- the elements from a partition point on are those that pass
pub drop_is_filter : {A : Type 0} (p q : A → Bool) → ((x : A) → p x ≡ not (q x)) → (xs : List A) (k : ℕ) → IsPartitionPoint (λ y. q y ≡ true) (λ y. q y ≡ false) xs k → drop k xs ≡ filter p xs
drop_is_filter p q other [] zero point = refl
drop_is_filter p q other [] (suc k) point = refl
drop_is_filter p q other (x ∷ xs) zero point =
    sym (filter_all p (x ∷ xs) (λ k d inside. other (get_or (x ∷ xs) k d) ∙ ap not (point.1 k d (omega arith) inside)))
drop_is_filter p q other (x ∷ xs) (suc k) point =
    let fails : p x ≡ false = other x ∙ ap not (point.0 0 x (omega arith) (omega arith)) in
    drop_is_filter p q other xs k (point_of_rest (λ y. q y ≡ true) (λ y. q y ≡ false) x xs k point)
    ∙ ap (λ t. cond t (x ∷ filter p xs) (filter p xs)) (sym fails)

-- what a binary search asks: a test that passes what is before each that it passes
pub parted : {A : Type 0} (le : A → A → Bool) (q : A → Bool) → ((x y : A) → le x y ≡ true → q y ≡ true → q x ≡ true) → (xs : List A) → IsRising le xs → IsPartitionedBy q xs
parted le q down xs up = λ i j d before inside passes. down (get_or xs i d) (get_or xs j d) (up i j d before inside) passes

pub twice_not : (b : Bool) → b ≡ not (not b)
twice_not true = refl
twice_not false = refl

pub not_before : (p q : Bool) → (p ≡ true → q ≡ true) → not q ≡ true → not p ≡ true
not_before true q up fails = sym (ap not (up refl)) ∙ fails
not_before false q up fails = refl

pub shorter : {A : Type 0} (p : A → Bool) (xs ys : List A) → ys ≡ filter p xs → length ys ≤ length xs
shorter p xs ys part = omega (arith, ap length part, length-filter p xs, count_by-le-length p xs)
