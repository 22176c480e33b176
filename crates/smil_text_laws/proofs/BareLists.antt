-- Lists whose members are each changed: what is found, kept and counted in them.
use Rattle.std.proofs.Common.{◌≡◌, refl, sym, ◌∙◌, ap, ℕ, suc, zero, ◌+◌, List, [], ◌∷◌, ◌++◌, length, Some, None, Bool, true, false}
use Rattle.std.specs.Prelude.{cond, not, ◌||◌, drop, find, filter, map, position, reverse, option_map, nat_lt}
use Rattle.std.specs.List.{list_any, prefix_len}
use Rattle.std.proofs.lemmas.List.{reverse-append}

pub find_mapped : {A B : Type 0} (f : A → B) (p : B → Bool) (q : A → Bool) → ((x : A) → p (f x) ≡ q x) → (xs : List A) → find p (map f xs) ≡ option_map f (find q xs)
find_mapped f p q e [] = refl
find_mapped f p q e (x ∷ xs) = step (e x) (find_mapped f p q e xs)
  where
    by_test : (t : Bool) → cond t (Some (f x)) (option_map f (find q xs)) ≡ option_map f (cond t (Some x) (find q xs))
    by_test true = refl
    by_test false = refl

    step : p (f x) ≡ q x → find p (map f xs) ≡ option_map f (find q xs) → find p (map f (x ∷ xs)) ≡ option_map f (find q (x ∷ xs))
    step t r = (λ i. cond (t i) (Some (f x)) (r i)) ∙ by_test (q x)

pub filter_mapped : {A B : Type 0} (f : A → B) (p : B → Bool) (q : A → Bool) → ((x : A) → p (f x) ≡ q x) → (xs : List A) → filter p (map f xs) ≡ map f (filter q xs)
filter_mapped f p q e [] = refl
filter_mapped f p q e (x ∷ xs) = step (e x) (filter_mapped f p q e xs)
  where
    by_test : (t : Bool) → cond t (f x ∷ map f (filter q xs)) (map f (filter q xs)) ≡ map f (cond t (x ∷ filter q xs) (filter q xs))
    by_test true = refl
    by_test false = refl

    step : p (f x) ≡ q x → filter p (map f xs) ≡ map f (filter q xs) → filter p (map f (x ∷ xs)) ≡ map f (filter q (x ∷ xs))
    step t r = (λ i. cond (t i) (f x ∷ r i) (r i)) ∙ by_test (q x)

pub any_mapped : {A B : Type 0} (f : A → B) (p : B → Bool) (q : A → Bool) → ((x : A) → p (f x) ≡ q x) → (xs : List A) → list_any p (map f xs) ≡ list_any q xs
any_mapped f p q e [] = refl
any_mapped f p q e (x ∷ xs) = step (e x) (any_mapped f p q e xs)
  where
    step : p (f x) ≡ q x → list_any p (map f xs) ≡ list_any q xs → list_any p (map f (x ∷ xs)) ≡ list_any q (x ∷ xs)
    step t r = λ i. t i || r i

pub map_mapped : {A B C : Type 0} (f : A → B) (g : B → C) (h : A → C) → ((x : A) → g (f x) ≡ h x) → (xs : List A) → map g (map f xs) ≡ map h xs
map_mapped f g h e [] = refl
map_mapped f g h e (x ∷ xs) = step (e x) (map_mapped f g h e xs)
  where
    step : g (f x) ≡ h x → map g (map f xs) ≡ map h xs → map g (map f (x ∷ xs)) ≡ map h (x ∷ xs)
    step t r = λ i. t i ∷ r i

pub map_append : {A B : Type 0} (f : A → B) (xs ys : List A) → map f (xs ++ ys) ≡ map f xs ++ map f ys
map_append f [] ys = refl
map_append f (x ∷ xs) ys = ap (λ zs. f x ∷ zs) (map_append f xs ys)

pub reverse_mapped : {A B : Type 0} (f : A → B) (xs : List A) → reverse (map f xs) ≡ map f (reverse xs)
reverse_mapped f [] = refl
reverse_mapped f (x ∷ xs) =
    reverse-append (f x ∷ []) (map f xs)
    ∙ ap (λ ys. ys ++ f x ∷ []) (reverse_mapped f xs)
    ∙ sym (map_append f (reverse xs) (x ∷ []))
    ∙ ap (map f) (sym (reverse-append (x ∷ []) xs))

pub drop_mapped : {A B : Type 0} (f : A → B) (k : ℕ) (xs : List A) → drop k (map f xs) ≡ map f (drop k xs)
drop_mapped f zero xs = refl
drop_mapped f (suc k) [] = refl
drop_mapped f (suc k) (x ∷ xs) = drop_mapped f k xs

pub length_mapped : {A B : Type 0} (f : A → B) (xs : List A) → length (map f xs) ≡ length xs
length_mapped f [] = refl
length_mapped f (x ∷ xs) = ap suc (length_mapped f xs)

front_mapped : {A B : Type 0} (f : A → B) (p : B → Bool) (q : A → Bool) → ((x : A) → p (f x) ≡ q x) → (xs : List A) → prefix_len p (map f xs) ≡ prefix_len q xs
front_mapped f p q e [] = refl
front_mapped f p q e (x ∷ xs) = step (e x) (front_mapped f p q e xs)
  where
    step : p (f x) ≡ q x → prefix_len p (map f xs) ≡ prefix_len q xs → prefix_len p (map f (x ∷ xs)) ≡ prefix_len q (x ∷ xs)
    step t r = λ i. cond (t i) (1 + r i) 0

pub position_mapped : {A B : Type 0} (f : A → B) (p : B → Bool) (q : A → Bool) → ((x : A) → p (f x) ≡ q x) → (xs : List A) → position p (map f xs) ≡ position q xs
position_mapped f p q e xs = λ i. cond (nat_lt (front i) (length_mapped f xs i)) (Some (front i)) None
  where
    front : prefix_len (λ y. not (p y)) (map f xs) ≡ prefix_len (λ x. not (q x)) xs
    front = front_mapped f (λ y. not (p y)) (λ x. not (q x)) (λ x. ap not (e x)) xs
