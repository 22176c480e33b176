-- Elements of lists, by recursion.
use Rattle.std.proofs.Common.{◌≡◌, refl, sym, ◌∙◌, ap, subst, ℕ, suc, zero, ◌<◌, List, [], ◌∷◌, ◌++◌, Option, Some, None, ℤ, Bool, true, false, arith, inl, inr}
use Rattle.std.specs.Prelude.{cond, ◌⊎◌, length, filter_map, flat_map}
use Rattle.std.specs.List.{Contains, cons_option, list_all}
use Rattle.std.proofs.lemmas.Bool.{and_parts}
use Rattle.std.proofs.lemmas.List.Elements.{Contains-append_right, Contains-append_left, Contains-push}
use Rattle.std.specs.Prelude.{slice_index_or}
use Rattle.smil_model.specs.declared.times.Time.{Time}
use Rattle.smil_model.specs.declared.times.Time.TheVariants.{At, Indefinite, Unresolved}
use Rattle.smil_model.specs.Rising.{put_in, poured}
use Rattle.smil_model.specs.Times.{numbers}

-- x is one of the elements
abbrev pub Has : {A : Type 0} → List A → A → Type 0
Has [] x = ⊥
Has (y ∷ ys) x = (y ≡ x) ⊎ Has ys x

pub has_contained : {A : Type 0} (xs : List A) (x : A) → Contains xs x → Has xs x
has_contained {A = A} xs x c = go xs c.0 c.1 c.2
  where
    go : (ys : List A) (k : ℕ) → k < length ys → slice_index_or ys k x ≡ x → Has ys x
    go [] k l q = absurd (omega (arith, l))
    go (y ∷ ys) zero l q = inl q
    go (y ∷ ys) (suc k) l q = inr (go ys k (omega (arith, l)) q)

pub contains_had : {A : Type 0} (xs : List A) (x : A) → Has xs x → Contains xs x
contains_had [] x h = absurd h
contains_had (y ∷ ys) x (inl e) = subst (λ z. Contains (z ∷ ys) x) (sym e) (Contains-append_left (x ∷ []) ys x (Contains-push [] x))
contains_had (y ∷ ys) x (inr h) = Contains-append_right (y ∷ []) ys x (contains_had ys x h)

pub has_left : {A : Type 0} (xs ys : List A) (x : A) → Has xs x → Has (xs ++ ys) x
has_left [] ys x h = absurd h
has_left (z ∷ zs) ys x (inl e) = inl e
has_left (z ∷ zs) ys x (inr h) = inr (has_left zs ys x h)

has_right : {A : Type 0} (xs ys : List A) (x : A) → Has ys x → Has (xs ++ ys) x
has_right [] ys x h = h
has_right (z ∷ zs) ys x h = inr (has_right zs ys x h)

pub has_flat : {A B : Type 0} (f : A → List B) (xs : List A) (x : A) (y : B) → Has xs x → Has (f x) y → Has (flat_map f xs) y
has_flat f [] x y h g = absurd h
has_flat f (z ∷ zs) x y (inl e) g = has_left (f z) (flat_map f zs) y (subst (λ w. Has (f w) y) (sym e) g)
has_flat f (z ∷ zs) x y (inr h) g = has_right (f z) (flat_map f zs) y (has_flat f zs x y h g)

pub has_mapped : {A B : Type 0} (f : A → Option B) (xs : List A) (x : A) (y : B) → Has xs x → f x ≡ Some y → Has (filter_map f xs) y
has_mapped f [] x y h q = absurd h
has_mapped f (z ∷ zs) x y (inl e) q = subst (λ o. Has (cons_option o (filter_map f zs)) y) (sym (ap f e ∙ q)) (inl refl)
has_mapped {B = B} f (z ∷ zs) x y (inr h) q = put (f z) (has_mapped f zs x y h q)
  where
    put : (o : Option B) → Has (filter_map f zs) y → Has (cons_option o (filter_map f zs)) y
    put None r = r
    put (Some w) r = inr r

pub has_number : (ts : List Time) (v : ℤ) → Has ts (At v) → Has (numbers ts) v
has_number [] v h = absurd h
has_number (At x ∷ ts) v (inl e) = let one : x ≡ v = cc in inl one
has_number (At x ∷ ts) v (inr h) = inr (has_number ts v h)
has_number (Indefinite ∷ ts) v (inl e) = cc
has_number (Indefinite ∷ ts) v (inr h) = has_number ts v h
has_number (Unresolved ∷ ts) v (inl e) = cc
has_number (Unresolved ∷ ts) v (inr h) = has_number ts v h

has_own : {A : Type 0} (le : A → A → Bool) (x : A) (ys : List A) → Has (put_in le x ys) x
has_own le x [] = inl refl
has_own le x (y ∷ ys) = step (le x y) (has_own le x ys)
  where
    step : (t : Bool) → Has (put_in le x ys) x → Has (cond t (x ∷ y ∷ ys) (y ∷ put_in le x ys)) x
    step true r = inl refl
    step false r = inr r

has_put : {A : Type 0} (le : A → A → Bool) (x : A) (ys : List A) (z : A) → Has ys z → Has (put_in le x ys) z
has_put le x [] z h = absurd h
has_put le x (y ∷ ys) z h = step (le x y) h (has_put le x ys z)
  where
    step : (t : Bool) → Has (y ∷ ys) z → (Has ys z → Has (put_in le x ys) z) → Has (cond t (x ∷ y ∷ ys) (y ∷ put_in le x ys)) z
    step true h later = inr h
    step false (inl e) later = inl e
    step false (inr h) later = inr (later h)

-- put in their places, values are still there
pub has_poured : {A : Type 0} (le : A → A → Bool) (xs : List A) (z : A) → Has xs z → Has (poured le xs []) z
has_poured le [] z h = absurd h
has_poured le (x ∷ xs) z (inl e) = subst (λ w. Has (put_in le x (poured le xs [])) w) e (has_own le x (poured le xs []))
has_poured le (x ∷ xs) z (inr h) = has_put le x (poured le xs []) z (has_poured le xs z h)

pub all_pass : {A : Type 0} (p : A → Bool) (xs : List A) (x : A) → list_all p xs ≡ true → Has xs x → p x ≡ true
all_pass p [] x q h = absurd h
all_pass p (y ∷ ys) x q (inl e) = ap p (sym e) ∙ (and_parts (p y) (list_all p ys) q).0
all_pass p (y ∷ ys) x q (inr h) = all_pass p ys x (and_parts (p y) (list_all p ys) q).1 h
