-- The closure holds the set, is closed under the links, and has nothing that no path of links reaches.
use Rattle.std.proofs.Common.{◌≡◌, refl, sym, ◌∙◌, ap, ℕ, suc, zero, ◌<◌, List, [], ◌∷◌, length, Bool, true, false, arith, inl, inr}
use Rattle.std.specs.Prelude.{cond, ◌==◌, ◌||◌, ◌⊎◌, filter}
use Rattle.std.specs.List.{list_any}
use Rattle.std.proofs.lemmas.Bool.{or_left, or_right, or_cases, eqb-true, eq-eqb}
use Rattle.smil_model.specs.document.Closure.{has, round, rounds, closure}
use Rattle.smil_laws.proofs.Lists.{filter_shorter}

has_self : (x : ℕ) (xs : List ℕ) → has (x ∷ xs) x ≡ true
has_self x xs = or_left _ _ (eq-eqb x x refl)

pub any_has : (f : ℕ → Bool) (xs : List ℕ) (x : ℕ) → has xs x ≡ true → f x ≡ true → list_any f xs ≡ true
any_has f [] x h q = cc
any_has f (y ∷ ys) x h q = by_case (or_cases (y == x) (has ys x) h) (any_has f ys x)
  where
    by_case : (y == x ≡ true) ⊎ (has ys x ≡ true) → (has ys x ≡ true → f x ≡ true → list_any f ys ≡ true) → list_any f (y ∷ ys) ≡ true
    by_case (inl e) later = or_left _ _ (ap f (eqb-true y x e) ∙ q)
    by_case (inr r) later = or_right _ _ (later r q)

pub has_filter : (p : ℕ → Bool) (xs : List ℕ) (x : ℕ) → has xs x ≡ true → p x ≡ true → has (filter p xs) x ≡ true
has_filter p [] x h q = cc
has_filter p (y ∷ ys) x h q = by_case (or_cases (y == x) (has ys x) h) (has_filter p ys x)
  where
    by_pass : (t : Bool) → has (filter p ys) x ≡ true → has (cond t (y ∷ filter p ys) (filter p ys)) x ≡ true
    by_pass true r = or_right _ _ r
    by_pass false r = r

    by_case : (y == x ≡ true) ⊎ (has ys x ≡ true) → (has ys x ≡ true → p x ≡ true → has (filter p ys) x ≡ true) → has (cond (p y) (y ∷ filter p ys) (filter p ys)) x ≡ true
    by_case (inl e) later = ap (λ t. has (cond t (y ∷ filter p ys) (filter p ys)) x) (ap p (eqb-true y x e) ∙ q) ∙ or_left _ _ e
    by_case (inr r) later = by_pass (p y) (later r q)

-- a weaker test keeps the same elements, or more of them
pub more_kept : (p q : ℕ → Bool) (xs : List ℕ) → ((x : ℕ) → has xs x ≡ true → p x ≡ true → q x ≡ true) → (filter q xs ≡ filter p xs) ⊎ (length (filter p xs) < length (filter q xs))
more_kept p q [] weaker = inl refl
more_kept p q (x ∷ xs) weaker = by_pass (p x) (q x) (weaker x (has_self x xs)) (more_kept p q xs (λ z h. weaker z (or_right _ _ h)))
  where
    by_pass : (s t : Bool) → (s ≡ true → t ≡ true) → (filter q xs ≡ filter p xs) ⊎ (length (filter p xs) < length (filter q xs)) → (cond t (x ∷ filter q xs) (filter q xs) ≡ cond s (x ∷ filter p xs) (filter p xs)) ⊎ (length (cond s (x ∷ filter p xs) (filter p xs)) < length (cond t (x ∷ filter q xs) (filter q xs)))
    by_pass true true f (inl e) = inl (ap (λ zs. x ∷ zs) e)
    by_pass true true f (inr l) = inr (omega (arith, l))
    by_pass true false f r = absurd (let no : false ≡ true = f refl in cc)
    by_pass false true f (inl e) = inr (omega (arith, ap length e))
    by_pass false true f (inr l) = inr (omega (arith, l))
    by_pass false false f r = r

module _ (link : ℕ → ℕ → Bool) (all set : List ℕ) where
  -- each round after the first changes nothing, or adds an element
  grows : (k : ℕ) → (rounds link all (suc (suc k)) set ≡ rounds link all (suc k) set) ⊎ (length (rounds link all (suc k) set) < length (rounds link all (suc (suc k)) set))
  grows k =
      more_kept (λ y. has (rounds link all k set) y || list_any (λ x. link x y) (rounds link all k set))
      (λ y. has (rounds link all (suc k) set) y || list_any (λ x. link x y) (rounds link all (suc k) set)) all
      (λ y h q. or_left _ _ (has_filter (λ z. has (rounds link all k set) z || list_any (λ x. link x z) (rounds link all k set)) all y h q))

  rests_or_many : (k : ℕ) → (rounds link all (suc (suc k)) set ≡ rounds link all (suc k) set) ⊎ (k < length (rounds link all (suc (suc k)) set))
  rests_or_many zero = by_case (grows zero)
    where
      by_case : (rounds link all 2 set ≡ rounds link all 1 set) ⊎ (length (rounds link all 1 set) < length (rounds link all 2 set)) → (rounds link all 2 set ≡ rounds link all 1 set) ⊎ (0 < length (rounds link all 2 set))
      by_case (inl e) = inl e
      by_case (inr l) = inr (omega (arith, l))
  rests_or_many (suc k) = by_case (rests_or_many k) (grows (suc k))
    where
      by_case : (rounds link all (suc (suc k)) set ≡ rounds link all (suc k) set) ⊎ (k < length (rounds link all (suc (suc k)) set)) → (rounds link all (suc (suc (suc k))) set ≡ rounds link all (suc (suc k)) set) ⊎ (length (rounds link all (suc (suc k)) set) < length (rounds link all (suc (suc (suc k))) set)) → (rounds link all (suc (suc (suc k))) set ≡ rounds link all (suc (suc k)) set) ⊎ (suc k < length (rounds link all (suc (suc (suc k))) set))
      by_case (inl e) r = inl (ap (round link all) e)
      by_case (inr m) (inl e) = inl e
      by_case (inr m) (inr l) = inr (omega (arith, m, l))

  -- one more round changes nothing
  pub closure_rests : round link all (closure link all set) ≡ closure link all set
  closure_rests = by_case (rests_or_many (length all))
    where
      by_case : (rounds link all (suc (suc (length all))) set ≡ rounds link all (suc (length all)) set) ⊎ (length all < length (rounds link all (suc (suc (length all))) set)) → round link all (closure link all set) ≡ closure link all set
      by_case (inl e) = e
      by_case (inr m) = absurd (omega (arith, m, filter_shorter (λ y. has (rounds link all (suc (length all)) set) y || list_any (λ x. link x y) (rounds link all (suc (length all)) set)) all))

  pub is_closed : (x y : ℕ) → has (closure link all set) x ≡ true → link x y ≡ true → has all y ≡ true → has (closure link all set) y ≡ true
  is_closed x y h q i =
      sym (ap (λ c. has c y) closure_rests)
      ∙ has_filter (λ z. has (closure link all set) z || list_any (λ w. link w z) (closure link all set)) all y i
      (or_right _ _ (any_has (λ w. link w y) (closure link all set) x h q))

  holds_set : (k y : ℕ) → has all y ≡ true → has set y ≡ true → has (rounds link all k set) y ≡ true
  holds_set zero y i h = h
  holds_set (suc k) y i h =
      has_filter (λ z. has (rounds link all k set) z || list_any (λ w. link w z) (rounds link all k set)) all y i (or_left _ _ (holds_set k y i h))

  pub has_set : (y : ℕ) → has all y ≡ true → has set y ≡ true → has (closure link all set) y ≡ true
  has_set y i h = holds_set (suc (length all)) y i h
