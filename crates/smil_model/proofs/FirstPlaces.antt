-- The first place of what passes a test, as a list grows.
use Rattle.std.proofs.Common.{◌≡◌, refl, sym, ◌∙◌, ap, ℕ, suc, ◌+◌, ◌<◌, ◌≤◌, List, [], ◌∷◌, ◌++◌, Option, Some, None, Bool, true, false, length, get_or, take, arith}
use Rattle.std.specs.Prelude.{cond, not, ◌==◌, nat_lt, option_map}
use Rattle.std.specs.List.{position, position_or_len}
use Rattle.std.specs.Option.{option_or}
use Rattle.std.proofs.lemmas.Bool.{ltb-true, ltb-false, lt-ltb, le-ltb}
use Rattle.std.proofs.lemmas.List.{take_more, length-take-le}

module _ {A : Type 0} (p : A → Bool) where
  pub position_cons : (x : A) (xs : List A) → position p (x ∷ xs) ≡ cond (p x) (Some 0) (option_map suc (position p xs))
  position_cons x xs = by (p x)
    where
      inner : (k n : ℕ) (t : Bool) → nat_lt k n ≡ t → cond (nat_lt (1 + k) (suc n)) (Some (1 + k)) None ≡ option_map suc (cond t (Some k) None)
      inner k n true q =
          let less : k < n = ltb-true k n q in
          let same : 1 + k ≡ suc k = omega arith in
          ap (λ t. cond t (Some (1 + k)) None) (lt-ltb (1 + k) (suc n) (omega (arith, less))) ∙ ap Some same
      inner k n false q = let most : n ≤ k = ltb-false k n q in ap (λ t. cond t (Some (1 + k)) None) (le-ltb (1 + k) (suc n) (omega (arith, most)))

      by : (t : Bool) → cond (nat_lt (cond (not t) (1 + position_or_len p xs) 0) (suc (length xs))) (Some (cond (not t) (1 + position_or_len p xs) 0)) None ≡ cond t (Some 0) (option_map suc (position p xs))
      by true = ap (λ t. cond t (Some 0) None) (lt-ltb 0 (suc (length xs)) (omega arith))
      by false = inner (position_or_len p xs) (length xs) (nat_lt (position_or_len p xs) (length xs)) refl

  pub position_push : (xs : List A) (y : A) → position p (xs ++ y ∷ []) ≡ option_or (position p xs) (cond (p y) (Some (length xs)) None)
  position_push [] y = position_cons y [] ∙ none (p y)
    where
      none : (t : Bool) → cond t (Some 0) (option_map suc (position p [])) ≡ option_or (position p []) (cond t (Some 0) None)
      none true = refl
      none false = refl
  position_push (x ∷ xs) y =
      position_cons x (xs ++ y ∷ []) ∙ ap (λ o. cond (p x) (Some 0) (option_map suc o)) (position_push xs y)
      ∙ step (p x) (position p xs) (p y) ∙ ap (λ o. option_or o (cond (p y) (Some (suc (length xs))) None)) (sym (position_cons x xs))
    where
      step : (t : Bool) (o : Option ℕ) (u : Bool) → cond t (Some 0) (option_map suc (option_or o (cond u (Some (length xs)) None))) ≡ option_or (cond t (Some 0) (option_map suc o)) (cond u (Some (suc (length xs))) None)
      step true o u = refl
      step false None true = refl
      step false None false = refl
      step false (Some k) u = refl

-- the first places in one more of a list's elements
pub places_next : {A : Type 0} (serial : A → ℕ) (rows : List A) (s k : ℕ) (d : A) (before after : Option ℕ) → k < length rows → after ≡ option_or before (cond (serial (get_or rows k d) == s) (Some k) None) → before ≡ position (λ (x : A). serial x == s) (take k rows) → after ≡ position (λ (x : A). serial x == s) (take (k + 1) rows)
places_next {A} serial rows s k d before after less noted are =
    noted
    ∙ ap (λ o. option_or o (cond (serial (get_or rows k d) == s) (Some k) None)) are
    ∙ sym (ap (position (λ (x : A). serial x == s)) (take_more rows k d less)
    ∙ position_push (λ (x : A). serial x == s) (take k rows) (get_or rows k d)
    ∙ ap (λ l. option_or (position (λ (x : A). serial x == s) (take k rows)) (cond (serial (get_or rows k d) == s) (Some l) None)) (length-take-le k rows (omega (arith, less))))
