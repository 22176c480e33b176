-- What stays at the front of a list that grows.
use Rattle.std.proofs.Common.{◌≡◌, ℕ, ◌≤◌, List, ◌++◌, length, take, drop, sym, ap, subst, ◌∙◌, arith, length-append, refl}
use Rattle.std.proofs.lemmas.List.{length-take, take_all, take_at, take-append-drop, take-take}
use Rattle.smil_report.specs.Tellings.{Begins}

module _ {A : Type 0} where
  pub begins_itself : (xs : List A) → Begins xs xs
  begins_itself xs = take_all (length xs) xs (omega arith)

  pub begins_same : (a b : List A) → b ≡ a → Begins a b
  begins_same a b is = ap (take (length a)) is ∙ begins_itself a

  pub begins_on : (a x c : List A) → Begins (a ++ x) c → Begins a c
  begins_on a x c h =
      let short : length a ≤ length (a ++ x) = omega (arith, length-append a x) in
      sym (take-take (length a) (length (a ++ x)) c short) ∙ ap (take (length a)) h ∙ take_at a x (length a) refl

  pub begins_more : (a b x : List A) → b ≡ a ++ x → Begins a b
  begins_more a b x is = begins_on a x b (begins_same (a ++ x) b is)

  front_of : (front xs : List A) → Begins front xs → front ++ drop (length front) xs ≡ xs
  front_of front xs h = ap (λ (ys : List A). ys ++ drop (length front) xs) (sym h) ∙ take-append-drop (length front) xs

  pub begins_by : (front xs more : List A) → Begins front xs → Begins xs more → Begins front more
  begins_by front xs more h k = begins_on front (drop (length front) xs) more (subst (λ (ys : List A). Begins ys more) (sym (front_of front xs h)) k)

  -- ---- a list that is cut back

  pub begins_long : (old new : List A) (len : ℕ) → len ≡ length old → Begins old new → len ≤ length new
  begins_long old new len is begins = omega (arith, is, ap length begins, length-take (length old) new)

  pub cut_again : (old new cut : List A) (len : ℕ) → len ≡ length old → Begins old new → cut ≡ take len new → cut ≡ old
  cut_again old new cut len is begins cuts = cuts ∙ ap (λ n. take n new) is ∙ begins
