-- A place is pushed in each of the rows that are listed; and rows turned round so.
use Rattle.std.proofs.Common.{◌≡◌, refl, sym, ◌∙◌, ap, ℕ, suc, zero, ◌<◌, ◌+◌, ◌-◌, List, [], ◌∷◌, ◌++◌, length, get_or, take, Bool, true, false, Some, arith, inl, inr}
use mathlib.Core.Bool.{or-false}
use Rattle.std.specs.Prelude.{cond, ◌==◌, ◌||◌, ◌⊎◌, filter, slice_get}
use Rattle.std.specs.List.{range_with_len}
use Rattle.std.proofs.Math.ListN.{set, length-set}
use Rattle.std.proofs.lemmas.Bool.{or_left, or_right, eq-eqb, ne_eqb, cases_eq}
use Rattle.std.proofs.lemmas.List.{append-nil, get_or-set_same, get_or-set_other, take_more}
use Rattle.std.proofs.lemmas.List.Elements.{filter-append}
use Rattle.smil_model.specs.document.Closure.{has}
use Rattle.smil_graph.specs.Links.{row, is_last, IsPushedInEach}
use Rattle.smil_graph.proofs.PlaceLists.{has_push}
use Rattle.smil_graph.proofs.PlacesInOrder.{filter_fresh}

-- ---- the last place

last_at : (xs : List ℕ) (k v p : ℕ) → suc k ≡ length xs → slice_get xs k ≡ Some v → is_last xs p ≡ (v == p)
last_at [] k v p l q = absurd (omega (arith, l))
last_at (x ∷ []) zero v p l q = let same : x ≡ v = cc in ap (λ y. y == p) same
last_at (x ∷ []) (suc k) v p l q = absurd (omega (arith, l))
last_at (x ∷ y ∷ ys) zero v p l q = absurd (omega (arith, l))
last_at (x ∷ y ∷ ys) (suc k) v p l q = last_at (y ∷ ys) k v p (omega (arith, l)) q

pub last_is : (xs : List ℕ) (v p : ℕ) → slice_get xs (length xs - 1) ≡ Some v → is_last xs p ≡ (v == p)
last_is [] v p q = cc
last_is (x ∷ xs) v p q =
    let here : suc (length xs) - 1 ≡ length xs = omega arith in
    last_at (x ∷ xs) (length xs) v p refl (sym (ap (slice_get (x ∷ xs)) here) ∙ q)

pub last_pushed : (xs : List ℕ) (p : ℕ) → is_last (xs ++ p ∷ []) p ≡ true
last_pushed [] p = eq-eqb p p refl
last_pushed (x ∷ []) p = eq-eqb p p refl
last_pushed (x ∷ y ∷ ys) p = last_pushed (y ∷ ys) p

pub has_last : (xs : List ℕ) (p : ℕ) → is_last xs p ≡ true → has xs p ≡ true
has_last [] p q = cc
has_last (x ∷ []) p q = or_left _ _ q
has_last (x ∷ y ∷ ys) p q = or_right _ _ (has_last (y ∷ ys) p q)

-- ---- one row more

has_take : (xs : List ℕ) (k i : ℕ) → k < length xs → has (take (k + 1) xs) i ≡ (has (take k xs) i || (i == get_or xs k 0))
has_take xs k i l = ap (λ ys. has ys i) (take_more xs k 0 l) ∙ has_push (take k xs) (get_or xs k 0) i

module _ (old new : List (List ℕ)) (listed : List ℕ) (k place : ℕ) (l : k < length listed) (so : IsPushedInEach old new (take k listed) place) where
  abbrev pub at : ℕ
  at = get_or listed k 0

  pub stays : is_last (row new at) place ≡ true → IsPushedInEach old new (take (k + 1) listed) place
  stays ends = record {
    count = so.count;
    rows = λ i low fresh. rw (has_take listed k i l) (by_place i low fresh (cases_eq i (get_or listed k 0)));
  }
    where
      by_place : (i : ℕ) → i < length old → has (row old i) place ≡ false → (i ≡ get_or listed k 0) ⊎ (i ≡ get_or listed k 0 → ⊥) → row new i ≡ cond (has (take k listed) i || (i == get_or listed k 0)) (row old i ++ place ∷ []) (row old i)
      by_place i low fresh (inl e) = by_test (has (take k listed) i) refl
        where
          by_test : (t : Bool) → has (take k listed) i ≡ t → row new i ≡ cond (t || (i == get_or listed k 0)) (row old i ++ place ∷ []) (row old i)
          by_test true q = so.rows i low fresh ∙ ap (λ t. cond t (row old i ++ place ∷ []) (row old i)) q
          by_test false q =
              let same : row new i ≡ row old i = so.rows i low fresh ∙ ap (λ t. cond t (row old i ++ place ∷ []) (row old i)) q in
              let there : has (row old i) place ≡ true = has_last (row old i) place (sym (ap (λ r. is_last r place) same) ∙ ap (λ j. is_last (row new j) place) e ∙ ends) in
              let never : false ≡ true = sym fresh ∙ there in cc
      by_place i low fresh (inr other) = so.rows i low fresh ∙ ap (λ t. cond t (row old i ++ place ∷ []) (row old i)) (sym (or-false (has (take k listed) i)) ∙ ap (λ t. has (take k listed) i || t) (sym (ne_eqb i (get_or listed k 0) other)))

  pub pushed : at < length old → is_last (row new at) place ≡ false → IsPushedInEach old (set new at (row new at ++ place ∷ [])) (take (k + 1) listed) place
  pushed low_at ends = record {
    count = length-set new (get_or listed k 0) (row new (get_or listed k 0) ++ place ∷ []) ∙ so.count;
    rows = λ i low fresh. rw (has_take listed k i l) (by_place i low fresh (cases_eq i (get_or listed k 0)));
  }
    where
      by_place : (i : ℕ) → i < length old → has (row old i) place ≡ false → (i ≡ get_or listed k 0) ⊎ (i ≡ get_or listed k 0 → ⊥) → row (set new (get_or listed k 0) (row new (get_or listed k 0) ++ place ∷ [])) i ≡ cond (has (take k listed) i || (i == get_or listed k 0)) (row old i ++ place ∷ []) (row old i)
      by_place i low fresh (inl e) = by_test (has (take k listed) i) refl
        where
          by_test : (t : Bool) → has (take k listed) i ≡ t → row (set new (get_or listed k 0) (row new (get_or listed k 0) ++ place ∷ [])) i ≡ cond (t || (i == get_or listed k 0)) (row old i ++ place ∷ []) (row old i)
          by_test true q =
              let more : row new i ≡ row old i ++ place ∷ [] = so.rows i low fresh ∙ ap (λ t. cond t (row old i ++ place ∷ []) (row old i)) q in
              let never : false ≡ true = sym ends ∙ sym (ap (λ j. is_last (row new j) place) e) ∙ ap (λ r. is_last r place) more ∙ last_pushed (row old i) place in cc
          by_test false q =
              let same : row new i ≡ row old i = so.rows i low fresh ∙ ap (λ t. cond t (row old i ++ place ∷ []) (row old i)) q in
              ap (row (set new (get_or listed k 0) (row new (get_or listed k 0) ++ place ∷ []))) e
              ∙ get_or-set_same new (get_or listed k 0) (row new (get_or listed k 0) ++ place ∷ []) [] (omega (arith, so.count, low_at))
              ∙ sym (ap (λ j. row new j ++ place ∷ []) e)
              ∙ ap (λ r. r ++ place ∷ []) same
              ∙ sym (ap (λ t. cond t (row old i ++ place ∷ []) (row old i)) (eq-eqb i (get_or listed k 0) e))
      by_place i low fresh (inr other) =
          get_or-set_other new (get_or listed k 0) i (row new (get_or listed k 0) ++ place ∷ []) [] other
          ∙ so.rows i low fresh
          ∙ ap (λ t. cond t (row old i ++ place ∷ []) (row old i)) (sym (or-false (has (take k listed) i)) ∙ ap (λ t. has (take k listed) i || t) (sym (ne_eqb i (get_or listed k 0) other)))

-- ---- rows turned round

range_suc : (n a : ℕ) → range_with_len a (suc n) ≡ range_with_len a n ++ (a + n) ∷ []
range_suc zero a = let same : a ≡ a + 0 = omega arith in ap (λ b. b ∷ []) same
range_suc (suc n) a =
    let same : (a + 1) + n ≡ a + suc n = omega arith in
    ap (λ bs. a ∷ bs) (range_suc n (a + 1) ∙ ap (λ b. range_with_len (a + 1) n ++ b ∷ []) same)

pub range_more : (a n : ℕ) → range_with_len a (n + 1) ≡ range_with_len a n ++ (a + n) ∷ []
range_more a n = let one : n + 1 ≡ suc n = omega arith in ap (range_with_len a) one ∙ range_suc n a

-- what passes up to a place, with that place
pub filter_more : (f : ℕ → Bool) (n : ℕ) (old new : List ℕ) → old ≡ filter f (range_with_len 0 n) → new ≡ cond (f n) (old ++ n ∷ []) old → new ≡ filter f (range_with_len 0 (n + 1))
filter_more f n old new so pushed =
    pushed ∙ by_test (f n) refl ∙ sym (ap (filter f) (range_more 0 n) ∙ filter-append f (range_with_len 0 n) ((0 + n) ∷ []))
  where
    zero_more : (0 + n) ≡ n
    zero_more = grind arith

    by_test : (t : Bool) → f n ≡ t → cond t (old ++ n ∷ []) old ≡ filter f (range_with_len 0 n) ++ filter f ((0 + n) ∷ [])
    by_test true q =
        ap (λ r. r ++ n ∷ []) so
        ∙ ap (λ ps. filter f (range_with_len 0 n) ++ ps) (sym (ap (λ p. filter f (p ∷ [])) zero_more ∙ ap (λ t. cond t (n ∷ []) []) q))
    by_test false q =
        so
        ∙ sym (append-nil (filter f (range_with_len 0 n)))
        ∙ ap (λ ps. filter f (range_with_len 0 n) ++ ps) (sym (ap (λ p. filter f (p ∷ [])) zero_more ∙ ap (λ t. cond t (n ∷ []) []) q))

-- rows of the places before this one that pass, with this place
pub turned_more : (test : ℕ → ℕ → Bool) (old new : List (List ℕ)) (listed : List ℕ) (count place : ℕ) → length old ≡ count
    → ((i : ℕ) → i < count → row old i ≡ filter (λ k. test k i) (range_with_len 0 place))
    → IsPushedInEach old new listed place
    → ((i : ℕ) → has listed i ≡ test place i)
    → (i : ℕ) → i < count → row new i ≡ filter (λ k. test k i) (range_with_len 0 (place + 1))
turned_more test old new listed count place long so pushed same i low =
    filter_more (λ k. test k i) place (row old i) (row new i) (so i low)
    (pushed.rows i (omega (arith, low, long)) (ap (λ r. has r place) (so i low) ∙ filter_fresh (λ k. test k i) place place 0 (omega arith))
    ∙ ap (λ t. cond t (row old i ++ place ∷ []) (row old i)) (same i))
