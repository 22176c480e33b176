-- Places that pass a test, in rising order.
use Rattle.std.proofs.Common.{◌≡◌, refl, sym, ◌∙◌, ap, ℕ, suc, zero, ◌<◌, ◌≤◌, ◌+◌, ◌-◌, List, [], ◌∷◌, length, get_or, Bool, true, false, Option, Some, None, Result, Ok, Err, arith, inl, inr, nat_eq}
use Rattle.std.specs.Prelude.{cond, ◌==◌, ◌||◌, ◌⊎◌, filter}
use Rattle.std.specs.List.{range_with_len, IsDistinct}
use Rattle.std.specs.List.Sorted.{IsSorted, IsBinarySearchResult}
use Rattle.std.specs.Result.{MatchResult}
use Rattle.std.specs.Ordering.{nat_cmp}
use Rattle.std.proofs.lemmas.List.Sorted.{IsNonDecreasingBy-from_sort, searched}
use Rattle.std.proofs.lemmas.Bool.{or_left, or_right, or_cases, or_from, eqb-true, eq-eqb, ne_eqb, cases_eq}
use Rattle.std.proofs.lemmas.Map.Keys.{IsDistinct-tail, apart_from_distinct}
use Rattle.smil_model.specs.document.Closure.{has}
use Rattle.smil_graph.specs.Links.{IsRising}
use Rattle.smil_graph.specs.Places.{before}
use Rattle.smil_graph.proofs.PlaceLists.{index_of, has_get}

pub filter_fresh : (p : ℕ → Bool) (n x a : ℕ) → a + n ≤ x → has (filter p (range_with_len a n)) x ≡ false
filter_fresh p zero x a l = refl
filter_fresh p (suc n) x a l = step (p a) (filter_fresh p n x (a + 1) (omega (arith, l)))
  where
    step : (t : Bool) → has (filter p (range_with_len (a + 1) n)) x ≡ false → has (cond t (a ∷ filter p (range_with_len (a + 1) n)) (filter p (range_with_len (a + 1) n))) x ≡ false
    step true q = let apart : a == x ≡ false = ne_eqb a x (λ e. absurd (omega (arith, e, l))) in rw apart q
    step false q = q

pub has_in_range : (f : ℕ → Bool) (n a i : ℕ) → a ≤ i → i < a + n → has (filter f (range_with_len a n)) i ≡ f i
has_in_range f zero a i l h = absurd (omega (arith, l, h))
has_in_range f (suc n) a i l h = by_case (cases_eq i a) (has_in_range f n (a + 1) i)
  where
    past : (n a : ℕ) → i < a → has (filter f (range_with_len a n)) i ≡ false
    past zero a less = refl
    past (suc n) a less = step (f a) (past n (a + 1) (omega (arith, less)))
      where
        step : (t : Bool) → has (filter f (range_with_len (a + 1) n)) i ≡ false → has (cond t (a ∷ filter f (range_with_len (a + 1) n)) (filter f (range_with_len (a + 1) n))) i ≡ false
        step true q = or_from _ _ (ne_eqb a i (λ e. absurd (omega (arith, e, less)))) q
        step false q = q

    here : (t : Bool) → i ≡ a → f a ≡ t → has (cond t (a ∷ filter f (range_with_len (a + 1) n)) (filter f (range_with_len (a + 1) n))) i ≡ t
    here true e q = or_left _ _ (eq-eqb a i (sym e))
    here false e q = past n (a + 1) (omega (arith, e))

    other : (t : Bool) → (i ≡ a → ⊥) → has (filter f (range_with_len (a + 1) n)) i ≡ f i → has (cond t (a ∷ filter f (range_with_len (a + 1) n)) (filter f (range_with_len (a + 1) n))) i ≡ f i
    other true o q = ap (λ t. t || has (filter f (range_with_len (a + 1) n)) i) (ne_eqb a i (λ e. o (sym e))) ∙ q
    other false o q = q

    by_case : (i ≡ a) ⊎ (i ≡ a → ⊥) → (a + 1 ≤ i → i < (a + 1) + n → has (filter f (range_with_len (a + 1) n)) i ≡ f i) → has (cond (f a) (a ∷ filter f (range_with_len (a + 1) n)) (filter f (range_with_len (a + 1) n))) i ≡ f i
    by_case (inl e) later = here (f a) e refl ∙ ap f (sym e)
    by_case (inr o) later = other (f a) o (later (grind (arith, o, l)) (omega (arith, h)))

-- what is listed lies in the range and passes
pub filter_below : (f : ℕ → Bool) (n i : ℕ) → has (filter f (range_with_len 0 n)) i ≡ true → (i < n) × (f i ≡ true)
filter_below f n i q = by_case (grind arith)
  where
    by_case : (i < n) ⊎ (n ≤ i) → (i < n) × (f i ≡ true)
    by_case (inl l) = (l, sym (has_in_range f n 0 i (omega arith) (omega (arith, l))) ∙ q)
    by_case (inr l) = let never : false ≡ true = sym (filter_fresh f n i 0 (omega (arith, l))) ∙ q in absurd (cc)

pub filter_same : (f g : ℕ → Bool) (n a : ℕ) → ((k : ℕ) → a ≤ k → k < a + n → f k ≡ g k) → filter f (range_with_len a n) ≡ filter g (range_with_len a n)
filter_same f g zero a same = refl
filter_same f g (suc n) a same =
    ap (λ t. cond t (a ∷ filter f (range_with_len (a + 1) n)) (filter f (range_with_len (a + 1) n))) (same a (omega arith) (omega arith))
    ∙ ap (λ ks. cond (g a) (a ∷ ks) ks) (filter_same f g n (a + 1) (λ k l h. same k (omega (arith, l)) (omega (arith, h))))

pub filter_none : (f : ℕ → Bool) (n a : ℕ) → ((k : ℕ) → a ≤ k → k < a + n → f k ≡ false) → filter f (range_with_len a n) ≡ []
filter_none f n a none = filter_same f (λ k. false) n a none ∙ empty n a
  where
    empty : (n a : ℕ) → filter (λ k. false) (range_with_len a n) ≡ []
    empty zero a = refl
    empty (suc n) a = empty n (a + 1)

-- ---- rising lists

pub rising : (xs : List ℕ) → ((i j : ℕ) → i ≤ j → j < length xs → get_or xs i 0 ≤ get_or xs j 0) → IsDistinct nat_eq xs → IsRising xs
rising [] up d = tt
rising (x ∷ xs) up d = (λ y q. above y (index_of xs y q), rising xs (λ i j l h. up (suc i) (suc j) (omega (arith, l)) (omega (arith, h))) (IsDistinct-tail nat_eq x xs d))
  where
    above : (y : ℕ) → (k : ℕ) × (k < length xs) × (get_or xs k 0 ≡ y) → x < y
    above y found =
        by_case (cases_eq x (get_or xs found.0 0))
      where
        by_case : (x ≡ get_or xs found.0 0) ⊎ (x ≡ get_or xs found.0 0 → ⊥) → x < y
        by_case (inl e) = let never : false ≡ true = sym (apart_from_distinct nat_eq (x ∷ xs) 0 (suc found.0) 0 d (omega arith) (omega (arith, found.1))) ∙ eq-eqb x (get_or xs found.0 0) e in absurd (cc)
        by_case (inr o) =
            let low : x ≤ get_or xs found.0 0 = up 0 (suc found.0) (omega arith) (omega (arith, found.1)) in
            let same : get_or xs found.0 0 ≡ y = found.2 in
            grind (arith, o, low, same)

pub sorted_rising : (xs : List ℕ) → IsSorted nat_cmp xs → IsDistinct nat_eq xs → IsRising xs
sorted_rising xs up d = rising xs (λ i j l h. IsNonDecreasingBy-from_sort (λ x. x) xs up i j 0 l h) d

-- a rising list is what passes its test in the range
pub rising_is : (f : ℕ → Bool) (n a : ℕ) (xs : List ℕ) → IsRising xs → ((i : ℕ) → has xs i ≡ true → (a ≤ i) × (i < a + n)) → ((i : ℕ) → a ≤ i → i < a + n → has xs i ≡ f i) → xs ≡ filter f (range_with_len a n)
rising_is f zero a [] up in_range same = refl
rising_is f zero a (x ∷ xs) up in_range same = let bounds = in_range x (or_left _ _ (eq-eqb x x refl)) in absurd (omega (arith, bounds.0, bounds.1))
rising_is f (suc n) a xs up in_range same = by_test (f a) refl (λ ys. rising_is f n (a + 1) ys)
  where
    later : (i : ℕ) → (i ≡ a → ⊥) → a ≤ i → a + 1 ≤ i
    later i o l = grind (arith, o, l)

    by_test : (t : Bool) → f a ≡ t → ((ys : List ℕ) → IsRising ys → ((i : ℕ) → has ys i ≡ true → (a + 1 ≤ i) × (i < (a + 1) + n)) → ((i : ℕ) → a + 1 ≤ i → i < (a + 1) + n → has ys i ≡ f i) → ys ≡ filter f (range_with_len (a + 1) n)) → xs ≡ cond (f a) (a ∷ filter f (range_with_len (a + 1) n)) (filter f (range_with_len (a + 1) n))
    by_test false e without =
        without xs up
        (λ i q. (later i (λ s. let never : true ≡ false = sym (ap (has xs) (sym s) ∙ q) ∙ same a (omega arith) (omega arith) ∙ e in absurd (cc)) (in_range i q).0, omega (arith, (in_range i q).1)))
        (λ i l h. same i (omega (arith, l)) (omega (arith, h)))
        ∙ sym (ap (λ t. cond t (a ∷ filter f (range_with_len (a + 1) n)) (filter f (range_with_len (a + 1) n))) e)
    by_test true e without = by_list xs up in_range same (same a (omega arith) (omega arith) ∙ e) ∙ sym (ap (λ t. cond t (a ∷ filter f (range_with_len (a + 1) n)) (filter f (range_with_len (a + 1) n))) e)
      where
        by_list : (ys : List ℕ) → IsRising ys → ((i : ℕ) → has ys i ≡ true → (a ≤ i) × (i < a + suc n)) → ((i : ℕ) → a ≤ i → i < a + suc n → has ys i ≡ f i) → has ys a ≡ true → ys ≡ a ∷ filter f (range_with_len (a + 1) n)
        by_list [] up' low is here = cc
        by_list (x ∷ ys) up' low is here = by_head (cases_eq a x)
          where
            by_head : (a ≡ x) ⊎ (a ≡ x → ⊥) → x ∷ ys ≡ a ∷ filter f (range_with_len (a + 1) n)
            by_head (inr o) =
                let more : has ys a ≡ true = sym (ap (λ t. t || has ys a) (ne_eqb x a (λ e. o (sym e)))) ∙ here in
                let bound : a ≤ x = (low x (or_left _ _ (eq-eqb x x refl))).0 in
                let less : x < a = up'.0 a more in
                absurd (omega (arith, less, bound))
            by_head (inl s) =
                ap (λ z. z ∷ ys) (sym s)
                ∙ ap (λ zs. a ∷ zs)
                (without ys up'.1
                (λ i q. (above i (up'.0 i q), omega (arith, (low i (or_right _ _ q)).1)))
                (λ i l h. sym (ap (λ t. t || has ys i) (ne_eqb x i (λ r. absurd (omega (arith, r, s, l))))) ∙ is i (omega (arith, l)) (omega (arith, h))))
              where
                above : (i : ℕ) → x < i → a + 1 ≤ i
                above i l = omega (arith, l, s)

pub filter_rising : (f : ℕ → Bool) (n a : ℕ) → IsRising (filter f (range_with_len a n))
filter_rising f zero a = tt
filter_rising f (suc n) a = step (f a) (filter_rising f n (a + 1))
  where
    above : (n b y : ℕ) → has (filter f (range_with_len b n)) y ≡ true → b ≤ y
    above zero b y q = cc
    above (suc n) b y q = by_test (f b) q (above n (b + 1) y)
      where
        by_test : (t : Bool) → has (cond t (b ∷ filter f (range_with_len (b + 1) n)) (filter f (range_with_len (b + 1) n))) y ≡ true → (has (filter f (range_with_len (b + 1) n)) y ≡ true → b + 1 ≤ y) → b ≤ y
        by_test false r later = omega (arith, later r)
        by_test true r later = by_case (or_cases (b == y) (has (filter f (range_with_len (b + 1) n)) y) r)
          where
            by_case : (b == y ≡ true) ⊎ (has (filter f (range_with_len (b + 1) n)) y ≡ true) → b ≤ y
            by_case (inl e) = let same : b ≡ y = eqb-true b y e in omega (arith, same)
            by_case (inr e) = omega (arith, later e)

    step : (t : Bool) → IsRising (filter f (range_with_len (a + 1) n)) → IsRising (cond t (a ∷ filter f (range_with_len (a + 1) n)) (filter f (range_with_len (a + 1) n)))
    step true rest = (λ y q. let low : a + 1 ≤ y = above n (a + 1) y q in omega (arith, low), rest)
    step false rest = rest

-- ---- the one before in a rising list

rising_up : (xs : List ℕ) → IsRising xs → (i j : ℕ) → i ≤ j → j < length xs → get_or xs i 0 ≤ get_or xs j 0
rising_up [] up i j l h = absurd (omega (arith, h))
rising_up (x ∷ xs) up zero zero l h = omega arith
rising_up (x ∷ xs) up zero (suc j) l h = let low : x < get_or xs j 0 = up.0 (get_or xs j 0) (has_get xs j (omega (arith, h))) in omega (arith, low)
rising_up (x ∷ xs) up (suc i) zero l h = absurd (omega (arith, l))
rising_up (x ∷ xs) up (suc i) (suc j) l h = rising_up xs up.1 i j (omega (arith, l)) (omega (arith, h))

abbrev pub one_back : Option ℕ → List ℕ → ℕ → Option ℕ
one_back last xs zero = last
one_back last xs (suc k) = Some (get_or xs k 0)

before_at : (p : ℕ) (last : Option ℕ) (xs : List ℕ) → IsRising xs → (k : ℕ) → k < length xs → get_or xs k 0 ≡ p → before p last xs ≡ one_back last xs k
before_at p last [] up k l e = absurd (omega (arith, l))
before_at p last (x ∷ xs) up zero l e = ap (λ t. cond t last (before p (Some x) xs)) (eq-eqb x p e)
before_at p last (x ∷ xs) up (suc k) l e =
    ap (λ t. cond t last (before p (Some x) xs)) (ne_eqb x p (λ s. absurd (omega (arith, up.0 p (ap (has xs) (sym e) ∙ has_get xs k (omega (arith, l))), s))))
    ∙ before_at p (Some x) xs up.1 k (omega (arith, l)) e
    ∙ by_place k
  where
    by_place : (k : ℕ) → one_back (Some x) xs k ≡ Some (get_or (x ∷ xs) k 0)
    by_place zero = refl
    by_place (suc k) = refl

before_none : (p : ℕ) (last : Option ℕ) (xs : List ℕ) → ((k : ℕ) → k < length xs → get_or xs k 0 ≡ p → ⊥) → before p last xs ≡ None
before_none p last [] none = refl
before_none p last (x ∷ xs) none =
    ap (λ t. cond t last (before p (Some x) xs)) (ne_eqb x p (none 0 (omega arith)))
    ∙ before_none p (Some x) xs (λ k l. none (suc k) (omega (arith, l)))

pub one_back_is : (xs : List ℕ) (k : ℕ) → 0 < k → Some (get_or xs (k - 1) 0) ≡ one_back None xs k
one_back_is xs zero l = absurd (omega (arith, l))
one_back_is xs (suc k) l = let same : suc k - 1 ≡ k = omega arith in ap (λ j. Some (get_or xs j 0)) same

-- what a search finds tells the one before
pub found_before : (p : ℕ) (xs : List ℕ) (r : Result ℕ ℕ) → IsRising xs → IsBinarySearchResult (λ y. nat_cmp y p) xs r → MatchResult r (λ k. before p None xs ≡ one_back None xs k) (λ _. before p None xs ≡ None)
found_before p xs (Ok k) up result = let found = searched xs p (Ok k) result (rising_up xs up) in before_at p None xs up k found.0 found.1
found_before p xs (Err k) up result = let lost = searched xs p (Err k) result (rising_up xs up) in before_none p None xs (λ j l e. by_case j l e lost (grind arith))
  where
    by_case : (j : ℕ) → j < length xs → get_or xs j 0 ≡ p → (k ≤ length xs) × ((i : ℕ) → i < k → get_or xs i 0 < p) × ((i : ℕ) → k ≤ i → i < length xs → p < get_or xs i 0) → (j < k) ⊎ (k ≤ j) → ⊥
    by_case j l e lost (inl low) = absurd (omega (arith, lost.1 j low, e))
    by_case j l e lost (inr high) = absurd (omega (arith, lost.2 j high l, e))
