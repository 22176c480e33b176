-- Lists in rising order: where a value stands, what is put in and what is taken out, and what insertion has sorted.
use Rattle.std.proofs.Common.{◌≡◌, refl, sym, ◌∙◌, ap, ℕ, suc, zero, ◌≤◌, ◌+◌, List, [], ◌∷◌, ◌++◌, length, Some, ℤ, Bool, true, false, arith, ◌<◌, inl, inr}
use Rattle.std.proofs.lemmas.Bool.{not-true, not-false}
use Rattle.std.specs.Prelude.{cond, get_or, ◌<◌, flat_map, find, slice_get, not, ◌⊎◌, int_le}
use Rattle.std.specs.List.{insert, remove}
use Rattle.std.specs.List.Sorted.{IsPartitionedBy, IsPartitionPoint}
use Rattle.smil_model.specs.declared.times.Time.{Time}
use Rattle.smil_model.specs.Times.{time_le, rising, rising_times}
use Rattle.smil_model.proofs.NumberOrders.{numbers_order, times_order}
use Rattle.smil_model.specs.Rising.{IsOrder, IsRising, IsPlaceFrom, put_in, taken_out, poured}

pub default_free : {A : Type 0} (xs : List A) (j : ℕ) (d e : A) → j < length xs → get_or xs j d ≡ get_or xs j e
default_free [] j d e inside = absurd (omega (arith, inside))
default_free (x ∷ xs) zero d e inside = refl
default_free (x ∷ xs) (suc j) d e inside = default_free xs j d e (omega (arith, inside))

pub clash : {G : Type 0} (b : Bool) → b ≡ true → b ≡ false → G
clash true p q = cc
clash false p q = cc

twice : (b : Bool) → not (not b) ≡ b
twice true = refl
twice false = refl

-- the first that passes stands where all before it fail
pub find_at : {A : Type 0} (p : A → Bool) (xs : List A) (place : ℕ) → ((k : ℕ) (d : A) → k < place → p (get_or xs k d) ≡ false) → ((k : ℕ) (d : A) → place ≤ k → k < length xs → p (get_or xs k d) ≡ true) → slice_get xs place ≡ find p xs
find_at p [] zero fail pass = refl
find_at p [] (suc place) fail pass = refl
find_at p (x ∷ xs) zero fail pass = ap (λ t. cond t (Some x) (find p xs)) (sym (pass 0 x (omega arith) (omega arith)))
find_at p (x ∷ xs) (suc place) fail pass =
    find_at p xs place (λ k d below. fail (suc k) d (omega (arith, below))) (λ k d from inside. pass (suc k) d (omega (arith, from)) (omega (arith, inside)))
    ∙ ap (λ t. cond t (Some x) (find p xs)) (sym (fail 0 x (omega arith)))

pub rest_rises : {A : Type 0} (le : A → A → Bool) (y : A) (ys : List A) → IsRising le (y ∷ ys) → IsRising le ys
rest_rises le y ys up = λ i j d q inside. up (suc i) (suc j) d (omega (arith, q)) (omega (arith, inside))

pub none_rise : {A : Type 0} (le : A → A → Bool) → IsRising le []
none_rise le = λ i j d q inside. absurd (omega (arith, inside))

module _ {A : Type 0} (le : A → A → Bool) (order : IsOrder le) where
  pub reflexive : (a : A) → le a a ≡ true
  reflexive a = step (le a a) refl
    where
      step : (t : Bool) → le a a ≡ t → le a a ≡ true
      step true q = q
      step false q = order.total a a q

  -- what is not at most a value isn't at most an earlier one
  not_earlier : (b a z : A) → le a z ≡ true → le b z ≡ false → le b a ≡ false
  not_earlier b a z up past = step (le b a) refl
    where
      step : (t : Bool) → le b a ≡ t → le b a ≡ false
      step true q = clash (le b z) (order.transitive b a z q up) past
      step false q = q

  -- ---- what a binary search asks and finds

  pub parted_from : (v : A) (xs : List A) → IsRising le xs → IsPartitionedBy (λ x. not (le v x)) xs
  parted_from v xs up = λ i j d before inside passes. ap not (not_earlier v (get_or xs i d) (get_or xs j d) (up i j d before inside) (not-true (le v (get_or xs j d)) passes))

  pub place_found : (xs : List A) (v : A) (p : ℕ) → p ≤ length xs → IsPartitionPoint (λ x. not (le v x) ≡ true) (λ x. not (le v x) ≡ false) xs p → IsPlaceFrom le xs v p
  place_found xs v p bound point =
      (bound, λ k d below. not-true (le v (get_or xs k d)) (point.0 k d (omega arith) below), λ k d from inside. not-false (le v (get_or xs k d)) (point.1 k d from inside))

  pub parted_after : (v : A) (xs : List A) → IsRising le xs → IsPartitionedBy (λ x. not (not (le x v))) xs
  parted_after v xs up = λ i j d before inside passes.
      ap (λ b. not (not b)) (order.transitive (get_or xs i d) (get_or xs j d) v (up i j d before inside) (sym (twice (le (get_or xs j d) v)) ∙ passes))

  pub find_after : (v : A) (xs : List A) (p : ℕ) → IsPartitionPoint (λ x. not (not (le x v)) ≡ true) (λ x. not (not (le x v)) ≡ false) xs p → slice_get xs p ≡ find (λ x. not (le x v)) xs
  find_after v xs p point =
      find_at (λ x. not (le x v)) xs p (λ k d below. not-true (not (le (get_or xs k d) v)) (point.0 k d (omega arith) below)) (λ k d from inside. not-false (not (le (get_or xs k d) v)) (point.1 k d from inside))

  -- ---- a place in a list

  shifted : (y : A) (ys : List A) (v : A) (p : ℕ) → IsPlaceFrom le (y ∷ ys) v (suc p) → IsPlaceFrom le ys v p
  shifted y ys v p (bound, less, rest) =
      (omega (arith, bound), λ k d below. less (suc k) d (omega (arith, below)), λ k d from inside. rest (suc k) d (omega (arith, from)) (omega (arith, inside)))

  pub insert_here : (xs : List A) (v : A) (p : ℕ) → IsPlaceFrom le xs v p → insert xs p v ≡ put_in le v xs
  insert_here [] v zero at = refl
  insert_here [] v (suc p) at = absurd (omega (arith, at.0))
  insert_here (y ∷ ys) v zero at = ap (λ t. cond t (v ∷ y ∷ ys) (y ∷ put_in le v ys)) (sym (at.2 0 v (omega arith) (omega arith)))
  insert_here (y ∷ ys) v (suc p) at =
      ap (λ zs. y ∷ zs) (insert_here ys v p (shifted y ys v p at))
      ∙ ap (λ t. cond t (v ∷ y ∷ ys) (y ∷ put_in le v ys)) (sym (at.1 0 v (omega arith)))

  pub remove_here : (xs : List A) (v : A) (p : ℕ) (x : A) → IsPlaceFrom le xs v p → p < length xs → x ≡ get_or xs p x → le x v ≡ true → remove xs p ≡ taken_out le v xs
  remove_here [] v p x at inside is back = absurd (omega (arith, inside))
  remove_here (y ∷ ys) v zero x at inside is back =
      sym (ap (λ t. cond t (cond (le y v) ys (y ∷ taken_out le v ys)) (y ∷ taken_out le v ys)) (at.2 0 v (omega arith) (omega arith))
      ∙ ap (λ t. cond t ys (y ∷ taken_out le v ys)) (ap (λ z. le z v) (sym is) ∙ back))
  remove_here (y ∷ ys) v (suc p) x at inside is back =
      ap (λ zs. y ∷ zs) (remove_here ys v p x (shifted y ys v p at) (omega (arith, inside)) is back)
      ∙ ap (λ t. cond t (cond (le y v) ys (y ∷ taken_out le v ys)) (y ∷ taken_out le v ys)) (sym (at.1 0 v (omega arith)))

  -- a value that is not there
  none_here : (xs : List A) (v : A) → ((k : ℕ) (d : A) → k < length xs → (le v (get_or xs k d) ≡ false) ⊎ (le (get_or xs k d) v ≡ false)) → xs ≡ taken_out le v xs
  none_here [] v none = refl
  none_here (y ∷ ys) v none = step (le v y) (le y v) refl refl (none 0 v (omega arith)) (none_here ys v (λ k d inside. none (suc k) d (omega (arith, inside))))
    where
      step : (s t : Bool) → le v y ≡ s → le y v ≡ t → (le v y ≡ false) ⊎ (le y v ≡ false) → ys ≡ taken_out le v ys → y ∷ ys ≡ cond s (cond t ys (y ∷ taken_out le v ys)) (y ∷ taken_out le v ys)
      step true true p q (inl r) rest = clash (le v y) p r
      step true true p q (inr r) rest = clash (le y v) q r
      step true false p q r rest = ap (λ zs. y ∷ zs) rest
      step false t p q r rest = ap (λ zs. y ∷ zs) rest

  pub none_from_place : (xs : List A) (v : A) (p : ℕ) → IsRising le xs → IsPlaceFrom le xs v p → ((d : A) → p < length xs → le (get_or xs p d) v ≡ false) → xs ≡ taken_out le v xs
  none_from_place xs v p up at more = none_here xs v each
    where
      by_side : (k : ℕ) (d : A) → k < length xs → (k < p) ⊎ (p ≤ k) → (le v (get_or xs k d) ≡ false) ⊎ (le (get_or xs k d) v ≡ false)
      by_side k d inside (inl q) = inl (at.1 k d q)
      by_side k d inside (inr q) = inr (later (le (get_or xs k d) v) refl)
        where
          later : (t : Bool) → le (get_or xs k d) v ≡ t → le (get_or xs k d) v ≡ false
          later true r = clash (le (get_or xs p d) v) (order.transitive (get_or xs p d) (get_or xs k d) v (up p k d q inside) r) (more d (omega (arith, q, inside)))
          later false r = r

      each : (k : ℕ) (d : A) → k < length xs → (le v (get_or xs k d) ≡ false) ⊎ (le (get_or xs k d) v ≡ false)
      each k d inside = by_side k d inside (grind arith)

  -- ---- the order is kept

  -- a bound of all values
  abbrev IsBelow : A → List A → Type 0
  IsBelow b xs = (k : ℕ) (d : A) → k < length xs → le b (get_or xs k d) ≡ true

  head_least : (y : A) (ys : List A) → IsRising le (y ∷ ys) → IsBelow y ys
  head_least y ys up = λ k d inside. up 0 (suc k) d (omega arith) (omega (arith, inside))

  rises_cons : (y : A) (ys : List A) → IsBelow y ys → IsRising le ys → IsRising le (y ∷ ys)
  rises_cons y ys least up zero zero d q inside = reflexive y
  rises_cons y ys least up zero (suc j) d q inside = least j d (omega (arith, inside))
  rises_cons y ys least up (suc i) zero d q inside = absurd (omega (arith, q))
  rises_cons y ys least up (suc i) (suc j) d q inside = up i j d (omega (arith, q)) (omega (arith, inside))

  below_cons : (b y : A) (ys : List A) → le b y ≡ true → IsBelow b ys → IsBelow b (y ∷ ys)
  below_cons b y ys q rest zero d inside = q
  below_cons b y ys q rest (suc k) d inside = rest k d (omega (arith, inside))

  below_rest : (b y : A) (ys : List A) → IsBelow b (y ∷ ys) → IsBelow b ys
  below_rest b y ys all = λ k d inside. all (suc k) d (omega (arith, inside))

  below_put : (b v : A) (xs : List A) → le b v ≡ true → IsBelow b xs → IsBelow b (put_in le v xs)
  below_put b v [] q all = below_cons b v [] q all
  below_put b v (y ∷ ys) q all = step (le v y) (below_put b v ys q (below_rest b y ys all))
    where
      step : (t : Bool) → IsBelow b (put_in le v ys) → IsBelow b (cond t (v ∷ y ∷ ys) (y ∷ put_in le v ys))
      step true rest = below_cons b v (y ∷ ys) q all
      step false rest = below_cons b y (put_in le v ys) (all 0 v (omega arith)) rest

  pub rises_put : (v : A) (xs : List A) → IsRising le xs → IsRising le (put_in le v xs)
  rises_put v [] up = rises_cons v [] (λ k d inside. absurd (omega (arith, inside))) up
  rises_put v (y ∷ ys) up = step (le v y) refl (rises_put v ys (rest_rises le y ys up))
    where
      step : (t : Bool) → le v y ≡ t → IsRising le (put_in le v ys) → IsRising le (cond t (v ∷ y ∷ ys) (y ∷ put_in le v ys))
      step true q rest =
          rises_cons v (y ∷ ys)
          (below_cons v y ys q (λ k d inside. order.transitive v y (get_or ys k d) q (head_least y ys up k d inside)))
          up
      step false q rest = rises_cons y (put_in le v ys) (below_put y v ys (order.total v y q) (head_least y ys up)) rest

  below_taken : (b v : A) (xs : List A) → IsBelow b xs → IsBelow b (taken_out le v xs)
  below_taken b v [] all = all
  below_taken b v (y ∷ ys) all = step (le v y) (le y v) (below_taken b v ys (below_rest b y ys all))
    where
      step : (s t : Bool) → IsBelow b (taken_out le v ys) → IsBelow b (cond s (cond t ys (y ∷ taken_out le v ys)) (y ∷ taken_out le v ys))
      step true true rest = below_rest b y ys all
      step true false rest = below_cons b y (taken_out le v ys) (all 0 v (omega arith)) rest
      step false t rest = below_cons b y (taken_out le v ys) (all 0 v (omega arith)) rest

  pub rises_taken : (v : A) (xs : List A) → IsRising le xs → IsRising le (taken_out le v xs)
  rises_taken v [] up = up
  rises_taken v (y ∷ ys) up = step (le v y) (le y v) (rises_taken v ys (rest_rises le y ys up))
    where
      step : (s t : Bool) → IsRising le (taken_out le v ys) → IsRising le (cond s (cond t ys (y ∷ taken_out le v ys)) (y ∷ taken_out le v ys))
      step true true rest = rest_rises le y ys up
      step true false rest = rises_cons y (taken_out le v ys) (below_taken y v ys (head_least y ys up)) rest
      step false t rest = rises_cons y (taken_out le v ys) (below_taken y v ys (head_least y ys up)) rest

  -- ---- what is put in and taken out

  pub taken_put : (v : A) (xs : List A) → taken_out le v (put_in le v xs) ≡ xs
  taken_put v [] =
      ap (λ t. cond t (cond (le v v) [] (v ∷ [])) (v ∷ [])) (reflexive v) ∙ ap (λ t. cond t [] (v ∷ [])) (reflexive v)
  taken_put v (y ∷ ys) = step (le v y) refl (taken_put v ys)
    where
      step : (t : Bool) → le v y ≡ t → taken_out le v (put_in le v ys) ≡ ys → taken_out le v (cond t (v ∷ y ∷ ys) (y ∷ put_in le v ys)) ≡ y ∷ ys
      step true q rest =
          ap (λ t. cond t (cond (le v v) (y ∷ ys) (v ∷ taken_out le v (y ∷ ys))) (v ∷ taken_out le v (y ∷ ys))) (reflexive v)
          ∙ ap (λ t. cond t (y ∷ ys) (v ∷ taken_out le v (y ∷ ys))) (reflexive v)
      step false q rest =
          ap (λ t. cond t (cond (le y v) (put_in le v ys) (y ∷ taken_out le v (put_in le v ys))) (y ∷ taken_out le v (put_in le v ys))) q
          ∙ ap (λ zs. y ∷ zs) rest

  -- both orders of two in front of a list
  two : (a b : A) (zs : List A) → cond (le a b) (a ∷ b ∷ zs) (b ∷ a ∷ zs) ≡ cond (le b a) (b ∷ a ∷ zs) (a ∷ b ∷ zs)
  two a b zs = step (le a b) (le b a) refl refl
    where
      step : (s t : Bool) → le a b ≡ s → le b a ≡ t → cond s (a ∷ b ∷ zs) (b ∷ a ∷ zs) ≡ cond t (b ∷ a ∷ zs) (a ∷ b ∷ zs)
      step true true p q = let same : a ≡ b = order.exact a b p q in ap (λ z. a ∷ z ∷ zs) (sym same) ∙ ap (λ z. z ∷ a ∷ zs) same
      step true false p q = refl
      step false true p q = refl
      step false false p q = clash (le b a) (order.total a b p) q

  put_swap : (a b : A) (zs : List A) → put_in le a (put_in le b zs) ≡ put_in le b (put_in le a zs)
  put_swap a b [] = two a b []
  put_swap a b (z ∷ zs) = step (le a z) (le b z) refl refl (put_swap a b zs)
    where
      step : (s t : Bool) → le a z ≡ s → le b z ≡ t → put_in le a (put_in le b zs) ≡ put_in le b (put_in le a zs) → put_in le a (cond t (b ∷ z ∷ zs) (z ∷ put_in le b zs)) ≡ put_in le b (cond s (a ∷ z ∷ zs) (z ∷ put_in le a zs))
      step true true p q rest =
          ap (λ u. cond (le a b) (a ∷ b ∷ z ∷ zs) (b ∷ cond u (a ∷ z ∷ zs) (z ∷ put_in le a zs))) p
          ∙ two a b (z ∷ zs)
          ∙ sym (ap (λ u. cond (le b a) (b ∷ a ∷ z ∷ zs) (a ∷ cond u (b ∷ z ∷ zs) (z ∷ put_in le b zs))) q)
      step true false p q rest =
          ap (λ u. cond u (a ∷ z ∷ put_in le b zs) (z ∷ put_in le a (put_in le b zs))) p
          ∙ sym (ap (λ u. cond u (b ∷ a ∷ z ∷ zs) (a ∷ cond (le b z) (b ∷ z ∷ zs) (z ∷ put_in le b zs))) (not_earlier b a z p q)
          ∙ ap (λ u. a ∷ cond u (b ∷ z ∷ zs) (z ∷ put_in le b zs)) q)
      step false true p q rest =
          ap (λ u. cond u (a ∷ b ∷ z ∷ zs) (b ∷ cond (le a z) (a ∷ z ∷ zs) (z ∷ put_in le a zs))) (not_earlier a b z q p)
          ∙ ap (λ u. b ∷ cond u (a ∷ z ∷ zs) (z ∷ put_in le a zs)) p
          ∙ sym (ap (λ u. cond u (b ∷ z ∷ put_in le a zs) (z ∷ put_in le b (put_in le a zs))) q)
      step false false p q rest =
          ap (λ u. cond u (a ∷ z ∷ put_in le b zs) (z ∷ put_in le a (put_in le b zs))) p
          ∙ ap (λ zs. z ∷ zs) rest
          ∙ sym (ap (λ u. cond u (b ∷ z ∷ put_in le a zs) (z ∷ put_in le b (put_in le a zs))) q)

  -- ---- many values

  pub rises_poured : (xs into : List A) → IsRising le into → IsRising le (poured le xs into)
  rises_poured [] into up = up
  rises_poured (x ∷ xs) into up = rises_put x (poured le xs into) (rises_poured xs into up)

  pub poured-append : (xs ys into : List A) → poured le (xs ++ ys) into ≡ poured le xs (poured le ys into)
  poured-append [] ys into = refl
  poured-append (x ∷ xs) ys into = ap (put_in le x) (poured-append xs ys into)

  pub poured-put : (a : A) (xs into : List A) → poured le xs (put_in le a into) ≡ put_in le a (poured le xs into)
  poured-put a [] into = refl
  poured-put a (x ∷ xs) into = ap (put_in le x) (poured-put a xs into) ∙ put_swap x a (poured le xs into)

  pub poured-swap : (xs ys into : List A) → poured le xs (poured le ys into) ≡ poured le ys (poured le xs into)
  poured-swap [] ys into = refl
  poured-swap (x ∷ xs) ys into = ap (put_in le x) (poured-swap xs ys into) ∙ sym (poured-put x ys (poured le xs into))

  -- two parts of what each gives, the second parts last
  pub parts_apart : {X : Type 0} (f g : X → List A) (xs : List X) → poured le (flat_map (λ x. f x ++ g x) xs) [] ≡ poured le (flat_map g xs) (poured le (flat_map f xs) [])
  parts_apart f g [] = refl
  parts_apart f g (x ∷ xs) =
      poured-append (f x ++ g x) (flat_map (λ y. f y ++ g y) xs) []
      ∙ ap (poured le (f x ++ g x)) (parts_apart f g xs)
      ∙ poured-append (f x) (g x) (poured le (flat_map g xs) (poured le (flat_map f xs) []))
      ∙ poured-swap (f x) (g x) (poured le (flat_map g xs) (poured le (flat_map f xs) []))
      ∙ ap (poured le (g x)) (poured-swap (f x) (flat_map g xs) (poured le (flat_map f xs) []))
      ∙ sym (poured-append (g x) (flat_map g xs) (poured le (f x) (poured le (flat_map f xs) [])))
      ∙ ap (poured le (g x ++ flat_map g xs)) (sym (poured-append (f x) (flat_map f xs) []))

-- ---- numbers, and times

pub rising_rises : (xs : List ℤ) → IsRising int_le (rising xs)
rising_rises xs = rises_poured int_le numbers_order xs [] (none_rise int_le)

pub rising_times_rise : (ts : List Time) → IsRising time_le (rising_times ts)
rising_times_rise ts = rises_poured time_le times_order ts [] (none_rise time_le)
