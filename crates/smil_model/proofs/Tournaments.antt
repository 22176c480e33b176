-- Tournaments: which places stay decided where one changes, how many there are, and what the first one comes to.
use Rattle.std.proofs.Common.{◌≡◌, ◌≢◌, ◌∙◌, ap, sym, subst, ℕ, max, ◌^◌, zero, suc, ◌+◌, ◌*◌, ◌/◌, ◌<◌, ◌≤◌, List, [], ◌∷◌, ◌++◌, length, drop, get_or-set_other, get_or-set_same, set, arith, length-append, ◌⊎◌, inl, inr}
use Rattle.std.proofs.Math.ListN.{drop_of_length-le}
use Rattle.std.proofs.Math.Nat.{mul-le-mul_left, one-le-pow, pow-le-pow_right, pow-suc}
use Rattle.std.proofs.Math.Seq.{drop-cons}
use Rattle.std.proofs.lemmas.Bool.{cases_eq, cases_lt}
use Rattle.std.proofs.lemmas.List.{drop_at, get_or_past}
use Rattle.smil_model.specs.Tournaments.{at_place, IsDecided, IsSum, IsTournament, most_items}

-- ---- the decided

module _ {A : Type 0} (none : A) (both : A → A → A) where
  -- at the top all is decided
  pub at_top : (places : List A) (half place : ℕ) → place ≤ 1 → ((i : ℕ) → 0 < i → i < half → i ≢ place / 2 → IsDecided none both places i) → (i : ℕ) → 0 < i → i < half → IsDecided none both places i
  at_top places half place top others i above below = others i above below (λ e. absurd (omega (arith, e, above, top)))

  -- a place that is given what comes of the two below it is decided
  decides : (places : List A) (place : ℕ) (item : A) → 0 < place → place < length places → item ≡ both (at_place none places (2 * place)) (at_place none places (2 * place + 1)) → IsDecided none both (set places place item) place
  decides places place item above within is =
      let first : place + place ≢ place = λ e. absurd (omega arith) in
      let second : place + place + 1 ≢ place = λ e. absurd (omega arith) in
      let twice : 2 * place ≡ place + place = omega arith in
      get_or-set_same places place item none within
      ∙ is
      ∙ (λ j. both (at_place none places (twice j)) (at_place none places (twice j + 1)))
      ∙ (λ j. both (sym (get_or-set_other places place (place + place) item none first) j) (sym (get_or-set_other places place (place + place + 1) item none second) j))

  -- a place stays decided where neither it nor one of the two below it changes
  stays : (places : List A) (i place : ℕ) (item : A) → i ≢ place → i + i ≢ place → i + i + 1 ≢ place → IsDecided none both places i → IsDecided none both (set places place item) i
  stays places i place item own first second decided =
      get_or-set_other places place i item none own
      ∙ decided
      ∙ (λ j. both (sym (get_or-set_other places place (i + i) item none first) j) (sym (get_or-set_other places place (i + i + 1) item none second) j))

  -- a change breaks nothing but the place above it
  pub changed_slot : (places : List A) (half place : ℕ) (item : A) → half ≤ place → ((i : ℕ) → 0 < i → i < half → IsDecided none both places i) → (i : ℕ) → 0 < i → i < half → i ≢ place / 2 → IsDecided none both (set places place item) i
  changed_slot places half place item from decided i above below other =
      stays places i place item (λ e. absurd (omega arith)) (λ e. other (omega arith)) (λ e. other (omega arith)) (decided i above below)

  -- one more place is decided on the way up
  pub decided_more : (places : List A) (half place : ℕ) (item : A) → 0 < place → place < half → half ≤ length places → item ≡ both (at_place none places (2 * place)) (at_place none places (2 * place + 1)) → ((i : ℕ) → 0 < i → i < half → i ≢ place → IsDecided none both places i) → (i : ℕ) → 0 < i → i < half → i ≢ place / 2 → IsDecided none both (set places place item) i
  decided_more places half place item above below within is decided i i_above i_below other = by_case (cases_eq i place)
    where
      by_case : (i ≡ place) ⊎ (i ≢ place) → IsDecided none both (set places place item) i
      by_case (inl e) = subst (IsDecided none both (set places place item)) (sym e) (decides places place item above (omega arith) is)
      by_case (inr differ) =
          stays places i place item differ (λ e. other (omega arith)) (λ e. other (omega arith)) (decided i i_above i_below differ)

  -- one more place is decided, from the last one down
  pub decided_down : (places : List A) (half place : ℕ) (item : A) → 0 < place → place < half → half ≤ length places → item ≡ both (at_place none places (2 * place)) (at_place none places (2 * place + 1)) → ((i : ℕ) → place + 1 ≤ i → 0 < i → i < half → IsDecided none both places i) → (i : ℕ) → place ≤ i → 0 < i → i < half → IsDecided none both (set places place item) i
  decided_down places half place item above below within is later i from i_above i_below = by_case (cases_eq i place)
    where
      by_case : (i ≡ place) ⊎ (i ≢ place) → IsDecided none both (set places place item) i
      by_case (inl e) = subst (IsDecided none both (set places place item)) (sym e) (decides places place item above (omega arith) is)
      by_case (inr differ) =
          stays places i place item differ (λ e. absurd (omega (arith, from, i_above, e))) (λ e. absurd (omega (arith, from, i_above, e)))
          (later i (omega (arith, from, differ)) i_above i_below)

-- ---- how many places

power_up : (k n : ℕ) → 2 ^ k / 2 < n → n ≤ 2 ^ 32 → 2 ^ k ≤ 2 ^ 32
power_up k n half most = by_case (cases_lt 32 k)
  where
    two : 0 < 2
    two = omega arith

    by_case : (32 < k) ⊎ (k ≤ 32) → 2 ^ k ≤ 2 ^ 32
    by_case (inl high) =
        let over : 2 ^ 33 ≤ 2 ^ k = pow-le-pow_right two high in
        absurd (omega arith)
    by_case (inr low) = pow-le-pow_right two low

-- the least power of 2 that is not below a count of items is at most their greatest number too
pub few_places : (half count : ℕ) → (k : ℕ) × (half ≡ 2 ^ k) → half / 2 < max 1 count → count ≤ most_items → half ≤ most_items
few_places half count (k, half_is) tight few =
    subst (λ (n : ℕ). n ≤ most_items) (sym half_is) (power_up k (max 1 count) (subst (λ (n : ℕ). n / 2 < max 1 count) half_is tight) (omega arith))

-- ---- at first, and after a change

-- behind so many places stand the items that were put there
pub laid : {A : Type 0} (half : ℕ) (front items all : List A) → length front ≡ half → all ≡ front ++ items → (length all ≡ half + length items) × (drop half all ≡ items)
laid half front items all long are =
    (ap length are ∙ length-append front items ∙ ap (λ n. n + length items) long, ap (drop half) are ∙ drop_at front items half long)

module _ {A : Type 0} (none : A) (both : A → A → A) where
  pub first_made : (places : List A) (half count : ℕ) → (k : ℕ) × (half ≡ 2 ^ k) → count ≤ half → half / 2 < max 1 count → count ≤ most_items → length places ≡ half + count → ((i : ℕ) → 0 < i → i < half → IsDecided none both places i) → IsTournament none both places half
  first_made places half count power lower upper few whole decided = record {
    height = power.0;
    half_is = power.1;
    few = few_places half count power upper few;
    from = omega (arith, whole);
    enough = omega (arith, whole, lower);
    decided = decided;
  }

  pub next_made : (old new : List A) (half : ℕ) → IsTournament none both old half → length new ≡ length old → ((i : ℕ) → 0 < i → i < half → IsDecided none both new i) → IsTournament none both new half
  next_made old new half was count decided = record {
    height = was.height;
    half_is = was.half_is;
    few = was.few;
    from = omega (arith, count, was.from);
    enough = omega (arith, count, was.enough);
    decided = decided;
  }

-- ---- what the first place comes to

module _ {A : Type 0} (none : A) (both : A → A → A) (sum : List A → A) (is : IsSum none both sum) where
  -- so many items from a place on, those of empty places past the last one too
  abbrev part : List A → ℕ → ℕ → List A
  part places zero from = []
  part places (suc n) from = at_place none places from ∷ part places n (suc from)

  part_of_both : (places : List A) (m n from : ℕ) → part places (m + n) from ≡ part places m from ++ part places n (from + m)
  part_of_both places zero n from =
      let count : 0 + n ≡ n = omega arith in
      let start : from + 0 ≡ from = omega arith in
      rw (count, start)
  part_of_both places (suc m) n from =
      let count : suc m + n ≡ suc (m + n) = omega arith in
      let start : from + suc m ≡ suc from + m = omega arith in
      rw (count, start) (ap (λ (rest : List A). at_place none places from ∷ rest) (part_of_both places m n (suc from)))

  sum_next : (x : A) (xs : List A) → sum (x ∷ xs) ≡ both x (sum xs)
  sum_next x xs = is.of_both (x ∷ []) xs ∙ ap (λ y. both y (sum xs)) (is.of_one x)

  -- an empty place before others adds nothing
  none_before : (x : A) → both none x ≡ x
  none_before x =
      (λ i. both (sym is.of_none i) (sym (is.of_one x) i))
      ∙ sym (is.of_both [] (x ∷ []))
      ∙ is.of_one x

  none_past : (places : List A) (n from : ℕ) → length places ≤ from → sum (part places n from) ≡ none
  none_past places zero from h = is.of_none
  none_past places (suc n) from h =
      sum_next (at_place none places from) (part places n (suc from))
      ∙ ap (λ x. both x (sum (part places n (suc from)))) (get_or_past places from none h)
      ∙ none_before (sum (part places n (suc from)))
      ∙ none_past places n (suc from) (omega arith)

  -- past the last place nothing is added
  sum_of_part : (places : List A) (n from : ℕ) → length places ≤ from + n → sum (part places n from) ≡ sum (drop from places)
  sum_of_part places zero from h =
      let start : length places ≤ from = omega arith in
      sym (ap sum (drop_of_length-le places start))
  sum_of_part places (suc n) from h = by_case (sum_of_part places n (suc from) (omega arith)) (cases_lt from (length places))
    where
      by_case : sum (part places n (suc from)) ≡ sum (drop (suc from) places) → (from < length places) ⊎ (length places ≤ from) → sum (part places (suc n) from) ≡ sum (drop from places)
      by_case rest (inl below) =
          sum_next (at_place none places from) (part places n (suc from))
          ∙ ap (both (at_place none places from)) rest
          ∙ sym (sum_next (at_place none places from) (drop (suc from) places))
          ∙ sym (ap sum (drop-cons places from none below))
      by_case rest (inr beyond) =
          none_past places (suc n) from beyond
          ∙ sym is.of_none
          ∙ sym (ap sum (drop_of_length-le places beyond))

  -- a place has what comes of those below it, whose number doubles with each level
  comes_to : (places : List A) (half : ℕ) → ((i : ℕ) → 0 < i → i < half → IsDecided none both places i) → (height place : ℕ) → 0 < place → (place + 1) * 2 ^ height ≤ half + half → at_place none places place ≡ sum (part places (2 ^ height) (place * 2 ^ height))
  comes_to places half decided zero place above fits =
      let start : place * 2 ^ 0 ≡ place = omega arith in
      sym (ap (λ (from : ℕ). sum (part places 1 from)) start ∙ is.of_one (at_place none places place))
  comes_to places half decided (suc height) place above fits =
      let w : ℕ = 2 ^ height in
      let twice : 2 ^ suc height ≡ w + w = omega (arith, pow-suc 2 height) in
      let one : 1 ≤ w = one-le-pow height 2 (omega arith) in
      let fits2 : (place + 1) * (w + w) ≤ half + half = subst (λ (n : ℕ). (place + 1) * n ≤ half + half) twice fits in
      let below : place < half = omega (arith, mul-le-mul_left (place + 1) one) in
      let start : place * 2 ^ suc height ≡ (place + place) * w = omega (arith, ap (λ (n : ℕ). place * n) twice) in
      let next : (place + place) * w + w ≡ (place + place + 1) * w = omega arith in
      let first : at_place none places (place + place) ≡ sum (part places w ((place + place) * w)) = comes_to places half decided height (place + place) (omega arith) (omega arith) in
      let second : at_place none places (place + place + 1) ≡ sum (part places w ((place + place + 1) * w)) = comes_to places half decided height (place + place + 1) (omega arith) (omega arith) in
      decided place above below
      ∙ (λ i. both (first i) (second i))
      ∙ ap (λ (from : ℕ). both (sum (part places w ((place + place) * w))) (sum (part places w from))) (sym next)
      ∙ sym (is.of_both (part places w ((place + place) * w)) (part places w ((place + place) * w + w)))
      ∙ ap sum (sym (part_of_both places w w ((place + place) * w)))
      ∙ (λ i. sum (part places (sym twice i) (sym start i)))

  -- the first place has what comes of all from `half` on
  pub top_sums : (places : List A) (half height : ℕ) → half ≡ 2 ^ height → length places ≤ half + half → ((i : ℕ) → 0 < i → i < half → IsDecided none both places i) → at_place none places 1 ≡ sum (drop half places)
  top_sums places half height half_is enough decided =
      let start : 1 * 2 ^ height ≡ half = omega arith in
      let number : 2 ^ height ≡ half = sym half_is in
      let fits : (1 + 1) * 2 ^ height ≤ half + half = omega arith in
      comes_to places half decided height 1 (omega arith) fits
      ∙ (λ i. sum (part places (number i) (start i)))
      ∙ sum_of_part places half half enough
