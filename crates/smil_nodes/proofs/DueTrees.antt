-- Trees of slots: which places stay decided where one changes, and what the first one has.
use Rattle.std.proofs.Common.{◌≡◌, ◌≢◌, ◌∙◌, ap, sym, subst, refl, ℕ, zero, suc, ◌+◌, ◌*◌, ◌-◌, ◌/◌, ◌^◌, ◌<◌, ◌≤◌, List, [], ◌∷◌, ◌++◌, length, drop, take, replicate, get_or, get_or-set_other, get_or-set_same, set, arith, ◌⊎◌, inl, inr}
use Rattle.std.specs.Prelude.{Option, None}
use Rattle.std.proofs.Math.Seq.{drop-cons, take-add, take-set-lt}
use Rattle.std.proofs.lemmas.Bool.{cases_eq, cases_lt}
use Rattle.std.proofs.lemmas.List.{drop-append-le, drop-drop, drop-replicate, drop-set-add, drop-set-lt, get_or-take, length-drop, length-replicate, length-take, take-set-le, take_all}
use Rattle.smil_nodes.specs.Slots.{AreFull, IsBesides, IsDueTree, IsLeastBelow, WasLeastBelow, below, earlier_of, least_number, slot_at}
use Rattle.smil_nodes.proofs.LeastNumbers.{least_beside, least_of_both, swapped}

-- ---- the decided

-- what stands below a place stays where another place changes
below_stays : (places : List (Option ℕ)) (place : ℕ) (slot : Option ℕ) (p : ℕ) → IsBesides place p → below (set places place slot) p ≡ below places p
below_stays places place slot p (inl low) = ap (take 8) (drop-set-lt (8 * p + 1) places place slot (omega (arith, low)))
below_stays places place slot p (inr high) =
    let past = place - (8 * p + 1) in
    let is : place ≡ 8 * p + 1 + past = omega (arith, high) in
    let far : 8 ≤ past = omega (arith, high) in
    ap (λ (q : ℕ). take 8 (drop (8 * p + 1) (set places q slot))) is
    ∙ ap (take 8) (drop-set-add (8 * p + 1) places past slot)
    ∙ take-set-le 8 (drop (8 * p + 1) places) past slot far

-- a place stays decided where neither it nor one below it changes
stays : (places : List (Option ℕ)) (place : ℕ) (slot : Option ℕ) (p : ℕ) → p ≢ place → IsBesides place p → IsLeastBelow places p → IsLeastBelow (set places place slot) p
stays places place slot p own besides decided =
    get_or-set_other places place p slot None own
    ∙ decided
    ∙ sym (ap least_number (below_stays places place slot p besides))

-- a change of a slot breaks nothing but the place above it
pub changed_slot : (places : List (Option ℕ)) (above place : ℕ) (slot : Option ℕ) → above ≤ place → ((p : ℕ) → p < above → IsLeastBelow places p) → (p : ℕ) → p < above → IsBesides place p → IsLeastBelow (set places place slot) p
changed_slot places above place slot from decided p within besides =
    stays places place slot p (λ e. absurd (omega (arith, e, from, within))) besides (decided p within)

-- the place that one stands below, and others
pub other_than : (place p : ℕ) → 0 < place → p ≢ (place - 1) / 8 → IsBesides place p
other_than place p some differs = by_order (cases_lt (8 * p) place)
  where
    by_order : (8 * p < place) ⊎ (place ≤ 8 * p) → IsBesides place p
    by_order (inl high) = inr (omega (arith, some, high, differs))
    by_order (inr low) = inl low

-- one more place is decided on the way up
pub decided_more : (places : List (Option ℕ)) (above place up : ℕ) (slot : Option ℕ) → 0 < place → up ≡ (place - 1) / 8 → up < length places → slot ≡ least_number (below places up) → ((p : ℕ) → p < above → IsBesides place p → IsLeastBelow places p) → (p : ℕ) → p < above → IsBesides up p → IsLeastBelow (set places up slot) p
decided_more places above place up slot some up_is known is others p within besides = by_case (cases_eq p up)
  where
    here : IsLeastBelow (set places up slot) up
    here =
        get_or-set_same places up slot None known
        ∙ is
        ∙ sym (ap least_number (below_stays places up slot up (inl (omega arith))))

    by_case : (p ≡ up) ⊎ (p ≢ up) → IsLeastBelow (set places up slot) p
    by_case (inl e) = subst (IsLeastBelow (set places up slot)) (sym e) here
    by_case (inr differs) =
        stays places up slot p differs besides
        (others p within (other_than place p some (λ e. differs (e ∙ sym up_is))))

-- ---- what a place had

drop_none : {A : Type 0} (xs : List A) → drop 0 xs ≡ xs
drop_none [] = refl
drop_none (x ∷ xs) = refl

-- a list with another value at a place
split_set : (xs : List (Option ℕ)) (i : ℕ) (slot : Option ℕ) → i < length xs → set xs i slot ≡ take i xs ++ slot ∷ drop (suc i) xs
split_set [] i slot within = absurd (omega (arith, within))
split_set (x ∷ xs) zero slot within = ap (λ ys. slot ∷ ys) (sym (drop_none xs))
split_set (x ∷ xs) (suc i) slot within = ap (λ ys. x ∷ ys) (split_set xs i slot (omega (arith, within)))

split_at : (xs : List (Option ℕ)) (i : ℕ) → i < length xs → xs ≡ take i xs ++ get_or xs i None ∷ drop (suc i) xs
split_at [] i within = absurd (omega (arith, within))
split_at (x ∷ xs) zero within = ap (λ ys. x ∷ ys) (sym (drop_none xs))
split_at (x ∷ xs) (suc i) within = ap (λ ys. x ∷ ys) (split_at xs i (omega (arith, within)))

-- the place above one that changes had the least number of those below it
pub was_least : (places : List (Option ℕ)) (place up : ℕ) (slot : Option ℕ) → 0 < place → up ≡ (place - 1) / 8 → place < length places → IsLeastBelow places up → WasLeastBelow (set places place slot) up slot
was_least places place up slot some is known decided =
    let off = place - (8 * up + 1) in
    let at : place ≡ 8 * up + 1 + off = omega (arith, some, is) in
    let small : off < 8 = omega (arith, some, is) in
    let rest = drop (8 * up + 1) places in
    let within : off < length (take 8 rest) = omega (arith, length-take 8 rest, length-drop (8 * up + 1) places, at, known, small) in
    let other : up ≢ place = (λ e. absurd (omega (arith, e, some, is))) in
    record {
      before = get_or (below places up) off None;
      front = take off (below places up);
      back = drop (suc off) (below places up);
      now =
          ap (λ (q : ℕ). take 8 (drop (8 * up + 1) (set places q slot))) at
          ∙ ap (take 8) (drop-set-add (8 * up + 1) places off slot)
          ∙ take-set-lt 8 rest off slot small
          ∙ split_set (below places up) off slot within;
      was =
          get_or-set_other places place up slot None other
          ∙ decided
          ∙ ap least_number (split_at (below places up) off within);
    }

-- ---- slots without numbers

none_at : (count p : ℕ) → slot_at (replicate count None) p ≡ None
none_at zero p = refl
none_at (suc count) zero = refl
none_at (suc count) (suc p) = none_at count p

least_of_none : (n count : ℕ) → least_number (take n (replicate count None)) ≡ None
least_of_none zero count = refl
least_of_none (suc n) zero = refl
least_of_none (suc n) (suc count) = least_of_none n count

-- places without numbers are decided
none_decided : (count p : ℕ) → IsLeastBelow (replicate count None) p
none_decided count p =
    none_at count p
    ∙ sym (ap (λ (slots : List (Option ℕ)). least_number (take 8 slots)) (drop-replicate (8 * p + 1) count None) ∙ least_of_none 8 (count - (8 * p + 1)))

-- a tree of so many slots without numbers
pub none_tree : (count : ℕ) → count ≤ 2 ^ 32 → IsDueTree (replicate (8 * (count / 7 + 1) + 1) None) (8 * (count / 7 + 1) + 1 - count)
none_tree count few =
    let places = 8 * (count / 7 + 1) + 1 in
    record {
      few = omega (arith, few);
      full =
          subst (λ (n : ℕ). AreFull n (places - count)) (sym (length-replicate places None))
          (record { groups = count / 7 + 1; full = refl; some = omega arith; above = omega arith; from = omega arith });
      decided = λ p within. none_decided places p;
    }

-- ---- the least of eight

pub least_eight : (slots : List (Option ℕ)) (n : ℕ) → earlier_of (least_number (take 4 (drop n slots))) (least_number (take 4 (drop (n + 4) slots))) ≡ least_number (take 8 (drop n slots))
least_eight slots n =
    ap (λ (rest : List (Option ℕ)). earlier_of (least_number (take 4 (drop n slots))) (least_number (take 4 rest))) (sym (drop-drop 4 n slots))
    ∙ sym (least_of_both (take 4 (drop n slots)) (take 4 (drop 4 (drop n slots))))
    ∙ ap least_number (sym (take-add 4 4 (drop n slots)))

-- ---- the first place

-- the places from one up to the first one not below it or one before it
abbrev reached : List (Option ℕ) → ℕ → List (Option ℕ)
reached places p = drop p (take (8 * p + 1) places)

module _ (places : List (Option ℕ)) (first : ℕ) (tree : IsDueTree places first) where
  -- in place of a place those below it are reached, with the same least number
  step : (p : ℕ) → p < first → least_number (reached places (suc p)) ≡ least_number (reached places p)
  step p within =
      let front = take (8 * p + 1) places in
      let long : suc p ≤ length front = omega (arith, length-take (8 * p + 1) places, tree.full.full, tree.full.some, tree.full.from, within) in
      let same : slot_at front p ≡ slot_at places p = get_or-take (8 * p + 1) places p None (omega arith) in
      let more : take (8 * suc p + 1) places ≡ front ++ below places p =
      let far : 8 * suc p + 1 ≡ 8 * p + 1 + 8 = omega arith in ap (λ (n : ℕ). take n places) far ∙ take-add (8 * p + 1) 8 places in
      ap (λ (ps : List (Option ℕ)). least_number (drop (suc p) ps)) more
      ∙ ap least_number (drop-append-le (suc p) front (below places p) long)
      ∙ least_of_both (drop (suc p) front) (below places p)
      ∙ swapped (least_number (drop (suc p) front)) (least_number (below places p))
      ∙ ap (λ (slot : Option ℕ). earlier_of slot (least_number (drop (suc p) front))) (sym (same ∙ tree.decided p within))
      ∙ sym (least_beside (slot_at front p) (drop (suc p) front))
      ∙ ap least_number (sym (drop-cons front p None (omega (arith, long))))

  least_reached : (p : ℕ) → p ≤ first → least_number (reached places p) ≡ slot_at places 0
  least_reached zero within = ap (λ (ps : List (Option ℕ)). least_number (take 1 ps)) (drop-cons places 0 None (omega (arith, tree.full.full)))
  least_reached (suc p) within = step p within ∙ least_reached p (omega (arith, within))

  -- the first place has the least number of all slots
  pub first_is_least : slot_at places 0 ≡ least_number (drop first places)
  first_is_least =
      sym (least_reached first (omega arith))
      ∙ ap (λ (ps : List (Option ℕ)). least_number (drop first ps)) (take_all (8 * first + 1) places (omega (arith, tree.full.full, tree.full.above)))
