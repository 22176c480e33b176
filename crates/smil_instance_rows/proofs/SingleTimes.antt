-- Items of which one has a single instance time.
use Rattle.std.proofs.Common.{◌≡◌, refl, sym, ◌∙◌, ap, subst, ℕ, suc, zero, ◌+◌, ◌<◌, ◌≤◌, List, [], ◌∷◌, ◌++◌, length, map, Bool, true, Option, Some, arith}
use Rattle.std.specs.Prelude.{cond, get_or, set, flat_map, replicate, nat_lt}
use Rattle.std.specs.List.{cons_option}
use Rattle.std.proofs.lemmas.List.{length-replicate, length-set, get_or-set_same}
use Rattle.smil_model.specs.declared.times.Time.{Time}
use Rattle.smil_model.specs.Rising.{poured}
use Rattle.smil_instance_rows.specs.declared.item_times.InstanceTime.{InstanceTime}
use Rattle.smil_instance_rows.specs.Rows.{before_place, from_place, instance_at}
use Rattle.smil_instance_rows.specs.declared.side.Kept.{Kept}
use Rattle.smil_instance_rows.specs.declared.side.Kept.TheVariants.{Nothing, Single}
use Rattle.smil_instance_rows.specs.declared.side.SingleTime.{SingleTime}
use Rattle.smil_instance_rows.specs.Sides.{IsWithin, lists_of, single_in}
use Rattle.smil_instance_rows.specs.Values.{values_of, merged}
use Rattle.smil_instance_rows.proofs.IdleItems.{before_none, no_values, none_kept}
use Rattle.smil_instance_rows.proofs.TimesByPlace.{before_push, cut_first}

pub long_single : (n i : ℕ) (k : InstanceTime) → length (single_in n i k) ≡ n
long_single n i k = length-set (replicate n []) i (k ∷ []) ∙ length-replicate n []

-- what is kept for each item
pub own_single : (n i : ℕ) (k : InstanceTime) → i < n → get_or (single_in n i k) i [] ≡ k ∷ []
own_single n i k inside = get_or-set_same (replicate n []) i (k ∷ []) [] (omega (arith, inside, length-replicate {A = List InstanceTime} n []))

-- it is taken out
pub none_left : (n i : ℕ) (k : InstanceTime) → set (single_in n i k) i [] ≡ replicate n []
none_left zero i k = refl
none_left (suc n) zero k = refl
none_left (suc n) (suc i) k = ap (λ xs. [] ∷ xs) (none_left n i k)

no_end : {X : Type 0} (first : List X) (last : X) → [] ≡ first ++ last ∷ [] → ⊥
no_end [] last q = cc
no_end (x ∷ xs) last q = cc

alone : {X : Type 0} (k : X) (first : List X) (last : X) → k ∷ [] ≡ first ++ last ∷ [] → first ≡ []
alone k [] last q = refl
alone k (x ∷ xs) last q = let rest : [] ≡ xs ++ last ∷ [] = cc in absurd (no_end xs last rest)

-- its own item is the one that has an instance time
pub undone : (n i item : ℕ) (k : InstanceTime) (first : List InstanceTime) (last : InstanceTime) → i < n → get_or (single_in n i k) item [] ≡ first ++ last ∷ [] → replicate n [] ≡ set (single_in n i k) item first
undone zero i item k first last inside q = absurd (omega (arith, inside))
undone (suc n) zero zero k first last inside q = ap (λ l. l ∷ replicate n []) (sym (alone k first last q))
undone (suc n) zero (suc j) k first last inside q = absurd (no_end first last (sym (none_kept n j) ∙ q))
undone (suc n) (suc i) zero k first last inside q = absurd (no_end first last q)
undone (suc n) (suc i) (suc j) k first last inside q = ap (λ xs. [] ∷ xs) (undone n i j k first last (omega (arith, inside)) q)

-- one more item
pub more_idle : (n : ℕ) → replicate {A = List InstanceTime} (suc n) [] ≡ replicate n [] ++ [] ∷ []
more_idle zero = refl
more_idle (suc n) = ap (λ xs. [] ∷ xs) (more_idle n)

pub more_single : (n i : ℕ) (k : InstanceTime) → i < n → single_in (suc n) i k ≡ single_in n i k ++ [] ∷ []
more_single zero i k inside = absurd (omega (arith, inside))
more_single (suc n) zero k inside = ap (λ xs. (k ∷ []) ∷ xs) (more_idle n)
more_single (suc n) (suc i) k inside = ap (λ xs. [] ∷ xs) (more_single n i k (omega (arith, inside)))

-- what is of a place or a later one is taken out
pub before_single : (place n i : ℕ) (k : InstanceTime) (kept : List InstanceTime) → before_place place (k ∷ []) ≡ kept → map (before_place place) (single_in n i k) ≡ set (replicate n []) i kept
before_single place zero i k kept is = refl
before_single place (suc n) zero k kept is = ap (λ l. l ∷ map (before_place place) (replicate n [])) is ∙ ap (λ xs. kept ∷ xs) (before_none place n)
before_single place (suc n) (suc i) k kept is = ap (λ xs. [] ∷ xs) (before_single place n i k kept is)

pub set_none : (n i : ℕ) → set {A = List InstanceTime} (replicate n []) i [] ≡ replicate n []
set_none zero i = refl
set_none (suc n) zero = refl
set_none (suc n) (suc i) = ap (λ xs. [] ∷ xs) (set_none n i)

-- ---- values

pub merged_none : {A : Type 0} (le : A → A → Bool) (choose : Time → Option A) (n : ℕ) → merged le choose (replicate n []) ≡ []
merged_none le choose n = ap (λ xs. poured le xs []) (no_values choose n)

single_value : {A : Type 0} (choose : Time → Option A) (n i : ℕ) (k : InstanceTime) (v : A) → i < n → choose k.time ≡ Some v → flat_map (values_of choose) (single_in n i k) ≡ v ∷ []
single_value choose zero i k v inside is = absurd (omega (arith, inside))
single_value choose (suc n) zero k v inside is = ap (λ o. cons_option o [] ++ flat_map (values_of choose) (replicate n [])) is ∙ ap (λ xs. v ∷ xs) (no_values choose n)
single_value choose (suc n) (suc i) k v inside is = single_value choose n i k v (omega (arith, inside)) is

pub merged_single : {A : Type 0} (le : A → A → Bool) (choose : Time → Option A) (n i : ℕ) (k : InstanceTime) (v : A) → i < n → choose k.time ≡ Some v → merged le choose (single_in n i k) ≡ v ∷ []
merged_single le choose n i k v inside is = ap (λ xs. poured le xs []) (single_value choose n i k v inside is)

-- ---- a side

module _ {A : Type 0} (given : A → Time) (kept : Kept A) (all : List (List InstanceTime)) (view : lists_of given kept ≡ all) where
  pub nothing_seen : (n : ℕ) → kept ≡ Nothing n → replicate n [] ≡ all
  nothing_seen n is = sym (ap (lists_of given) is) ∙ view

  pub single_seen : (s : SingleTime A) → kept ≡ Single s → single_in s.items s.item (instance_at s.place (given s.value)) ≡ all
  single_seen s is = sym (ap (lists_of given) is) ∙ view

  pub nothing_merged : (le : A → A → Bool) (choose : Time → Option A) (n : ℕ) → kept ≡ Nothing n → merged le choose all ≡ []
  nothing_merged le choose n is = sym (ap (merged le choose) (nothing_seen n is)) ∙ merged_none le choose n

  pub single_merged : (le : A → A → Bool) (choose : Time → Option A) (s : SingleTime A) → kept ≡ Single s → IsWithin kept → choose (given s.value) ≡ Some s.value → merged le choose all ≡ s.value ∷ []
  single_merged le choose s is within chosen =
      sym (ap (merged le choose) (single_seen s is))
      ∙ merged_single le choose s.items s.item (instance_at s.place (given s.value)) s.value (subst IsWithin is within) chosen

  -- ---- as items are changed

  pub nothing_more : (n : ℕ) → kept ≡ Nothing n → replicate (suc n) [] ≡ all ++ [] ∷ []
  nothing_more n is = more_idle n ∙ ap (λ xs. xs ++ [] ∷ []) (nothing_seen n is)

  pub single_more : (s : SingleTime A) → kept ≡ Single s → IsWithin kept → single_in (suc s.items) s.item (instance_at s.place (given s.value)) ≡ all ++ [] ∷ []
  single_more s is within =
      more_single s.items s.item (instance_at s.place (given s.value)) (subst IsWithin is within)
      ∙ ap (λ xs. xs ++ [] ∷ []) (single_seen s is)

  pub nothing_add : (n item : ℕ) (k : InstanceTime) → kept ≡ Nothing n → single_in n item k ≡ set all item (get_or all item [] ++ k ∷ [])
  nothing_add n item k is =
      ap (λ l. set (replicate n []) item (l ++ k ∷ [])) (sym (none_kept n item))
      ∙ ap (λ xs. set xs item (get_or xs item [] ++ k ∷ [])) (nothing_seen n is)

  pub single_cut : (s : SingleTime A) (place item : ℕ) → kept ≡ Single s → IsWithin kept → s.item ≡ item → s.place < place → replicate s.items [] ≡ set all item (from_place place (get_or all item []))
  single_cut s place item is within same early =
      let k = instance_at s.place (given s.value) in
      sym (none_left s.items s.item k)
      ∙ ap (set (single_in s.items s.item k) s.item) (sym (cut_first place k [] early) ∙ ap (from_place place) (sym (own_single s.items s.item k (subst IsWithin is within))))
      ∙ ap (λ i. set (single_in s.items s.item k) i (from_place place (get_or (single_in s.items s.item k) i []))) same
      ∙ ap (λ xs. set xs item (from_place place (get_or xs item []))) (single_seen s is)

  pub nothing_before : (n place : ℕ) → kept ≡ Nothing n → all ≡ map (before_place place) all
  nothing_before n place is =
      sym (nothing_seen n is) ∙ sym (before_none place n) ∙ ap (map (before_place place)) (nothing_seen n is)

  pub single_late : (s : SingleTime A) (place : ℕ) → kept ≡ Single s → place ≤ s.place → replicate s.items [] ≡ map (before_place place) all
  single_late s place is late =
      let k = instance_at s.place (given s.value) in
      sym (before_single place s.items s.item k [] (before_push place [] k late) ∙ set_none s.items s.item)
      ∙ ap (map (before_place place)) (single_seen s is)

  pub single_early : (s : SingleTime A) (place : ℕ) → kept ≡ Single s → s.place < place → single_in s.items s.item (instance_at s.place (given s.value)) ≡ map (before_place place) all
  single_early s place is early =
      let k = instance_at s.place (given s.value) in
      let yes : nat_lt s.place place ≡ true = grind (arith, early) in
      sym (before_single place s.items s.item k (k ∷ []) (ap (λ t. cond t (k ∷ []) []) yes))
      ∙ ap (map (before_place place)) (single_seen s is)

  pub single_undone : (s : SingleTime A) (item : ℕ) (first : List InstanceTime) (last : InstanceTime) → kept ≡ Single s → IsWithin kept → get_or all item [] ≡ first ++ last ∷ [] → replicate s.items [] ≡ set all item first
  single_undone s item first last is within ends =
      let k = instance_at s.place (given s.value) in
      undone s.items s.item item k first last (subst IsWithin is within) (ap (λ xs. get_or xs item []) (single_seen s is) ∙ ends)
      ∙ ap (λ xs. set xs item first) (single_seen s is)
