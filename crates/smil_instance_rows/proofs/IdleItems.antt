-- Items for which nothing is kept, behind those that have lists.
use Rattle.std.proofs.Common.{◌≡◌, refl, sym, ◌∙◌, ap, ℕ, suc, zero, ◌<◌, ◌≤◌, List, [], ◌∷◌, ◌++◌, ◌+◌, length, map, take, drop, Bool, Option, arith}
use Rattle.std.specs.Prelude.{get_or, set, flat_map, replicate}
use Rattle.std.proofs.lemmas.List.{length-replicate}
use Rattle.smil_model.specs.declared.times.Time.{Time}
use Rattle.smil_model.specs.Rising.{poured}
use Rattle.smil_model.proofs.RisingLists.{default_free}
use Rattle.smil_instance_rows.specs.declared.item_times.InstanceTime.{InstanceTime}
use Rattle.smil_instance_rows.specs.Rows.{before_place}
use Rattle.smil_instance_rows.specs.Values.{values_of, merged, with_idle}

pub long_idle : (n : ℕ) (ls : List (List InstanceTime)) → length (with_idle n ls) ≡ length ls + n
long_idle n [] = omega (arith, length-replicate {A = List InstanceTime} n [])
long_idle n (l ∷ ls) = omega (arith, long_idle n ls)

pub none_kept : (n i : ℕ) → get_or {A = List InstanceTime} (replicate n []) i [] ≡ []
none_kept zero i = refl
none_kept (suc n) zero = refl
none_kept (suc n) (suc i) = none_kept n i

-- what is kept for an item
pub get_idle : (n i : ℕ) (ls : List (List InstanceTime)) → get_or (with_idle n ls) i [] ≡ get_or ls i []
get_idle n i [] = none_kept n i
get_idle n zero (l ∷ ls) = refl
get_idle n (suc i) (l ∷ ls) = get_idle n i ls

pub set_idle : (n i : ℕ) (ls : List (List InstanceTime)) (l : List InstanceTime) → i < length ls → set (with_idle n ls) i l ≡ with_idle n (set ls i l)
set_idle n i [] l inside = absurd (omega (arith, inside))
set_idle n zero (m ∷ ls) l inside = refl
set_idle n (suc i) (m ∷ ls) l inside = ap (λ xs. m ∷ xs) (set_idle n i ls l (omega (arith, inside)))

-- one item's list changed
pub changed_item : (change : List InstanceTime → List InstanceTime) (n i : ℕ) (ls all : List (List InstanceTime)) (own new : List InstanceTime) → i < length ls → own ≡ get_or ls i own → with_idle n ls ≡ all → new ≡ change own → with_idle n (set ls i new) ≡ set all i (change (get_or all i []))
changed_item change n i ls all own new inside is view so =
    sym (set_idle n i ls new inside)
    ∙ ap (set (with_idle n ls) i) (so ∙ ap change (is ∙ default_free ls i own [] inside ∙ sym (get_idle n i ls)))
    ∙ ap (λ xs. set xs i (change (get_or xs i []))) view

pub no_values : {A : Type 0} (choose : Time → Option A) (n : ℕ) → flat_map (values_of choose) (replicate n []) ≡ []
no_values choose zero = refl
no_values choose (suc n) = no_values choose n

same_values : {A : Type 0} (choose : Time → Option A) (n : ℕ) (ls : List (List InstanceTime)) → flat_map (values_of choose) (with_idle n ls) ≡ flat_map (values_of choose) ls
same_values choose n [] = no_values choose n
same_values choose n (l ∷ ls) = ap (λ xs. values_of choose l ++ xs) (same_values choose n ls)

pub merged_idle : {A : Type 0} (le : A → A → Bool) (choose : Time → Option A) (n : ℕ) (ls : List (List InstanceTime)) → merged le choose (with_idle n ls) ≡ merged le choose ls
merged_idle le choose n ls = ap (λ xs. poured le xs []) (same_values choose n ls)

pub same_merged : {A : Type 0} (le : A → A → Bool) (choose : Time → Option A) (n m : ℕ) (ls ms : List (List InstanceTime)) → with_idle n ls ≡ with_idle m ms → merged le choose ls ≡ merged le choose ms
same_merged le choose n m ls ms same = sym (merged_idle le choose n ls) ∙ ap (merged le choose) same ∙ merged_idle le choose m ms

pub before_none : (place n : ℕ) → map (before_place place) (replicate n []) ≡ replicate n []
before_none place zero = refl
before_none place (suc n) = ap (λ xs. [] ∷ xs) (before_none place n)

idle_rest : (place k n : ℕ) → map (before_place place) (take k (replicate n [])) ++ drop k (replicate n []) ≡ map (before_place place) (replicate n [])
idle_rest place zero n = sym (before_none place n)
idle_rest place (suc k) zero = refl
idle_rest place (suc k) (suc n) = ap (λ xs. [] ∷ xs) (idle_rest place k n)

-- what is left behind the lists needs no cut
pub before_rest : (place k n : ℕ) (ls : List (List InstanceTime)) → length ls ≤ k → map (before_place place) (take k (with_idle n ls)) ++ drop k (with_idle n ls) ≡ map (before_place place) (with_idle n ls)
before_rest place k n [] past = idle_rest place k n
before_rest place zero n (l ∷ ls) past = absurd (omega (arith, past))
before_rest place (suc k) n (l ∷ ls) past = ap (λ xs. before_place place l ∷ xs) (before_rest place k n ls (omega (arith, past)))

-- one more list, for an item that had none
pub laid_out : (n m : ℕ) (ls : List (List InstanceTime)) → n ≡ suc m → with_idle m (ls ++ [] ∷ []) ≡ with_idle n ls
laid_out n m [] is = ap (λ k. replicate k []) (sym is)
laid_out n m (l ∷ ls) is = ap (λ xs. l ∷ xs) (laid_out n m ls is)
