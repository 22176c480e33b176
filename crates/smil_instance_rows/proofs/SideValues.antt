-- The merged values of a begin list are its rising numbers, and those of an end list its rising times.
use Rattle.std.proofs.Common.{◌≡◌, refl, sym, ◌∙◌, ap, List, [], ◌∷◌, ◌++◌, Option, Some, None, ℤ, Bool, true, false}
use Rattle.std.specs.Prelude.{cond, flat_map, find, map, int_le}
use Rattle.std.specs.List.{cons_option}
use Rattle.std.specs.Option.{option_map, option_map_or, unwrap_or}
use Rattle.smil_model.specs.declared.times.Time.{Time}
use Rattle.smil_model.specs.declared.times.Time.TheVariants.{At, Indefinite, Unresolved}
use Rattle.smil_model.specs.Times.{numbers, rising, rising_times, time_le}
use Rattle.smil_model.specs.interval.Instances.{number_of}
use Rattle.smil_instance_rows.specs.declared.item_times.InstanceTime.{InstanceTime}
use Rattle.smil_instance_rows.specs.Values.{times_of, begins_of, ends_of, values_of, merged}

pub flat_map_same : {X A : Type 0} (f g : X → List A) → ((x : X) → f x ≡ g x) → (xs : List X) → flat_map f xs ≡ flat_map g xs
flat_map_same f g same [] = refl
flat_map_same f g same (x ∷ xs) = ap (λ ys. ys ++ flat_map f xs) (same x) ∙ ap (λ ys. g x ++ ys) (flat_map_same f g same xs)

-- ---- numbers

pub numbers_append : (ss ts : List Time) → numbers (ss ++ ts) ≡ numbers ss ++ numbers ts
numbers_append [] ts = refl
numbers_append (At x ∷ ss) ts = ap (λ xs. x ∷ xs) (numbers_append ss ts)
numbers_append (Indefinite ∷ ss) ts = numbers_append ss ts
numbers_append (Unresolved ∷ ss) ts = numbers_append ss ts

pub numbers_of_each : {X : Type 0} (f : X → List Time) (xs : List X) → numbers (flat_map f xs) ≡ flat_map (λ x. numbers (f x)) xs
numbers_of_each f [] = refl
numbers_of_each f (x ∷ xs) = numbers_append (f x) (flat_map f xs) ∙ ap (λ ys. numbers (f x) ++ ys) (numbers_of_each f xs)

pub numbers_of_kept : (ks : List InstanceTime) → numbers (times_of ks) ≡ values_of number_of ks
numbers_of_kept [] = refl
numbers_of_kept (k ∷ ks) = step k.time (numbers_of_kept ks)
  where
    step : (t : Time) → numbers (times_of ks) ≡ values_of number_of ks → numbers (t ∷ times_of ks) ≡ cons_option (number_of t) (values_of number_of ks)
    step (At x) rest = ap (λ xs. x ∷ xs) rest
    step _ rest = rest

pub begins_same : (items : List (List InstanceTime)) → merged int_le number_of items ≡ begins_of items
begins_same items =
    ap rising (sym (numbers_of_each times_of items ∙ flat_map_same (λ ks. numbers (times_of ks)) (values_of number_of) numbers_of_kept items))

-- ---- times

pub times_of_kept : (ks : List InstanceTime) → values_of Some ks ≡ times_of ks
times_of_kept [] = refl
times_of_kept (k ∷ ks) = ap (λ ts. k.time ∷ ts) (times_of_kept ks)

pub ends_same : (items : List (List InstanceTime)) → merged time_le Some items ≡ ends_of items
ends_same items =
    ap rising_times (flat_map_same (values_of Some) times_of times_of_kept items)

-- ---- the first of them

find_mapped : {A B : Type 0} (f : A → B) (p : A → Bool) (q : B → Bool) → ((x : A) → p x ≡ q (f x)) → (xs : List A) → option_map f (find p xs) ≡ find q (map f xs)
find_mapped f p q same [] = refl
find_mapped f p q same (x ∷ xs) = step (p x) (q (f x)) (same x) (find_mapped f p q same xs)
  where
    step : (s t : Bool) → s ≡ t → option_map f (find p xs) ≡ find q (map f xs) → option_map f (cond s (Some x) (find p xs)) ≡ cond t (Some (f x)) (find q (map f xs))
    step true true e rest = refl
    step true false e rest = cc
    step false true e rest = cc
    step false false e rest = rest

at_found : (o : Option ℤ) → option_map_or At o Unresolved ≡ unwrap_or (option_map At o) Unresolved
at_found None = refl
at_found (Some x) = refl

pub begin_found : (p : ℤ → Bool) (q : Time → Bool) → ((x : ℤ) → p x ≡ q (At x)) → (items : List (List InstanceTime)) → option_map_or At (find p (merged int_le number_of items)) Unresolved ≡ unwrap_or (find q (map At (begins_of items))) Unresolved
begin_found p q same items =
    ap (λ xs. option_map_or At (find p xs) Unresolved) (begins_same items)
    ∙ at_found (find p (begins_of items))
    ∙ ap (λ o. unwrap_or o Unresolved) (find_mapped At p q same (begins_of items))

pub end_found : (q : Time → Bool) (items : List (List InstanceTime)) → unwrap_or (find q (merged time_le Some items)) Unresolved ≡ unwrap_or (find q (ends_of items)) Unresolved
end_found q items = ap (λ ts. unwrap_or (find q ts) Unresolved) (ends_same items)
