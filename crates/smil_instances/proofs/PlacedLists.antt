-- Lists with places: what is kept of them from a place on.
use Rattle.std.proofs.Common.{◌≡◌, refl, sym, ◌∙◌, ap, ℕ, suc, zero, ◌≤◌, ◌+◌, List, [], ◌∷◌, ◌++◌, length, Option, Some, None, Bool, true, false, arith}
use Rattle.std.specs.Prelude.{cond, map, filter_map, drop, nat_le, All}
use Rattle.std.specs.List.{cons_option}
use Rattle.std.proofs.lemmas.List.Elements.{filter-append, filter_map-append}
use Rattle.std.proofs.lemmas.List.{append-nil}
use Rattle.smil_instance_rows.specs.declared.item_times.InstanceTime.{InstanceTime}
use Rattle.smil_model.specs.declared.times.Time.{Time}
use Rattle.smil_instance_rows.specs.Rows.{instance_at, at_place, from_place}
use Rattle.smil_instances.specs.SettledTimes.{numbered}
use Rattle.smil_instances.proofs.NextItemTimes.{with_time}

pub numbered-push : {A : Type 0} (k : ℕ) (xs : List A) (y : A) → numbered k (xs ++ y ∷ []) ≡ numbered k xs ++ (k + length xs, y) ∷ []
numbered-push k [] y = ap (λ j. (j, y) ∷ []) (omega arith)
numbered-push k (x ∷ xs) y = ap (λ ps. (k, x) ∷ ps) (numbered-push (suc k) xs y ∙ ap (λ j. numbered (suc k) xs ++ (j, y) ∷ []) (omega arith))

-- the times of the entries, each with its place
abbrev pub placed : {A : Type 0} → (A → Option Time) → ℕ → List A → List InstanceTime
placed {A} f k xs = filter_map (λ (p : ℕ × A). at_place p.0 (f p.1)) (numbered k xs)

pub placed-same : {A : Type 0} (f g : A → Option Time) (k : ℕ) (xs : List A) → All (λ x. f x ≡ g x) xs → placed f k xs ≡ placed g k xs
placed-same f g k [] same = refl
placed-same f g k (x ∷ xs) same =
    ap (λ o. cons_option (at_place k o) (placed f (suc k) xs)) (same 0 x (omega arith))
    ∙ ap (λ ps. cons_option (at_place k (g x)) ps) (placed-same f g (suc k) xs (λ j d below. same (suc j) d (omega (arith, below))))

one_more : (kept : List InstanceTime) (k : ℕ) (o : Option Time) → kept ++ cons_option (at_place k o) [] ≡ with_time k o kept
one_more kept k None = append-nil kept
one_more kept k (Some t) = refl

pub placed-push : {A : Type 0} (f : A → Option Time) (xs : List A) (y : A) → placed f 0 (xs ++ y ∷ []) ≡ with_time (length xs) (f y) (placed f 0 xs)
placed-push {A} f xs y =
    ap (filter_map (λ (p : ℕ × A). at_place p.0 (f p.1))) (numbered-push 0 xs y ∙ ap (λ j. numbered 0 xs ++ (j, y) ∷ []) (omega arith))
    ∙ filter_map-append (λ (p : ℕ × A). at_place p.0 (f p.1)) (numbered 0 xs) ((length xs, y) ∷ [])
    ∙ one_more (placed f 0 xs) (length xs) (f y)

-- ---- from a place on

pub from_twice : (a b : ℕ) (kept : List InstanceTime) → a ≤ b → from_place b (from_place a kept) ≡ from_place b kept
from_twice a b [] up = refl
from_twice a b (p ∷ ps) up = step (nat_le a p.place) refl (from_twice a b ps up)
  where
    step : (t : Bool) → nat_le a p.place ≡ t → from_place b (from_place a ps) ≡ from_place b ps → from_place b (cond t (p ∷ from_place a ps) (from_place a ps)) ≡ from_place b (p ∷ ps)
    step true q rest = ap (λ rs. cond (nat_le b p.place) (p ∷ rs) rs) rest
    step false q rest =
        let below : nat_le b p.place ≡ false = grind (arith, q, up) in
        rest ∙ sym (ap (λ t. cond t (p ∷ from_place b ps) (from_place b ps)) below)

pub from-with_time : (a b : ℕ) (o : Option Time) (k : ℕ) (kept : List InstanceTime) → a ≤ b → from_place b (with_time k o kept) ≡ from_place b (with_time k o (from_place a kept))
from-with_time a b None k kept up = sym (from_twice a b kept up)
from-with_time a b (Some t) k kept up =
    filter-append (λ (p : InstanceTime). nat_le b p.place) kept (instance_at k t ∷ [])
    ∙ ap (λ ps. ps ++ from_place b (instance_at k t ∷ [])) (sym (from_twice a b kept up))
    ∙ sym (filter-append (λ (p : InstanceTime). nat_le b p.place) (from_place a kept) (instance_at k t ∷ []))

-- ---- the times alone

all_later : {A : Type 0} (f : A → Option Time) (j k : ℕ) (xs : List A) → j ≤ k → from_place j (placed f k xs) ≡ placed f k xs
all_later f j k [] up = refl
all_later f j k (x ∷ xs) up = step (f x) (all_later f j (suc k) xs (omega (arith, up)))
  where
    step : (o : Option Time) → from_place j (placed f (suc k) xs) ≡ placed f (suc k) xs → from_place j (cons_option (at_place k o) (placed f (suc k) xs)) ≡ cons_option (at_place k o) (placed f (suc k) xs)
    step None rest = rest
    step (Some t) rest =
        let here : nat_le j k ≡ true = grind (arith, up) in
        ap (λ b. cond b (instance_at k t ∷ from_place j (placed f (suc k) xs)) (from_place j (placed f (suc k) xs))) here ∙ ap (λ ps. instance_at k t ∷ ps) rest

times_placed : {A : Type 0} (f : A → Option Time) (k : ℕ) (xs : List A) → map (λ (p : InstanceTime). p.time) (placed f k xs) ≡ filter_map f xs
times_placed f k [] = refl
times_placed f k (x ∷ xs) = step (f x) (times_placed f (suc k) xs)
  where
    step : (o : Option Time) → map (λ (p : InstanceTime). p.time) (placed f (suc k) xs) ≡ filter_map f xs → map (λ (p : InstanceTime). p.time) (cons_option (at_place k o) (placed f (suc k) xs)) ≡ cons_option o (filter_map f xs)
    step None rest = rest
    step (Some t) rest = ap (λ ts. t ∷ ts) rest

-- the times from a place on are those of the entries from that place on
pub times_from : {A : Type 0} (f : A → Option Time) (n k : ℕ) (xs : List A) → map (λ (p : InstanceTime). p.time) (from_place (k + n) (placed f k xs)) ≡ filter_map f (drop n xs)
times_from f zero k xs = ap (map (λ (p : InstanceTime). p.time)) (all_later f (k + 0) k xs (omega arith)) ∙ times_placed f k xs
times_from f (suc n) k [] = refl
times_from f (suc n) k (x ∷ xs) = step (f x) (times_from f n (suc k) xs)
  where
    same : suc k + n ≡ k + suc n
    same = omega arith

    none : map (λ (p : InstanceTime). p.time) (from_place (suc k + n) (placed f (suc k) xs)) ≡ filter_map f (drop n xs) → map (λ (p : InstanceTime). p.time) (from_place (k + suc n) (placed f (suc k) xs)) ≡ filter_map f (drop n xs)
    none rest = ap (λ j. map (λ (p : InstanceTime). p.time) (from_place j (placed f (suc k) xs))) (sym same) ∙ rest

    step : (o : Option Time) → map (λ (p : InstanceTime). p.time) (from_place (suc k + n) (placed f (suc k) xs)) ≡ filter_map f (drop n xs) → map (λ (p : InstanceTime). p.time) (from_place (k + suc n) (cons_option (at_place k o) (placed f (suc k) xs))) ≡ filter_map f (drop n xs)
    step None rest = none rest
    step (Some t) rest =
        let gone : nat_le (k + suc n) k ≡ false = grind arith in
        ap (λ b. map (λ (p : InstanceTime). p.time) (cond b (instance_at k t ∷ from_place (k + suc n) (placed f (suc k) xs)) (from_place (k + suc n) (placed f (suc k) xs)))) gone
        ∙ none rest

-- no place is beyond the end
pub beyond : {A : Type 0} (f : A → Option Time) (j k : ℕ) (xs : List A) → k + length xs ≤ j → from_place j (placed f k xs) ≡ []
beyond f j k [] up = refl
beyond f j k (x ∷ xs) up = step (f x) (beyond f j (suc k) xs (omega (arith, up)))
  where
    step : (o : Option Time) → from_place j (placed f (suc k) xs) ≡ [] → from_place j (cons_option (at_place k o) (placed f (suc k) xs)) ≡ []
    step None rest = rest
    step (Some t) rest =
        let gone : nat_le j k ≡ false = grind (arith, up) in
        ap (λ b. cond b (instance_at k t ∷ from_place j (placed f (suc k) xs)) (from_place j (placed f (suc k) xs))) gone ∙ rest
