-- Logs, whose moments do not fall: the entries from a place on.
use Rattle.std.proofs.Common.{◌≡◌, refl, subst, ◌∙◌, ap, ℕ, suc, zero, ◌<◌, ◌≤◌, ◌+◌, ◌-◌, List, [], ◌∷◌, ◌++◌, Some, Bool, true, ℤ, arith, length, take, drop, get_or}
use Rattle.std.specs.Prelude.{int_le, pos, slice_get}
use Rattle.std.specs.List.{AllByRecursion, list_all}
use Rattle.std.proofs.lemmas.Bool.{and_parts}
use Rattle.std.proofs.lemmas.Int.{ints}
use Rattle.std.proofs.lemmas.List.{get_or-drop, length-drop, take_rest}
use Rattle.std.proofs.lemmas.Option.{slice_get_read}
use Rattle.smil_model.specs.declared.diary.LogEntry.{LogEntry}
use Rattle.smil_model.specs.diary.Logs.{is_log, may_happen, moments_rise}
use Rattle.smil_model.proofs.NumberOrders.{le_both}

-- what is not later than a moment is not later than a later one
pub no_later : (a b : ℕ) (x : ℤ) → a ≤ b → int_le x (pos a) ≡ true → int_le x (pos b) ≡ true
no_later a b x l q = grind (arith, ints)

-- the moments of a log do not fall, and each entry is such as may happen
pub log_parts : (log : List LogEntry) → is_log log ≡ true → (moments_rise (pos 0) log ≡ true) × (list_all (λ (x : LogEntry). may_happen x.what) log ≡ true)
log_parts log q = and_parts (moments_rise (pos 0) log) (list_all (λ (x : LogEntry). may_happen x.what) log) q

-- ---- entries from a place on

-- no entry is before the moment from which they do not fall
pub none_before : (a m : ℤ) (xs : List LogEntry) → int_le a m ≡ true → moments_rise m xs ≡ true → AllByRecursion (λ (x : LogEntry). int_le a x.moment ≡ true) xs
none_before a m [] low q = tt
none_before a m (x ∷ xs) low q =
    let parts = and_parts (int_le m x.moment) (moments_rise x.moment xs) q in
    let here = le_both a m x.moment low parts.0 in
    (here, none_before a x.moment xs here parts.1)

-- the entry at a place, by all that is known of the log from there on
pub record IsAt (now : ℤ) (xs : List LogEntry) (place : ℕ) (x : LogEntry) : Type 0 where
  pub from : int_le now x.moment ≡ true
  pub later : moments_rise x.moment (drop (suc place) xs) ≡ true
  pub front : take (suc place) xs ≡ take place xs ++ x ∷ []

pub at : (now : ℤ) (xs : List LogEntry) (place : ℕ) (x : LogEntry) → moments_rise now (drop place xs) ≡ true → slice_get xs place ≡ Some x → IsAt now xs place x
at now [] place x q is = cc
at now (y ∷ ys) zero x q is =
    let same : y ≡ x = cc in
    let parts = and_parts (int_le now y.moment) (moments_rise y.moment ys) q in
    rw (← same) (record { from = parts.0; later = parts.1; front = refl })
at now (y ∷ ys) (suc place) x q is =
    let rest = at now ys place x q is in
    record { from = rest.from; later = rest.later; front = ap (λ zs. y ∷ zs) rest.front }

pub all_at : (p : LogEntry → Bool) (xs : List LogEntry) (place : ℕ) (x : LogEntry) → list_all p xs ≡ true → slice_get xs place ≡ Some x → p x ≡ true
all_at p [] place x q is = cc
all_at p (y ∷ ys) zero x q is = let same : y ≡ x = cc in rw (← same) (and_parts (p y) (list_all p ys) q).0
all_at p (y ∷ ys) (suc place) x q is = all_at p ys place x (and_parts (p y) (list_all p ys) q).1 is

-- ---- places behind another

-- the entries from a place on, as a slice gives them
abbrev pub behind : {X : Type 0} → List X → ℕ → List X
behind xs start = take (length xs - start) (drop start xs)

-- an entry of those from a place on, as one of all
pub behind_at : {X : Type 0} (xs : List X) (start from i : ℕ) (x : X) → start ≡ from → i < length (behind xs start) → x ≡ get_or (behind xs start) i x → slice_get xs (from + i) ≡ Some x
behind_at {X} xs start from i x same within is =
    let below : i < length (drop start xs) = subst (λ (ys : List X). i < length ys) (take_rest xs start) within in
    let inside : from + i < length xs = omega (arith, same, below, length-drop start xs) in
    slice_get_read xs (length xs) (from + i) x refl inside
    (is ∙ (ap (λ (ys : List X). get_or ys i x) (take_rest xs start) ∙ (get_or-drop start xs i x ∙ ap (λ (n : ℕ). get_or xs (n + i) x) same)))

-- behind the last of them there is none
pub all_behind : {X : Type 0} (xs : List X) (start from i : ℕ) → start ≡ from → length (behind xs start) ≤ i → length xs ≤ from + i
all_behind {X} xs start from i same past =
    let above : length (drop start xs) ≤ i = subst (λ (ys : List X). length ys ≤ i) (take_rest xs start) past in
    omega (arith, same, above, length-drop start xs)
