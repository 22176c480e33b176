-- Rows of elements: the interval that they have for one, and a row put in the place of another of the same element.
use Rattle.std.proofs.Common.{◌≡◌, refl, sym, ◌∙◌, ap, ℕ, suc, zero, ◌<◌, List, [], ◌∷◌, length, Option, Some, None, Bool, true, false, get_or, set, arith}
use Rattle.std.specs.Prelude.{cond, not, ◌+◌, ◌==◌, map, find, option_and_then, nat_lt, IfSome}
use Rattle.std.specs.List.{position, position_or_len}
use Rattle.std.proofs.lemmas.Bool.{eqb-true, eq-eqb, ltb-false}
use Rattle.std.proofs.lemmas.List.{length-map}
use Rattle.std.proofs.lemmas.List.Folds.{find_at}
use Rattle.std.proofs.lemmas.List.Quantifiers.{position-Some}
use Rattle.std.proofs.lemmas.Option.{slice_get_past}
use Rattle.smil_laws.specs.Near.{IsIntervalNear}
use Rattle.smil_rounds.specs.declared.current_rows.CurrentRow.{CurrentRow}
use Rattle.smil_rounds.specs.Current.{interval_in}
use Rattle.smil_rounds.specs.Rows.{AreNear, ArePlaces}

-- ---- the first row of an element

abbrev pub IsFirst : ℕ → List CurrentRow → ℕ → Type 0
IsFirst who [] k = ⊥
IsFirst who (x ∷ xs) zero = x.serial == who ≡ true
IsFirst who (x ∷ xs) (suc k) = (x.serial == who ≡ false) × IsFirst who xs k

abbrev is_of : ℕ → CurrentRow → Bool
is_of s row = row.serial == s

first_by : (who : ℕ) (xs : List CurrentRow) (k : ℕ) (d : CurrentRow) → k < length xs → is_of who (get_or xs k d) ≡ true → ((j : ℕ) → j < k → is_of who (get_or xs j d) ≡ false) → IsFirst who xs k
first_by who [] k d lt here before = omega (arith, lt)
first_by who (x ∷ xs) zero d lt here before = here
first_by who (x ∷ xs) (suc k) d lt here before = (before 0 (omega arith), first_by who xs k d (omega (arith, lt)) here (λ j less. before (suc j) (omega (arith, less))))

pub first_of_position : (who : ℕ) (xs : List CurrentRow) (k : ℕ) (d : CurrentRow) → position (λ (r : CurrentRow). r.serial == who) xs ≡ Some k → IsFirst who xs k
first_of_position who xs k d q = let at = position-Some (λ (r : CurrentRow). r.serial == who) xs k d q in first_by who xs k d at.0 at.1 at.2

pub cons_interval : (s : ℕ) (x : CurrentRow) (xs : List CurrentRow) → interval_in (x ∷ xs) s ≡ cond (x.serial == s) x.interval (interval_in xs s)
cons_interval s x xs = by_test (x.serial == s)
  where
    by_test : (t : Bool) → option_and_then (λ (r : CurrentRow). r.interval) (cond t (Some x) (find (λ (r : CurrentRow). r.serial == s) xs)) ≡ cond t x.interval (interval_in xs s)
    by_test true = refl
    by_test false = refl

pub interval_first : (who : ℕ) (xs : List CurrentRow) (k : ℕ) (d : CurrentRow) → IsFirst who xs k → interval_in xs who ≡ (get_or xs k d).interval
interval_first who [] k d is = elim is [ ]
interval_first who (x ∷ xs) zero d is = cons_interval who x xs ∙ ap (λ t. cond t x.interval (interval_in xs who)) is
interval_first who (x ∷ xs) (suc k) d is =
    cons_interval who x xs ∙ ap (λ t. cond t x.interval (interval_in xs who)) is.0 ∙ interval_first who xs k d is.1

pub interval_none : (who : ℕ) (xs : List CurrentRow) → position (λ (r : CurrentRow). r.serial == who) xs ≡ None → interval_in xs who ≡ None
interval_none who xs q = by_test (nat_lt (position_or_len (λ (r : CurrentRow). r.serial == who) xs) (length xs)) refl q
  where
    by_test : (t : Bool) → nat_lt (position_or_len (λ (r : CurrentRow). r.serial == who) xs) (length xs) ≡ t → cond t (Some (position_or_len (λ (r : CurrentRow). r.serial == who) xs)) None ≡ None → interval_in xs who ≡ None
    by_test true e r = cc
    by_test false e r =
        ap (option_and_then (λ (r : CurrentRow). r.interval))
        (find_at (λ (r : CurrentRow). r.serial == who) xs ∙ slice_get_past xs _ (ltb-false (position_or_len (λ (r : CurrentRow). r.serial == who) xs) (length xs) e))

-- ---- a row put in the place of one

pub set_serials : (row : CurrentRow) (xs : List CurrentRow) (k : ℕ) → IsFirst row.serial xs k → map (λ (r : CurrentRow). r.serial) (set xs k row) ≡ map (λ (r : CurrentRow). r.serial) xs
set_serials row [] k is = cc
set_serials row (x ∷ xs) zero is = ap (λ n. n ∷ map (λ (r : CurrentRow). r.serial) xs) (sym (eqb-true x.serial row.serial is))
set_serials row (x ∷ xs) (suc k) is = ap (λ ns. x.serial ∷ ns) (set_serials row xs k is.1)

-- the intervals of other elements stay
pub set_others : (row : CurrentRow) (xs : List CurrentRow) (k s : ℕ) → IsFirst row.serial xs k → row.serial == s ≡ false → interval_in (set xs k row) s ≡ interval_in xs s
set_others row [] k s is other = elim is [ ]
set_others row (x ∷ xs) zero s is other =
    cons_interval s row xs ∙ ap (λ t. cond t row.interval (interval_in xs s)) other
    ∙ sym (cons_interval s x xs ∙ ap (λ t. cond t x.interval (interval_in xs s)) (ap (λ n. n == s) (eqb-true x.serial row.serial is) ∙ other))
set_others row (x ∷ xs) (suc k) s is other =
    cons_interval s x (set xs k row) ∙ ap (λ o. cond (x.serial == s) x.interval o) (set_others row xs k s is.1 other)
    ∙ sym (cons_interval s x xs)

pub set_own : (row : CurrentRow) (xs : List CurrentRow) (k : ℕ) → IsFirst row.serial xs k → interval_in (set xs k row) row.serial ≡ row.interval
set_own row [] k is = elim is [ ]
set_own row (x ∷ xs) zero is =
    cons_interval row.serial row xs ∙ ap (λ t. cond t row.interval (interval_in xs row.serial)) (eq-eqb row.serial row.serial refl)
set_own row (x ∷ xs) (suc k) is =
    cons_interval row.serial x (set xs k row) ∙ ap (λ t. cond t x.interval (interval_in (set xs k row) row.serial)) is.0
    ∙ set_own row xs k is.1

-- ---- numbers

pub near_set : (row : CurrentRow) (xs : List CurrentRow) (k : ℕ) → IfSome row.interval IsIntervalNear → AreNear xs → AreNear (set xs k row)
near_set row [] k near are = tt
near_set row (x ∷ xs) zero near are = (near, are.1)
near_set row (x ∷ xs) (suc k) near are = (are.0, near_set row xs k near are.1)

-- ---- places by serials

place_serial : (s : ℕ) (xs : List CurrentRow) → position_or_len (λ (r : CurrentRow). r.serial == s) xs ≡ position_or_len (λ n. n == s) (map (λ (r : CurrentRow). r.serial) xs)
place_serial s [] = refl
place_serial s (x ∷ xs) = ap (λ k. cond (not (x.serial == s)) (1 + k) 0) (place_serial s xs)

pub places_same : (found : ℕ → Option ℕ) (old new : List CurrentRow) → map (λ (r : CurrentRow). r.serial) new ≡ map (λ (r : CurrentRow). r.serial) old → ArePlaces found old → ArePlaces found new
places_same found old new same are = λ s.
    are s ∙ by_serial s old ∙ sym (ap (λ ks. placed s ks) same) ∙ sym (by_serial s new)
  where
    placed : ℕ → List ℕ → Option ℕ
    placed s ks = cond (nat_lt (position_or_len (λ n. n == s) ks) (length ks)) (Some (position_or_len (λ n. n == s) ks)) None

    by_serial : (s : ℕ) (rows : List CurrentRow) → position (λ (r : CurrentRow). r.serial == s) rows ≡ placed s (map (λ (r : CurrentRow). r.serial) rows)
    by_serial s rows =
        ap (λ k. cond (nat_lt k (length rows)) (Some k) None) (place_serial s rows)
        ∙ ap (λ l. cond (nat_lt (position_or_len (λ n. n == s) (map (λ (r : CurrentRow). r.serial) rows)) l) (Some (position_or_len (λ n. n == s) (map (λ (r : CurrentRow). r.serial) rows))) None) (sym (length-map rows (λ (r : CurrentRow). r.serial)))
