-- What a clock shows after the last entry, and after one entry more.
use Rattle.std.proofs.Common.{◌≡◌, refl, sym, ◌∙◌, ap, subst, ℕ, suc, zero, ◌+◌, ◌-◌, ◌≤◌, ◌<◌, List, [], ◌∷◌, ◌++◌, ℤ, Bool, true, false, arith, inl, inr}
use Rattle.std.specs.Prelude.{cond, pos, negsuc, int_le, ◌≤ℤ◌, ◌&&◌, ◌⊎◌, fold}
use Rattle.std.specs.List.{AllByRecursion}
use Rattle.std.proofs.lemmas.Bool.{and_parts, and_from, cases_lt}
use Rattle.std.proofs.lemmas.Int.{ints}
use Rattle.std.proofs.lemmas.List.{append-nil}
use Rattle.std.proofs.lemmas.List.Elements.{filter-append}
use Rattle.std.proofs.lemmas.List.Sums.{fold_push}
use Rattle.smil_model.specs.declared.diary.Entry.{Entry}
use Rattle.smil_model.specs.declared.times.TheConstants.{HORIZON}
use Rattle.smil_model.specs.diary.Diary.{History, with_entry, last_moment}
use Rattle.smil_model.specs.diary.Lawful.{is_rising_from, IsLawful}
use Rattle.smil_model.specs.diary.Clocks.{until, stands_by, elapsed, run, stands}
use Rattle.smil_model.proofs.NumberOrders.{le_self, le_both, le_from, is_le}
use Rattle.smil_stretch.specs.declared.clock.Clock.TheVariants.{Runs}
use Rattle.smil_stretch.specs.Clocks.{shown, clock_by, clock_of}
use Rattle.smil_stretch.specs.NodeClocks.{Fits}

-- ---- moments that do not fall

abbrev pub last_from : ℤ → List Entry → ℤ
last_from from ds = fold (λ before (x : Entry). x.moment) from ds

abbrev pub EachUntil : ℤ → List Entry → Type 0
EachUntil m ds = AllByRecursion (λ (x : Entry). int_le x.moment m ≡ true) ds

pub record IsTimed (from : ℤ) (ds : List Entry) : Type 0 where
  pub low : int_le from (last_from from ds) ≡ true
  pub high : int_le (last_from from ds) HORIZON ≡ true
  pub each : EachUntil (last_from from ds) ds

timed : (from : ℤ) (ds : List Entry) → int_le from HORIZON ≡ true → is_rising_from from ds ≡ true → IsTimed from ds
timed from [] near q = record { low = le_self from; high = near; each = tt }
timed from (x ∷ xs) near q =
    let parts = and_parts (int_le from x.moment && int_le x.moment HORIZON) (is_rising_from x.moment xs) q in
    let here = and_parts (int_le from x.moment) (int_le x.moment HORIZON) parts.0 in
    let rest = timed x.moment xs here.1 parts.1 in
    record { low = le_both from x.moment (last_from x.moment xs) here.0 rest.low; high = rest.high; each = (rest.low, rest.each) }

pub timed_of : (h : History) → IsLawful h → IsTimed (pos 0) h.diary
timed_of h lawful = timed (pos 0) h.diary (grind (arith, ints)) lawful.moments

-- one entry more
pub rising_push : (from : ℤ) (ds : List Entry) (y : Entry) → is_rising_from from (ds ++ y ∷ []) ≡ true → (is_rising_from from ds ≡ true) × (int_le (last_from from ds) y.moment ≡ true)
rising_push from [] y q =
    let parts = and_parts (int_le from y.moment && int_le y.moment HORIZON) true q in
    (refl, (and_parts (int_le from y.moment) (int_le y.moment HORIZON) parts.0).0)
rising_push from (x ∷ xs) y q =
    let parts = and_parts (int_le from x.moment && int_le x.moment HORIZON) (is_rising_from x.moment (xs ++ y ∷ [])) q in
    let rest = rising_push x.moment xs y parts.1 in
    (and_from _ _ parts.0 rest.0, rest.1)

-- ---- from the last entry on

until_all : (m : ℤ) (ds : List Entry) → EachUntil m ds → until m ds ≡ ds
until_all m [] each = refl
until_all m (x ∷ xs) each = ap (λ t. cond t (x ∷ until m xs) (until m xs)) each.0 ∙ ap (λ ys. x ∷ ys) (until_all m xs each.1)

each_later : (m n : ℤ) (ds : List Entry) → int_le m n ≡ true → EachUntil m ds → EachUntil n ds
each_later m n [] le each = tt
each_later m n (x ∷ xs) le each = (le_both x.moment m n each.0 le, each_later m n xs le each.1)

module _ (h : History) (s last : ℕ) (each : EachUntil (pos last) h.diary) where
  none : (t : Bool) (e a b : ℕ) → a ≡ b → e ≡ e + cond t 0 (a - b)
  none true e a b q = omega arith
  none false e a b q = omega (arith, q)

  more : (t : Bool) (e k : ℕ) → last ≤ k → (e + cond t 0 (k - last)) + cond t 0 1 ≡ e + cond t 0 (suc k - last)
  more true e k le = omega arith
  more false e k le = omega (arith, le)

  at_last : (k : ℕ) → last ≡ k → elapsed h s k ≡ elapsed h s last + cond (stands h s) 0 (k - last)
  at_last k q = ap (elapsed h s) (sym q) ∙ none (stands h s) (elapsed h s last) k last (sym q)

  le_number : (m : ℕ) → last ≤ m → int_le (pos last) (pos m) ≡ true
  le_number m le = grind (arith, ints)

  elapsed_on : (m : ℕ) → last ≤ m → elapsed h s m ≡ elapsed h s last + cond (stands h s) 0 (m - last)
  elapsed_on zero le = at_last zero (omega (arith, le))
  elapsed_on (suc m) le = by_case (cases_lt last (suc m)) (elapsed_on m)
    where
      by_case : (last < suc m) ⊎ (suc m ≤ last) → (last ≤ m → elapsed h s m ≡ elapsed h s last + cond (stands h s) 0 (m - last)) → elapsed h s (suc m) ≡ elapsed h s last + cond (stands h s) 0 (suc m - last)
      by_case (inl l) rest =
          let before : last ≤ m = omega (arith, l) in
          ap (λ ds. elapsed h s m + cond (stands_by h.nodes ds s) 0 1) (until_all (pos m) h.diary (each_later (pos last) (pos m) h.diary (le_number m before) each))
          ∙ ap (λ n. n + cond (stands h s) 0 1) (rest before)
          ∙ more (stands h s) (elapsed h s last) m before
      by_case (inr g) rest = at_last (suc m) (omega (arith, g, le))

  shown_on : (t : Bool) (e m : ℕ) → last ≤ m → shown (clock_by t (pos e) (pos last)) (pos m) ≡ pos (e + cond t 0 (m - last))
  shown_on true e m le = ap pos (none true e m m refl)
  shown_on false e m le = omega (arith, ints, le)

  run_on : (m : ℕ) → last ≤ m → run h s (pos m) ≡ shown (clock_by (stands h s) (run h s (pos last)) (pos last)) (pos m)
  run_on m le = ap pos (elapsed_on m le) ∙ sym (shown_on (stands h s) (elapsed h s last) m le)

  elapsed_most : (m : ℕ) → elapsed h s m ≤ m
  elapsed_most zero = omega arith
  elapsed_most (suc m) = one (stands_by h.nodes (until (pos m) h.diary) s) (elapsed h s m) (elapsed_most m)
    where
      one : (t : Bool) (e : ℕ) → e ≤ m → e + cond t 0 1 ≤ suc m
      one true e le = omega (arith, le)
      one false e le = omega (arith, le)

number : (m : ℤ) → int_le (pos 0) m ≡ true → (k : ℕ) × (m ≡ pos k)
number (pos k) q = (k, refl)
number (negsuc k) q = cc

-- a clock shows the same as the model's, from the last entry on
pub run_later : (h : History) (s : ℕ) (m : ℤ) → IsLawful h → last_moment h.diary ≤ℤ m → run h s m ≡ shown (clock_of h s) m
run_later h s m lawful le = by_number (number (last_moment h.diary) times.low) (number m (le_both (pos 0) (last_moment h.diary) m times.low (is_le (last_moment h.diary) m le)))
  where
    times : IsTimed (pos 0) h.diary
    times = timed_of h lawful

    by_number : (l : (k : ℕ) × (last_moment h.diary ≡ pos k)) → (n : (k : ℕ) × (m ≡ pos k)) → run h s m ≡ shown (clock_of h s) m
    by_number l n =
        let each : EachUntil (pos l.0) h.diary = subst (λ z. EachUntil z h.diary) l.1 times.each in
        let in_order : l.0 ≤ n.0 = omega (arith, ints, le, l.1, n.1) in
        ap (run h s) n.1 ∙ run_on h s l.0 each n.0 in_order
        ∙ ap (λ z. shown (clock_by (stands h s) (run h s z) z) (pos n.0)) (sym l.1) ∙ ap (shown (clock_of h s)) (sym n.1)

-- the number of a clock is a moment
pub clock_fits : (h : History) (s : ℕ) → IsLawful h → Fits (clock_of h s)
clock_fits h s lawful = by_number (number (last_moment h.diary) times.low)
  where
    times : IsTimed (pos 0) h.diary
    times = timed_of h lawful

    fits : (t : Bool) (e last : ℕ) → e ≤ last → pos last ≤ℤ HORIZON → Fits (clock_by t (pos e) (pos last))
    fits true e last le near = record { low = omega (arith, ints); high = omega (arith, ints, le, near) }
    fits false e last le near = record { low = omega (arith, ints, le); high = omega (arith, ints, le, near) }

    by_number : (l : (k : ℕ) × (last_moment h.diary ≡ pos k)) → Fits (clock_of h s)
    by_number l =
        subst (λ z. Fits (clock_by (stands h s) (run h s z) z)) (sym l.1)
        (fits (stands h s) (elapsed h s l.0) l.0 (elapsed_most h s l.0 (subst (λ z. EachUntil z h.diary) l.1 times.each) l.0)
        (subst (λ z. z ≤ℤ HORIZON) l.1 (le_from (last_moment h.diary) HORIZON times.high)))

-- ---- one entry more

module _ (h : History) (y : Entry) (s : ℕ) where
  pub until_before : (m : ℤ) → int_le y.moment m ≡ false → until m (h.diary ++ y ∷ []) ≡ until m h.diary
  until_before m late =
      filter-append (λ (x : Entry). int_le x.moment m) h.diary (y ∷ [])
      ∙ ap (λ t. until m h.diary ++ cond t (y ∷ []) []) late ∙ append-nil (until m h.diary)

  elapsed_with : (at m : ℕ) → y.moment ≡ pos at → m ≤ at → elapsed (with_entry h y) s m ≡ elapsed h s m
  elapsed_with at zero is le = refl
  elapsed_with at (suc m) is le =
      ap (λ ds. elapsed (with_entry h y) s m + cond (stands_by h.nodes ds s) 0 1) (until_before (pos m) (grind (arith, ints, is, le)))
      ∙ ap (λ n. n + cond (stands_by h.nodes (until (pos m) h.diary) s) 0 1) (elapsed_with at m is (omega (arith, le)))

  pub clock_with : IsLawful h → IsLawful (with_entry h y) → clock_of (with_entry h y) s ≡ clock_by (stands (with_entry h y) s) (shown (clock_of h s) y.moment) y.moment
  clock_with old new = by_number (number y.moment (le_both (pos 0) (last_moment h.diary) y.moment times.low pushed))
    where
      times : IsTimed (pos 0) h.diary
      times = timed_of h old

      pushed : int_le (last_moment h.diary) y.moment ≡ true
      pushed = (rising_push (pos 0) h.diary y new.moments).1

      by_number : (k : ℕ) × (y.moment ≡ pos k) → clock_of (with_entry h y) s ≡ clock_by (stands (with_entry h y) s) (shown (clock_of h s) y.moment) y.moment
      by_number n =
          ap (λ z. clock_by (stands (with_entry h y) s) (run (with_entry h y) s z) z) (fold_push (λ before (x : Entry). x.moment) (pos 0) h.diary y)
          ∙ ap (λ r. clock_by (stands (with_entry h y) s) r y.moment)
          (ap (run (with_entry h y) s) n.1 ∙ ap pos (elapsed_with n.0 n.0 n.1 (omega arith)) ∙ ap (run h s) (sym n.1)
          ∙ run_later h s y.moment old (le_from (last_moment h.diary) y.moment pushed))

-- a clock that goes on as it did
pub clock_same : (t : Bool) (time from m : ℤ) → clock_by t (shown (clock_by t time from) m) m ≡ clock_by t time from
clock_same true time from m = refl
clock_same false time from m = ap Runs (omega (arith, ints))
