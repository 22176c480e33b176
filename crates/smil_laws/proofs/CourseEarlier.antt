-- What a course comes to, it came to at each earlier moment with the entries up to that moment.
use Rattle.std.proofs.Common.{◌≡◌, refl, sym, ◌∙◌, ap, ℕ, suc, zero, ◌<◌, ◌≤◌, List, [], ◌∷◌, ◌++◌, Option, Some, None, ℤ, Bool, true, false, arith, inl, inr, append_assoc}
use Rattle.std.specs.Prelude.{◌⊎◌, cond, pos, int_le, nat_le}
use Rattle.std.specs.Option.{option_map_or}
use Rattle.std.specs.List.{AllByRecursion}
use Rattle.std.proofs.lemmas.Bool.{leb-true, leb-false}
use Rattle.std.proofs.lemmas.Int.{ints}
use Rattle.std.proofs.lemmas.List.{append-nil}
use Rattle.smil_model.specs.declared.diary.Entry.{Entry}
use Rattle.smil_model.specs.declared.diary.LogEntry.{LogEntry}
use Rattle.smil_model.specs.declared.diary.Step.{Step}
use Rattle.smil_model.specs.document.Document.{Document}
use Rattle.smil_model.specs.diary.Clocks.{until}
use Rattle.smil_model.specs.happening.Groups.{steps_of, at_moment}
use Rattle.smil_model.specs.happening.Resolution.{Course, Progress, outset, history_at, next_step, after_steps, Reaches}
use Rattle.smil_laws.specs.Agreement.{course_on}
use Rattle.smil_laws.proofs.ResolutionsAgree.{next_extends}
use Rattle.smil_laws.proofs.AsideDocuments.{each_append}
use Rattle.smil_laws.proofs.CourseCut.{steps_on}
use Rattle.smil_laws.proofs.CourseFurther.{NoLater, le_same, next_past, all_until}
use Rattle.smil_laws.proofs.OneStep.{Steps, steps_so}

-- ---- entries that are not before a moment

abbrev NotBefore : ℕ → List Entry → Type 0
NotBefore m ds = AllByRecursion (λ (x : Entry). int_le (pos m) x.moment ≡ true) ds

le_low : (m n : ℕ) (x : ℤ) → m ≤ n → int_le (pos n) x ≡ true → int_le (pos m) x ≡ true
le_low m n x l q = grind (arith, ints)

not_before : (m n : ℕ) (ds : List Entry) → m ≤ n → NotBefore n ds → NotBefore m ds
not_before m n [] l p = tt
not_before m n (x ∷ xs) l p = (le_low m n x.moment l p.0, not_before m n xs l p.1)

all_now : (m : ℕ) (steps : List Step) → NotBefore m (at_moment (pos m) steps)
all_now m [] = tt
all_now m (s ∷ ss) = (le_same m, all_now m ss)

above : (m : ℕ) (x : ℤ) → int_le (pos (suc m)) x ≡ true → int_le x (pos m) ≡ false
above m x q = grind (arith, ints)

none_until : (m : ℕ) (ds : List Entry) → NotBefore (suc m) ds → until (pos m) ds ≡ []
none_until m [] p = refl
none_until m (x ∷ xs) p =
    ap (λ t. cond t (x ∷ until (pos m) xs) (until (pos m) xs)) (above m x.moment p.0) ∙ none_until m xs p.1

until_front : (m : ℕ) (ds more : List Entry) → NoLater m ds → NotBefore (suc m) more → until (pos m) (ds ++ more) ≡ ds
until_front m [] more p q = none_until m more q
until_front m (x ∷ xs) more p q =
    ap (λ t. cond t (x ∷ until (pos m) (xs ++ more)) (until (pos m) (xs ++ more))) p.0 ∙ ap (λ ys. x ∷ ys) (until_front m xs more p.1 q)

-- ---- what steps append

record Grows (q r : Progress) : Type 0 where
  more : List Entry
  diary : r.diary ≡ q.diary ++ more
  late : NotBefore q.moment more

grows : (c : Course) (k : ℕ) (q : Progress) → Grows q (after_steps c k q)
grows c zero q = record { more = []; diary = sym (append-nil q.diary); late = tt }
grows c (suc k) q = by_next (next_step c q) refl (grows c k)
  where
    by_next : (o : Option Progress) → next_step c q ≡ o → ((r : Progress) → Grows r (after_steps c k r)) → Grows q (option_map_or (λ r. after_steps c k r) o q)
    by_next None e later = record { more = []; diary = sym (append-nil q.diary); late = tt }
    by_next (Some r) e later =
        let one = next_extends (NotBefore q.moment) c q tt (le_same q.moment, tt)
        (λ next d. all_now q.moment (steps_of (history_at c q) (pos q.moment) next.key.serial next.change)) r e in
        let rest = later r in
        let low : q.moment ≤ r.moment = by_one e in
        record {
          more = one.0 ++ rest.more;
          diary = rest.diary ∙ ap (λ ds. ds ++ rest.more) one.1 ∙ append_assoc q.diary one.0 rest.more;
          late = each_append (λ (x : Entry). int_le (pos q.moment) x.moment ≡ true) one.0 rest.more one.2 (not_before q.moment r.moment rest.more low rest.late);
        }
      where
        by_one : next_step c q ≡ Some r → q.moment ≤ r.moment
        by_one e =
            let same : after_steps c (suc zero) q ≡ r = ap (λ o. option_map_or (λ s. s) o q) e in
            let on = (steps_on c (suc zero) q).1 in
            let there : (after_steps c (suc zero) q).moment ≡ r.moment = ap (λ (x : Progress). x.moment) same in
            omega (arith, on, there)

-- ---- a step stays at its moment, or takes the next one and leaves the diary

abbrev Moves : Progress → Progress → Type 0
Moves q r = (r.moment ≡ q.moment) ⊎ ((r.moment ≡ suc q.moment) × (r.diary ≡ q.diary))

next_moves : (c : Course) (q r : Progress) → next_step c q ≡ Some r → Moves q r
next_moves c q r e = by_step (steps_so c q r e)
  where
    by_step : Steps c q r → Moves q r
    by_step (inl p) = rw (← p.is) (inr (refl, refl))
    by_step (inr (inl h)) = inl (sym (ap (λ (x : Progress). x.moment) h.is))
    by_step (inr (inr h)) = inl (sym (ap (λ (x : Progress). x.moment) h.is))

-- ---- the way back

record Was (c : Course) (q p : Progress) (earlier : ℕ) : Type 0 where
  steps : ℕ
  at : Progress
  there : after_steps c steps q ≡ at
  moment : at.moment ≡ earlier
  diary : at.diary ≡ until (pos earlier) p.diary

was : (c : Course) (earlier k : ℕ) (q : Progress) → NoLater q.moment q.diary → q.moment ≤ earlier → earlier ≤ (after_steps c k q).moment → Was c q (after_steps c k q) earlier
was c earlier zero q past low high =
    let same : q.moment ≡ earlier = omega (arith, low, high) in
    record { steps = 0; at = q; there = refl; moment = same; diary = sym (ap (λ m. until (pos m) q.diary) (sym same) ∙ all_until q.moment q.diary past) }
was c earlier (suc k) q past low high = by_next (next_step c q) refl high (was c earlier k)
  where
    by_next : (o : Option Progress) → next_step c q ≡ o → earlier ≤ (option_map_or (λ r. after_steps c k r) o q).moment → ((r : Progress) → NoLater r.moment r.diary → r.moment ≤ earlier → earlier ≤ (after_steps c k r).moment → Was c r (after_steps c k r) earlier) → Was c q (option_map_or (λ r. after_steps c k r) o q) earlier
    by_next None e high later =
        let same : q.moment ≡ earlier = omega (arith, low, high) in
        record { steps = 0; at = q; there = refl; moment = same; diary = sym (ap (λ m. until (pos m) q.diary) (sym same) ∙ all_until q.moment q.diary past) }
    by_next (Some r) e high later = by_order (nat_le r.moment earlier) refl
      where
        onward : r.moment ≤ earlier → Was c q (after_steps c k r) earlier
        onward l =
            let rest = later r (next_past c q r e past) l high in
            record {
              steps = suc rest.steps;
              at = rest.at;
              there = ap (λ o. option_map_or (λ s. after_steps c rest.steps s) o q) e ∙ rest.there;
              moment = rest.moment;
              diary = rest.diary;
            }

        here : earlier < r.moment → Moves q r → Was c q (after_steps c k r) earlier
        here l (inl same) = absurd (omega (arith, l, same, low))
        here l (inr (up, same)) =
            let at_now : q.moment ≡ earlier = omega (arith, l, up, low) in
            let more = grows c k r in
            let late : NotBefore (suc q.moment) more.more = not_before (suc q.moment) r.moment more.more (omega (arith, up)) more.late in
            record {
              steps = 0;
              at = q;
              there = refl;
              moment = at_now;
              diary = sym (ap (λ m. until (pos m) (after_steps c k r).diary) (sym at_now) ∙ ap (until (pos q.moment)) (more.diary ∙ ap (λ ds. ds ++ more.more) same) ∙ until_front q.moment q.diary more.more past late);
            }

        by_order : (t : Bool) → nat_le r.moment earlier ≡ t → Was c q (after_steps c k r) earlier
        by_order true t = onward (leb-true r.moment earlier t)
        by_order false t = here (leb-false r.moment earlier t) (next_moves c q r e)

pub reaches_back : (d : Document) (log : List LogEntry) (last earlier : ℕ) (p : Progress) → Reaches (course_on d.nodes log last) p → earlier ≤ p.moment → (r : Progress) × (r.moment ≡ earlier) × (r.diary ≡ until (pos earlier) p.diary) × Reaches (course_on d.nodes log last) r
reaches_back d log last earlier p r low =
    let there : p.moment ≡ (after_steps (course_on d.nodes log last) r.0 outset).moment = ap (λ (x : Progress). x.moment) (sym r.1) in
    let w = was (course_on d.nodes log last) earlier r.0 outset tt (omega arith) (omega (arith, low, there)) in
    (w.at, w.moment, w.diary ∙ ap (λ (x : Progress). until (pos earlier) x.diary) r.1, (w.steps, w.there))
