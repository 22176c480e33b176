-- The log entries that a resolution has heard: each at its own moment, and none that is left is
-- earlier.
use Rattle.std.proofs.Common.{◌≡◌, refl, sym, ◌∙◌, ap, subst, ℕ, suc, zero, ◌+◌, List, [], ◌∷◌, ◌++◌, Option, Some, None, ℤ, Bool, true, false, arith, take, drop}
use Rattle.std.specs.Prelude.{cond, pos, int_le, nat_lt, slice_get, map, filter}
use Rattle.std.specs.Option.{option_map_or}
use Rattle.std.proofs.lemmas.Int.{ints}
use Rattle.std.proofs.lemmas.List.{map-append, nil_from_length}
use Rattle.std.proofs.lemmas.List.Elements.{filter-append}
use Rattle.smil_model.specs.declared.diary.Entry.{Entry}
use Rattle.smil_model.specs.declared.diary.LogEntry.{LogEntry}
use Rattle.smil_model.specs.declared.diary.Step.TheVariants.{Logged}
use Rattle.smil_model.specs.diary.Logs.{moments_rise}
use Rattle.smil_model.specs.happening.Keys.{DueChange, coming, first_coming, is_due}
use Rattle.smil_model.specs.happening.Groups.{group}
use Rattle.smil_model.specs.happening.Resolution.{Course, Progress, outset, history_at, after_quiet, after_settling, after_coming, next_step, after_steps, Reaches}
use Rattle.smil_model.proofs.NumberOrders.{le_exact}
use Rattle.smil_laws.specs.Cut.{is_logged, logged}
use Rattle.smil_laws.proofs.CourseCut.{next_on, logged_append}
use Rattle.smil_laws.proofs.Lists.{take-suc_at}
use Rattle.smil_live.proofs.FullDiaries.{AreFrom, rising_behind, rising_from}

-- the moments at which a diary hears log entries
abbrev pub heard_moments : List Entry → List ℤ
heard_moments diary = map (λ (x : Entry). x.moment) (filter (λ (x : Entry). is_logged x.step) diary)

abbrev pub log_moments : List LogEntry → List ℤ
log_moments log = map (λ (x : LogEntry). x.moment) log

-- each entry was heard at its moment, and the next one is not before the present moment
pub record HasHeard (log : List LogEntry) (p : Progress) : Type 0 where
  pub count : logged p.diary ≡ p.heard
  pub moments : heard_moments p.diary ≡ log_moments (take p.heard log)
  pub next : (entry : LogEntry) → slice_get log p.heard ≡ Some entry → int_le (pos p.moment) entry.moment ≡ true

-- ---- lists

first_from : (m : ℤ) (xs : List LogEntry) (k : ℕ) (x : LogEntry) → AreFrom m (drop k xs) → slice_get xs k ≡ Some x → int_le m x.moment ≡ true
first_from m [] k x all e = cc
first_from m (y ∷ ys) zero x all e = let one : y ≡ x = cc in rw (← one) all.0
first_from m (y ∷ ys) (suc k) x all e = first_from m ys k x all e

next_moment : (m : ℕ) (x : ℤ) → int_le x (pos m) ≡ false → int_le (pos (suc m)) x ≡ true
next_moment m x p = grind (arith, ints)

moments_append : (xs ys : List Entry) → heard_moments (xs ++ ys) ≡ heard_moments xs ++ heard_moments ys
moments_append xs ys =
    ap (λ (l : List Entry). map (λ (x : Entry). x.moment) l) (filter-append (λ (x : Entry). is_logged x.step) xs ys)
    ∙ map-append (λ (x : Entry). x.moment) (filter (λ (x : Entry). is_logged x.step) xs) (filter (λ (x : Entry). is_logged x.step) ys)

-- ---- step by step

module _ (c : Course) (rise : moments_rise (pos 0) c.log ≡ true) (q : Progress) (before : HasHeard c.log q) where
  abbrev NotDue : Type 0
  NotDue = (entry : LogEntry) → slice_get c.log q.heard ≡ Some entry → int_le entry.moment (pos q.moment) ≡ false

  quiet_heard : (r : Progress) → after_quiet c q ≡ Some r → NotDue → HasHeard c.log r
  quiet_heard r e free = by_test (nat_lt q.moment c.last) e
    where
      by_test : (t : Bool) → cond t (Some (record { moment = suc q.moment; heard = q.heard; diary = q.diary })) None ≡ Some r → HasHeard c.log r
      by_test true e =
          let one : record { moment = suc q.moment; heard = q.heard; diary = q.diary } ≡ r = cc in
          rw (← one) (record { count = before.count; moments = before.moments; next = λ entry f. next_moment q.moment entry.moment (free entry f) })
      by_test false e = cc

  module _ (entry : LogEntry) (here : slice_get c.log q.heard ≡ Some entry) (due : int_le entry.moment (pos q.moment) ≡ true) where
    abbrev added : List Entry
    added = record { moment = pos q.moment; step = Logged q.heard } ∷ []

    now_is : pos q.moment ≡ entry.moment
    now_is = le_exact (pos q.moment) entry.moment (before.next entry here) due

    heard_one : HasHeard c.log (record { moment = q.moment; heard = suc q.heard; diary = q.diary ++ added })
    heard_one = record {
      count = let count = before.count in logged_append q.diary added ∙ omega (arith, count);
      moments =
          moments_append q.diary added
          ∙ (ap (λ (l : List ℤ). l ++ pos q.moment ∷ []) before.moments
          ∙ (ap (λ (m : ℤ). log_moments (take q.heard c.log) ++ m ∷ []) now_is
          ∙ (sym (map-append (λ (x : LogEntry). x.moment) (take q.heard c.log) (entry ∷ []))
          ∙ ap log_moments (sym (take-suc_at c.log q.heard entry here)))));
      next = λ later f. subst (λ (m : ℤ). int_le m later.moment ≡ true) (sym now_is) (first_from entry.moment c.log (suc q.heard) later (rising_behind (pos 0) c.log q.heard entry rise here) f);
    }

  settling_heard : (o : Option LogEntry) (r : Progress) → slice_get c.log q.heard ≡ o → after_settling c q o ≡ Some r → HasHeard c.log r
  settling_heard None r f e = quiet_heard r e (λ entry g. let never : None ≡ Some entry = sym f ∙ g in cc)
  settling_heard (Some entry) r f e = by_test (int_le entry.moment (pos q.moment)) refl e
    where
      by_test : (t : Bool) → int_le entry.moment (pos q.moment) ≡ t → cond t (Some (record { moment = q.moment; heard = suc q.heard; diary = q.diary ++ record { moment = pos q.moment; step = Logged q.heard } ∷ [] })) (after_quiet c q) ≡ Some r → HasHeard c.log r
      by_test true t e =
          let one : record { moment = q.moment; heard = suc q.heard; diary = q.diary ++ record { moment = pos q.moment; step = Logged q.heard } ∷ [] } ≡ r = cc in
          subst (λ (p : Progress). HasHeard c.log p) one (heard_one entry f t)
      by_test false t e = quiet_heard r e (λ later g. let same : Some entry ≡ Some later = sym f ∙ g in let one : entry ≡ later = cc in rw (← one) t)

  coming_heard : (o : Option DueChange) (r : Progress) → next_step c q ≡ Some r → after_coming c q o ≡ Some r → HasHeard c.log r
  coming_heard None r whole e = settling_heard (slice_get c.log q.heard) r refl e
  coming_heard (Some next) r whole e = by_test (is_due (pos q.moment) next.key) e
    where
      g : List Entry
      g = group (history_at c q) (pos q.moment) next.key.serial next.change

      by_test : (t : Bool) → cond t (Some (record { moment = q.moment; heard = q.heard; diary = q.diary ++ group (history_at c q) (pos q.moment) next.key.serial next.change })) (after_settling c q (slice_get c.log q.heard)) ≡ Some r → HasHeard c.log r
      by_test true e =
          let gs : List Entry = group (history_at c q) (pos q.moment) next.key.serial next.change in
          let one : record { moment = q.moment; heard = q.heard; diary = q.diary ++ gs } ≡ r = cc in
          let count : logged (q.diary ++ gs) ≡ q.heard = subst (λ (p : Progress). logged p.diary ≡ p.heard) (sym one) ((next_on c q r whole).count before.count) in
          let both = logged_append q.diary gs in
          let was = before.count in
          let none : filter (λ (x : Entry). is_logged x.step) gs ≡ [] = nil_from_length (filter (λ (x : Entry). is_logged x.step) gs) (omega (arith, count, both, was)) in
          subst (λ (p : Progress). HasHeard c.log p) one
          (record {
            count = count;
            moments = moments_append q.diary gs ∙ (ap (λ (l : List Entry). heard_moments q.diary ++ map (λ (x : Entry). x.moment) l) none ∙ (append_none (heard_moments q.diary) ∙ before.moments));
            next = before.next;
          })
        where
          append_none : (l : List ℤ) → l ++ [] ≡ l
          append_none [] = refl
          append_none (x ∷ xs) = ap (λ (t : List ℤ). x ∷ t) (append_none xs)
      by_test false e = settling_heard (slice_get c.log q.heard) r refl e

  next_heard : (r : Progress) → next_step c q ≡ Some r → HasHeard c.log r
  next_heard r e = coming_heard (first_coming (coming (history_at c q) (pos q.moment))) r e e

steps_heard : (c : Course) → moments_rise (pos 0) c.log ≡ true → (k : ℕ) (q : Progress) → HasHeard c.log q → HasHeard c.log (after_steps c k q)
steps_heard c rise zero q before = before
steps_heard c rise (suc k) q before = by_next (next_step c q) refl (steps_heard c rise k)
  where
    by_next : (o : Option Progress) → next_step c q ≡ o → ((r : Progress) → HasHeard c.log r → HasHeard c.log (after_steps c k r)) → HasHeard c.log (option_map_or (λ r. after_steps c k r) o q)
    by_next None e later = before
    by_next (Some r) e later = later r (next_heard c rise q before r e)

-- what a course comes to has heard its entries so
pub has_heard : (c : Course) (p : Progress) → moments_rise (pos 0) c.log ≡ true → Reaches c p → HasHeard c.log p
has_heard c p rise (k, e) = subst (λ (q : Progress). HasHeard c.log q) e (steps_heard c rise k outset start)
  where
    start : HasHeard c.log outset
    start = record {
      count = refl;
      moments = refl;
      next = λ entry f. first_from (pos 0) c.log 0 entry (rising_from (pos 0) c.log rise) f;
    }
