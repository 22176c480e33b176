-- Of what a course comes to, the log entries that were heard are of its log, and none is later than its moment.
use Rattle.std.proofs.Common.{◌≡◌, refl, sym, subst, ℕ, zero, suc, ◌+◌, ◌≤◌, List, [], ◌∷◌, ◌++◌, Option, None, Some, ℤ, Bool, true, false, arith, length, take}
use Rattle.std.specs.Prelude.{pos, int_le, cond, nat_lt, slice_get}
use Rattle.std.specs.List.{list_all}
use Rattle.std.specs.Option.{option_map_or}
use Rattle.std.proofs.lemmas.Int.{ints}
use Rattle.smil_model.specs.declared.diary.LogEntry.{LogEntry}
use Rattle.smil_model.specs.declared.diary.Step.TheVariants.{Logged}
use Rattle.smil_model.specs.diary.Logs.{is_log, is_logged_by, moments_rise, may_happen}
use Rattle.smil_model.specs.happening.Keys.{DueChange, coming, first_coming, is_due}
use Rattle.smil_model.specs.happening.Groups.{group}
use Rattle.smil_model.specs.happening.Resolution.{Course, Progress, Reaches, next_step, after_steps, after_coming, after_settling, after_quiet, history_at, outset}
use Rattle.std.proofs.lemmas.Bool.{and_from, and_parts}

-- ---- logs

later : (a : ℕ) (x : ℤ) → int_le x (pos a) ≡ true → int_le x (pos (suc a)) ≡ true
later a x q = grind (arith, ints)

logged_later : (a : ℕ) (log : List LogEntry) → is_logged_by (pos a) log ≡ true → is_logged_by (pos (suc a)) log ≡ true
logged_later a [] q = q
logged_later a (x ∷ xs) q =
    and_from (int_le x.moment (pos (suc a))) (is_logged_by (pos (suc a)) xs)
    (later a x.moment (and_parts (int_le x.moment (pos a)) (is_logged_by (pos a) xs) q).0)
    (logged_later a xs (and_parts (int_le x.moment (pos a)) (is_logged_by (pos a) xs) q).1)

pub logged_one : (m : ℤ) (log : List LogEntry) (entry : LogEntry) → is_logged_by m log ≡ true → int_le entry.moment m ≡ true → is_logged_by m (log ++ entry ∷ []) ≡ true
logged_one m [] entry q t = and_from (int_le entry.moment m) true t refl
logged_one m (x ∷ xs) entry q t =
    and_from (int_le x.moment m) (is_logged_by m (xs ++ entry ∷ [])) (and_parts (int_le x.moment m) (is_logged_by m xs) q).0
    (logged_one m xs entry (and_parts (int_le x.moment m) (is_logged_by m xs) q).1 t)

-- one more of the log
record OneMore (m : ℤ) (log : List LogEntry) (k : ℕ) : Type 0 where
  by : is_logged_by m (take (suc k) log) ≡ true
  within : suc k ≤ length log

one_more : (m : ℤ) (log : List LogEntry) (k : ℕ) (entry : LogEntry) → slice_get log k ≡ Some entry → int_le entry.moment m ≡ true → is_logged_by m (take k log) ≡ true → OneMore m log k
one_more m [] k entry q t b = cc
one_more m (x ∷ xs) zero entry q t b =
    let same : x ≡ entry = cc in
    record { by = and_from (int_le x.moment m) true (subst (λ (y : LogEntry). int_le y.moment m ≡ true) (sym same) t) refl; within = omega arith }
one_more m (x ∷ xs) (suc k) entry q t b =
    let rest = one_more m xs k entry q t (and_parts (int_le x.moment m) (is_logged_by m (take k xs)) b).1 in
    let far = rest.within in
    record { by = and_from (int_le x.moment m) (is_logged_by m (take (suc k) xs)) (and_parts (int_le x.moment m) (is_logged_by m (take k xs)) b).0 rest.by; within = omega (arith, far) }

-- ---- courses

pub record Heeds (c : Course) (p : Progress) : Type 0 where
  pub within : p.heard ≤ length c.log
  pub by : is_logged_by (pos p.moment) (take p.heard c.log) ≡ true

module _ (c : Course) (p : Progress) (held : Heeds c p) where
  quiet : (q : Progress) → after_quiet c p ≡ Some q → Heeds c q
  quiet q e = by_test (nat_lt p.moment c.last) e
    where
      by_test : (b : Bool) → cond b (Some (record { moment = suc p.moment; heard = p.heard; diary = p.diary })) None ≡ Some q → Heeds c q
      by_test true e =
          let one : record { moment = suc p.moment; heard = p.heard; diary = p.diary } ≡ q = cc in
          subst (λ (r : Progress). Heeds c r) one (record { within = held.within; by = logged_later p.moment (take p.heard c.log) held.by })
      by_test false e = cc

  settling : (o : Option LogEntry) → slice_get c.log p.heard ≡ o → (q : Progress) → after_settling c p o ≡ Some q → Heeds c q
  settling None here q e = quiet q e
  settling (Some entry) here q e = by_test (int_le entry.moment (pos p.moment)) refl e
    where
      by_test : (b : Bool) → int_le entry.moment (pos p.moment) ≡ b → cond b (Some (record { moment = p.moment; heard = suc p.heard; diary = p.diary ++ record { moment = pos p.moment; step = Logged p.heard } ∷ [] })) (after_quiet c p) ≡ Some q → Heeds c q
      by_test true t e =
          let one : record { moment = p.moment; heard = suc p.heard; diary = p.diary ++ record { moment = pos p.moment; step = Logged p.heard } ∷ [] } ≡ q = cc in
          let more = one_more (pos p.moment) c.log p.heard entry here t held.by in
          subst (λ (r : Progress). Heeds c r) one (record { within = more.within; by = more.by })
      by_test false t e = quiet q e

  happening : (o : Option DueChange) (q : Progress) → after_coming c p o ≡ Some q → Heeds c q
  happening None q e = settling (slice_get c.log p.heard) refl q e
  happening (Some next) q e = by_test (is_due (pos p.moment) next.key) e
    where
      by_test : (b : Bool) → cond b (Some (record { moment = p.moment; heard = p.heard; diary = p.diary ++ group (history_at c p) (pos p.moment) next.key.serial next.change })) (after_settling c p (slice_get c.log p.heard)) ≡ Some q → Heeds c q
      by_test true e =
          let one : record { moment = p.moment; heard = p.heard; diary = p.diary ++ group (history_at c p) (pos p.moment) next.key.serial next.change } ≡ q = cc in
          subst (λ (r : Progress). Heeds c r) one (record { within = held.within; by = held.by })
      by_test false e = settling (slice_get c.log p.heard) refl q e

heeds_on : (c : Course) (k : ℕ) (p : Progress) → Heeds c p → Heeds c (after_steps c k p)
heeds_on c zero p held = held
heeds_on c (suc k) p held = by_next (next_step c p) refl (heeds_on c k)
  where
    by_next : (r : Option Progress) → next_step c p ≡ r → ((q : Progress) → Heeds c q → Heeds c (after_steps c k q)) → Heeds c (option_map_or (λ q. after_steps c k q) r p)
    by_next None e on = held
    by_next (Some q) e on = on q (happening c p held (first_coming (coming (history_at c p) (pos p.moment))) q e)

pub heeded : (c : Course) (p : Progress) → Reaches c p → Heeds c p
heeded c p reached = subst (λ (r : Progress). Heeds c r) reached.1 (heeds_on c reached.0 outset (record { within = omega arith; by = refl }))

-- ---- a part of a log is a log, and one that is heard now goes on from it

rises : (n : ℕ) (from : ℤ) (log : List LogEntry) → moments_rise from log ≡ true → moments_rise from (take n log) ≡ true
rises zero from log q = refl
rises (suc n) from [] q = q
rises (suc n) from (x ∷ xs) q =
    and_from (int_le from x.moment) (moments_rise x.moment (take n xs)) (and_parts (int_le from x.moment) (moments_rise x.moment xs) q).0
    (rises n x.moment xs (and_parts (int_le from x.moment) (moments_rise x.moment xs) q).1)

pub all_first : (test : LogEntry → Bool) (n : ℕ) (log : List LogEntry) → list_all test log ≡ true → list_all test (take n log) ≡ true
all_first test zero log q = refl
all_first test (suc n) [] q = q
all_first test (suc n) (x ∷ xs) q = and_from (test x) (list_all test (take n xs)) (and_parts (test x) (list_all test xs) q).0 (all_first test n xs (and_parts (test x) (list_all test xs) q).1)

pub first_is_log : (n : ℕ) (log : List LogEntry) → is_log log ≡ true → is_log (take n log) ≡ true
first_is_log n log q =
    and_from (moments_rise (pos 0) (take n log)) (list_all (λ (x : LogEntry). may_happen x.what) (take n log))
    (rises n (pos 0) log (and_parts (moments_rise (pos 0) log) (list_all (λ (x : LogEntry). may_happen x.what) log) q).0)
    (all_first (λ (x : LogEntry). may_happen x.what) n log (and_parts (moments_rise (pos 0) log) (list_all (λ (x : LogEntry). may_happen x.what) log) q).1)

rises_one : (from : ℤ) (log : List LogEntry) (entry : LogEntry) → moments_rise from log ≡ true → int_le from entry.moment ≡ true → is_logged_by entry.moment log ≡ true → moments_rise from (log ++ entry ∷ []) ≡ true
rises_one from [] entry q l b = and_from (int_le from entry.moment) true l refl
rises_one from (x ∷ xs) entry q l b =
    and_from (int_le from x.moment) (moments_rise x.moment (xs ++ entry ∷ [])) (and_parts (int_le from x.moment) (moments_rise x.moment xs) q).0
    (rises_one x.moment xs entry (and_parts (int_le from x.moment) (moments_rise x.moment xs) q).1
    (and_parts (int_le x.moment entry.moment) (is_logged_by entry.moment xs) b).0 (and_parts (int_le x.moment entry.moment) (is_logged_by entry.moment xs) b).1)

pub all_one : (test : LogEntry → Bool) (log : List LogEntry) (entry : LogEntry) → list_all test log ≡ true → test entry ≡ true → list_all test (log ++ entry ∷ []) ≡ true
all_one test [] entry q t = and_from (test entry) true t refl
all_one test (x ∷ xs) entry q t = and_from (test x) (list_all test (xs ++ entry ∷ [])) (and_parts (test x) (list_all test xs) q).0 (all_one test xs entry (and_parts (test x) (list_all test xs) q).1 t)

pub log_with : (log : List LogEntry) (entry : LogEntry) → is_log log ≡ true → is_logged_by entry.moment log ≡ true → int_le (pos 0) entry.moment ≡ true → may_happen entry.what ≡ true → is_log (log ++ entry ∷ []) ≡ true
log_with log entry q b l m =
    and_from (moments_rise (pos 0) (log ++ entry ∷ [])) (list_all (λ (x : LogEntry). may_happen x.what) (log ++ entry ∷ []))
    (rises_one (pos 0) log entry (and_parts (moments_rise (pos 0) log) (list_all (λ (x : LogEntry). may_happen x.what) log) q).0 l b)
    (all_one (λ (x : LogEntry). may_happen x.what) log entry (and_parts (moments_rise (pos 0) log) (list_all (λ (x : LogEntry). may_happen x.what) log) q).1 m)
