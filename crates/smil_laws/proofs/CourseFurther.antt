-- A course with a longer log and a later last moment comes to what the shorter one comes to.
use Rattle.std.proofs.Common.{◌≡◌, refl, sym, ◌∙◌, ap, ℕ, suc, zero, ◌<◌, ◌≤◌, List, [], ◌∷◌, ◌++◌, Option, Some, None, Bool, true, false, arith, length}
use Rattle.std.specs.Prelude.{cond, pos, int_le, nat_lt, slice_get, reverse, ◌==◌}
use Rattle.std.specs.Option.{option_map_or}
use Rattle.std.proofs.lemmas.Bool.{lt-ltb, ltb-true, eq-eqb, ne_eqb}
use Rattle.std.proofs.lemmas.Int.{ints}
use Rattle.std.specs.List.{AllByRecursion}
use Rattle.smil_model.specs.declared.diary.Entry.{Entry}
use Rattle.smil_model.specs.declared.diary.LogEntry.{LogEntry}
use Rattle.smil_model.specs.declared.diary.Step.{Step}
use Rattle.smil_model.specs.declared.diary.Step.TheVariants.{Began, Repeated, Ended, Cut, Paused, Resumed, Deferred, Passed, Logged}
use Rattle.smil_model.specs.declared.document.Node.{Node}
use Rattle.smil_model.specs.document.Document.{Document}
use Rattle.smil_model.specs.document.Valid.{IsNumberedTree}
use Rattle.smil_model.specs.diary.Clocks.{until}
use Rattle.smil_model.specs.happening.Keys.{DueChange, coming, first_coming, is_due}
use Rattle.smil_model.specs.happening.Groups.{steps_of, at_moment, group}
use Rattle.smil_model.specs.happening.Resolution.{Course, Progress, outset, history_at, after_quiet, after_settling, after_coming, next_step, after_steps, Reaches}
use Rattle.smil_model.specs.reach.Bounds.{has_begun}
use Rattle.smil_laws.specs.Locality.{ParentsBefore}
use Rattle.smil_laws.specs.Agreement.{IsAside, DifferBelow, SparesAll, course_on}
use Rattle.smil_laws.specs.Cut.{logged, IsNamedBelow, NamesBelow}
use Rattle.smil_laws.proofs.AsideDocuments.{SameLogged, NamesAlike, each_append, spared}
use Rattle.smil_laws.proofs.FreshSerials.{IsFresh, is_fresh, fresh_aside, fresh_differ}
use Rattle.smil_laws.proofs.ResolutionsAgree.{next_alike, next_frees}
use Rattle.smil_laws.proofs.NumberedTrees.{all_low, ordered}
use Rattle.smil_laws.proofs.CourseCut.{next_on, steps_on}
use Rattle.smil_laws.proofs.QuietResolution.{le_later, not_due}
use Rattle.smil_laws.proofs.Lists.{each_weaker}
use Rattle.smil_laws.proofs.ResolutionEnds.{in_log}
use Rattle.smil_laws.specs.Courses.{IsPast}

-- ---- no entry is later than the moment

abbrev pub NoLater : ℕ → List Entry → Type 0
NoLater m ds = AllByRecursion (λ (x : Entry). int_le x.moment (pos m) ≡ true) ds

pub le_same : (m : ℕ) → int_le (pos m) (pos m) ≡ true
le_same m = grind (arith, ints)

no_later : (m : ℕ) (ds : List Entry) → NoLater m ds → NoLater (suc m) ds
no_later m [] p = tt
no_later m (x ∷ xs) p = (le_later x.moment m p.0, no_later m xs p.1)

now_all : (m : ℕ) (steps : List Step) → NoLater m (at_moment (pos m) steps)
now_all m [] = tt
now_all m (s ∷ ss) = (le_same m, now_all m ss)

pub all_until : (m : ℕ) (ds : List Entry) → NoLater m ds → until (pos m) ds ≡ ds
all_until m [] p = refl
all_until m (x ∷ xs) p =
    ap (λ t. cond t (x ∷ until (pos m) xs) (until (pos m) xs)) p.0 ∙ ap (λ ys. x ∷ ys) (all_until m xs p.1)

module _ (c : Course) (q : Progress) where
  quiet_past : (r : Progress) → after_quiet c q ≡ Some r → NoLater q.moment q.diary → NoLater r.moment r.diary
  quiet_past r e p = by_test (nat_lt q.moment c.last) e
    where
      by_test : (t : Bool) → cond t (Some (record { moment = suc q.moment; heard = q.heard; diary = q.diary })) None ≡ Some r → NoLater r.moment r.diary
      by_test true e = let one : record { moment = suc q.moment; heard = q.heard; diary = q.diary } ≡ r = cc in rw (← one) (no_later q.moment q.diary p)
      by_test false e = cc

  settling_past : (o : Option LogEntry) (r : Progress) → after_settling c q o ≡ Some r → NoLater q.moment q.diary → NoLater r.moment r.diary
  settling_past None r e p = quiet_past r e p
  settling_past (Some entry) r e p = by_test (int_le entry.moment (pos q.moment)) e
    where
      by_test : (t : Bool) → cond t (Some (record { moment = q.moment; heard = suc q.heard; diary = q.diary ++ record { moment = pos q.moment; step = Logged q.heard } ∷ [] })) (after_quiet c q) ≡ Some r → NoLater r.moment r.diary
      by_test true e =
          let one : record { moment = q.moment; heard = suc q.heard; diary = q.diary ++ record { moment = pos q.moment; step = Logged q.heard } ∷ [] } ≡ r = cc in
          rw (← one) (each_append (λ (x : Entry). int_le x.moment (pos q.moment) ≡ true) q.diary (record { moment = pos q.moment; step = Logged q.heard } ∷ []) p (le_same q.moment, tt))
      by_test false e = quiet_past r e p

  key_past : (o : Option DueChange) (r : Progress) → after_coming c q o ≡ Some r → NoLater q.moment q.diary → NoLater r.moment r.diary
  key_past None r e p = settling_past (slice_get c.log q.heard) r e p
  key_past (Some next) r e p = by_test (is_due (pos q.moment) next.key) e
    where
      by_test : (t : Bool) → cond t (Some (record { moment = q.moment; heard = q.heard; diary = q.diary ++ group (history_at c q) (pos q.moment) next.key.serial next.change })) (after_settling c q (slice_get c.log q.heard)) ≡ Some r → NoLater r.moment r.diary
      by_test true e =
          let one : record { moment = q.moment; heard = q.heard; diary = q.diary ++ group (history_at c q) (pos q.moment) next.key.serial next.change } ≡ r = cc in
          rw (← one) (each_append (λ (x : Entry). int_le x.moment (pos q.moment) ≡ true) q.diary (group (history_at c q) (pos q.moment) next.key.serial next.change) p (now_all q.moment (steps_of (history_at c q) (pos q.moment) next.key.serial next.change)))
      by_test false e = settling_past (slice_get c.log q.heard) r e p

  pub next_past : (r : Progress) → next_step c q ≡ Some r → NoLater q.moment q.diary → NoLater r.moment r.diary
  next_past r e = key_past (first_coming (coming (history_at c q) (pos q.moment))) r e

-- ---- all steps

record HasPast (q : Progress) : Type 0 where
  named : NamesBelow q.heard q.diary
  count : logged q.diary ≡ q.heard
  past : NoLater q.moment q.diary

has_past : (c : Course) (k : ℕ) (q : Progress) → HasPast q → HasPast (after_steps c k q)
has_past c zero q p = p
has_past c (suc k) q p = by_next (next_step c q) refl (has_past c k)
  where
    by_next : (o : Option Progress) → next_step c q ≡ o → ((r : Progress) → HasPast r → HasPast (after_steps c k r)) → HasPast (option_map_or (λ r. after_steps c k r) o q)
    by_next None e later = p
    by_next (Some r) e later =
        let one = next_on c q r e in
        later r (record { named = one.named p.named; count = one.count p.count; past = next_past c q r e p.past })

pub is_past : (c : Course) (p : Progress) → Reaches c p → IsPast p
is_past c p r =
    let h : HasPast (after_steps c r.0 outset) = has_past c r.0 outset (record { named = tt; count = refl; past = tt }) in
    let there : HasPast p = rw (← r.1) h in
    record { entries = all_until p.moment p.diary there.past; named = there.named; count = there.count }

-- ---- a log that is longer

get_more : (i : ℕ) (log more : List LogEntry) (x : LogEntry) → slice_get log i ≡ Some x → slice_get (log ++ more) i ≡ Some x
get_more i [] more x q = cc
get_more zero (y ∷ ys) more x q = q
get_more (suc i) (y ∷ ys) more x q = get_more i ys more x q

some_get : (i : ℕ) (log : List LogEntry) → i < length log → (x : LogEntry) × (slice_get log i ≡ Some x)
some_get i [] l = absurd (omega (arith, l))
some_get zero (y ∷ ys) l = (y, refl)
some_get (suc i) (y ∷ ys) l = some_get i ys (omega (arith, l))

-- past the log stands what was added
from_more : (i : ℕ) (log more : List LogEntry) (x : LogEntry) (P : LogEntry → Type 0) → slice_get log i ≡ None → slice_get (log ++ more) i ≡ Some x → AllByRecursion P more → P x
from_more i [] [] x P n q all = cc
from_more zero [] (y ∷ ys) x P n q all = let same : y ≡ x = cc in rw (← same) all.0
from_more (suc i) [] (y ∷ ys) x P n q all = from_more i [] ys x P refl q all.1
from_more zero (y ∷ ys) more x P n q all = cc
from_more (suc i) (y ∷ ys) more x P n q all = from_more i ys more x P n q all

-- each place below the heard ones has an entry, so a longer log has the same there
module _ (log more : List LogEntry) where
  alike_at : (place : ℕ) → place < length log → slice_get log place ≡ slice_get (log ++ more) place
  alike_at place l = let found = some_get place log l in found.1 ∙ sym (get_more place log more found.0 found.1)

  alike : (j : ℕ) (ds : List Entry) → j ≤ length log → NamesBelow j ds → NamesAlike log (log ++ more) ds
  alike j [] l named = tt
  alike j (x ∷ xs) l named = (by_step x.step named.0, alike j xs l named.1)
    where
      by_step : (step : Step) → IsNamedBelow j step → SameLogged log (log ++ more) step
      by_step (Logged place) p = alike_at place (omega (arith, p, l))
      by_step (Began who begin) p = tt
      by_step (Repeated who start) p = tt
      by_step (Ended who end') p = tt
      by_step (Cut who) p = tt
      by_step (Paused who) p = tt
      by_step (Resumed who) p = tt
      by_step (Deferred who begin) p = tt
      by_step (Passed who begin) p = tt

module _ (nodes : List Node) (first : ParentsBefore (reverse nodes)) (fresh : ℕ) (unused : IsFresh fresh nodes) (log more : List LogEntry) (last later : ℕ) (goal : Progress) (after : AllByRecursion (λ (x : LogEntry). int_le (pos goal.moment) x.moment ≡ true) more) (further : last ≤ later) where
  -- nothing has this serial, so the document differs from itself only below it
  abbrev aside : ℕ → Bool
  aside = is_fresh fresh

  abbrev short : Course
  short = course_on nodes log last

  abbrev long : Course
  long = course_on nodes (log ++ more) later

  is_aside : IsAside aside fresh nodes
  is_aside = fresh_aside nodes first fresh unused

  itself : DifferBelow aside fresh nodes nodes
  itself = fresh_differ nodes first fresh unused

  module _ (q r : Progress) (goes : next_step short q ≡ Some r) (within : r.moment ≤ goal.moment) where
    quiets : next_step short q ≡ after_quiet short q → after_quiet short q ≡ after_quiet long q
    quiets e = by_test (nat_lt q.moment last) refl
      where
        by_test : (t : Bool) → nat_lt q.moment last ≡ t → after_quiet short q ≡ after_quiet long q
        by_test true t =
            let below : q.moment < last = ltb-true q.moment last t in
            ap (λ b. cond b (Some (record { moment = suc q.moment; heard = q.heard; diary = q.diary })) None) t
            ∙ sym (ap (λ b. cond b (Some (record { moment = suc q.moment; heard = q.heard; diary = q.diary })) None) (lt-ltb q.moment later (omega (arith, below, further))))
        by_test false t =
            let none : after_quiet short q ≡ None = ap (λ b. cond b (Some (record { moment = suc q.moment; heard = q.heard; diary = q.diary })) None) t in
            let never : Some r ≡ None = sym goes ∙ e ∙ none in cc

    -- a quiet step ends before the goal
    before_goal : next_step short q ≡ after_quiet short q → q.moment < goal.moment
    before_goal e = by_test (nat_lt q.moment last) refl
      where
        by_test : (t : Bool) → nat_lt q.moment last ≡ t → q.moment < goal.moment
        by_test true t =
            let one : after_quiet short q ≡ Some (record { moment = suc q.moment; heard = q.heard; diary = q.diary }) = ap (λ b. cond b (Some (record { moment = suc q.moment; heard = q.heard; diary = q.diary })) None) t in
            let same : Some r ≡ Some (record { moment = suc q.moment; heard = q.heard; diary = q.diary }) = sym goes ∙ e ∙ one in
            let there : r ≡ record { moment = suc q.moment; heard = q.heard; diary = q.diary } = cc in
            let moment : r.moment ≡ suc q.moment = ap (λ (x : Progress). x.moment) there in
            omega (arith, moment, within)
        by_test false t =
            let none : after_quiet short q ≡ None = ap (λ b. cond b (Some (record { moment = suc q.moment; heard = q.heard; diary = q.diary })) None) t in
            let never : Some r ≡ None = sym goes ∙ e ∙ none in cc

    settles : next_step short q ≡ after_settling short q (slice_get log q.heard) → after_settling short q (slice_get log q.heard) ≡ after_settling long q (slice_get (log ++ more) q.heard)
    settles e = by_entry (slice_get log q.heard) refl
      where
        by_entry : (o : Option LogEntry) → slice_get log q.heard ≡ o → after_settling short q (slice_get log q.heard) ≡ after_settling long q (slice_get (log ++ more) q.heard)
        by_entry None n = by_more (slice_get (log ++ more) q.heard) refl
          where
            here : after_settling short q (slice_get log q.heard) ≡ after_quiet short q
            here = ap (after_settling short q) n

            by_more : (o : Option LogEntry) → slice_get (log ++ more) q.heard ≡ o → after_settling short q (slice_get log q.heard) ≡ after_settling long q (slice_get (log ++ more) q.heard)
            by_more None m = here ∙ quiets (e ∙ here) ∙ sym (ap (after_settling long q) m)
            by_more (Some x) m =
                let yet : int_le (pos goal.moment) x.moment ≡ true = from_more q.heard log more x (λ (x : LogEntry). int_le (pos goal.moment) x.moment ≡ true) n m after in
                here ∙ quiets (e ∙ here)
                ∙ sym (ap (after_settling long q) m
                ∙ ap (λ b. cond b (Some (record { moment = q.moment; heard = suc q.heard; diary = q.diary ++ record { moment = pos q.moment; step = Logged q.heard } ∷ [] })) (after_quiet long q)) (not_due x.moment q.moment goal.moment (before_goal (e ∙ here)) yet))
        by_entry (Some entry) n = by_test (int_le entry.moment (pos q.moment)) refl
          where
            there : slice_get (log ++ more) q.heard ≡ Some entry
            there = get_more q.heard log more entry n

            by_test : (t : Bool) → int_le entry.moment (pos q.moment) ≡ t → after_settling short q (slice_get log q.heard) ≡ after_settling long q (slice_get (log ++ more) q.heard)
            by_test true t =
                ap (after_settling short q) n
                ∙ ap (λ b. cond b (Some (record { moment = q.moment; heard = suc q.heard; diary = q.diary ++ record { moment = pos q.moment; step = Logged q.heard } ∷ [] })) (after_quiet short q)) t
                ∙ sym (ap (after_settling long q) there
                ∙ ap (λ b. cond b (Some (record { moment = q.moment; heard = suc q.heard; diary = q.diary ++ record { moment = pos q.moment; step = Logged q.heard } ∷ [] })) (after_quiet long q)) t)
            by_test false t =
                let here : after_settling short q (slice_get log q.heard) ≡ after_quiet short q =
                ap (after_settling short q) n
                ∙ ap (λ b. cond b (Some (record { moment = q.moment; heard = suc q.heard; diary = q.diary ++ record { moment = pos q.moment; step = Logged q.heard } ∷ [] })) (after_quiet short q)) t in
                here ∙ quiets (e ∙ here)
                ∙ sym (ap (after_settling long q) there
                ∙ ap (λ b. cond b (Some (record { moment = q.moment; heard = suc q.heard; diary = q.diary ++ record { moment = pos q.moment; step = Logged q.heard } ∷ [] })) (after_quiet long q)) t)

  -- what is heard is in the log
  heard_within : (q r : Progress) → next_step short q ≡ Some r → q.heard ≤ length log → r.heard ≤ length log
  heard_within q r e l = by_key (first_coming (coming (history_at short q) (pos q.moment))) e
    where
      by_quiet : after_quiet short q ≡ Some r → r.heard ≤ length log
      by_quiet e = by_test (nat_lt q.moment last) e
        where
          by_test : (t : Bool) → cond t (Some (record { moment = suc q.moment; heard = q.heard; diary = q.diary })) None ≡ Some r → r.heard ≤ length log
          by_test true e = let one : record { moment = suc q.moment; heard = q.heard; diary = q.diary } ≡ r = cc in let same : q.heard ≡ r.heard = ap (λ (x : Progress). x.heard) one in omega (arith, same, l)
          by_test false e = cc

      by_entry : (o : Option LogEntry) → slice_get log q.heard ≡ o → after_settling short q o ≡ Some r → r.heard ≤ length log
      by_entry None n e = by_quiet e
      by_entry (Some entry) n e = by_test (int_le entry.moment (pos q.moment)) e
        where
          by_test : (t : Bool) → cond t (Some (record { moment = q.moment; heard = suc q.heard; diary = q.diary ++ record { moment = pos q.moment; step = Logged q.heard } ∷ [] })) (after_quiet short q) ≡ Some r → r.heard ≤ length log
          by_test true e =
              let one : record { moment = q.moment; heard = suc q.heard; diary = q.diary ++ record { moment = pos q.moment; step = Logged q.heard } ∷ [] } ≡ r = cc in
              let same : suc q.heard ≡ r.heard = ap (λ (x : Progress). x.heard) one in
              let room = in_log q.heard log entry n in
              omega (arith, same, room)
          by_test false e = by_quiet e

      by_key : (o : Option DueChange) → after_coming short q o ≡ Some r → r.heard ≤ length log
      by_key None e = by_entry (slice_get log q.heard) refl e
      by_key (Some next) e = by_test (is_due (pos q.moment) next.key) e
        where
          by_test : (t : Bool) → cond t (Some (record { moment = q.moment; heard = q.heard; diary = q.diary ++ group (history_at short q) (pos q.moment) next.key.serial next.change })) (after_settling short q (slice_get log q.heard)) ≡ Some r → r.heard ≤ length log
          by_test true e =
              let one : record { moment = q.moment; heard = q.heard; diary = q.diary ++ group (history_at short q) (pos q.moment) next.key.serial next.change } ≡ r = cc in
              let same : q.heard ≡ r.heard = ap (λ (x : Progress). x.heard) one in
              omega (arith, same, l)
          by_test false e = by_entry (slice_get log q.heard) refl e

  comes_along : (k : ℕ) (q : Progress) → SparesAll aside q.diary → NamesBelow q.heard q.diary → q.heard ≤ length log → after_steps short k q ≡ goal → (j : ℕ) × (after_steps long j q ≡ goal)
  comes_along zero q free named low e = (0, e)
  comes_along (suc k) q free named low e = by_next (next_step short q) refl e (comes_along k)
    where
      never : has_begun q.diary fresh ≡ false
      never = spared aside fresh q.diary fresh free (eq-eqb fresh fresh refl)

      by_next : (o : Option Progress) → next_step short q ≡ o → option_map_or (λ r. after_steps short k r) o q ≡ goal → ((r : Progress) → SparesAll aside r.diary → NamesBelow r.heard r.diary → r.heard ≤ length log → after_steps short k r ≡ goal → (j : ℕ) × (after_steps long j r ≡ goal)) → (j : ℕ) × (after_steps long j q ≡ goal)
      by_next None d e onward = (0, e)
      by_next (Some r) d e onward =
          let at : (after_steps short k r).moment ≡ goal.moment = ap (λ (x : Progress). x.moment) e in
          let on = (steps_on short k r).1 in
          let same : next_step short q ≡ next_step long q =
          next_alike aside fresh nodes nodes itself log (log ++ more) last later q free never (alike log more q.heard q.diary low named)
          (settles q r d (omega (arith, at, on))) in
          let frees = next_frees aside fresh nodes nodes itself log (log ++ more) last later q free never (alike log more q.heard q.diary low named) r d in
          let rest = onward r frees ((next_on short q r d).named named) (heard_within q r d low) e in
          (suc rest.0, ap (λ o. option_map_or (λ s. after_steps long rest.0 s) o q) (sym same ∙ d) ∙ rest.1)

-- the law
pub reaches_further : (d : Document) (log more : List LogEntry) (last later : ℕ) (p : Progress) → IsNumberedTree d → Reaches (course_on d.nodes log last) p → AllByRecursion (λ (x : LogEntry). int_le (pos p.moment) x.moment ≡ true) more → last ≤ later → Reaches (course_on d.nodes (log ++ more) later) p
reaches_further d log more last later p numbered r after further =
    comes_along d.nodes (ordered d numbered).first d.next
    (each_weaker (λ (x : Node). (x.serial < d.next) × (x.parent < d.next)) (λ (x : Node). (x.serial == d.next ≡ false) × (x.parent == d.next ≡ false)) d.nodes (all_low d numbered) (λ x l. (differs x.serial d.next l.0, differs x.parent d.next l.1)))
    log more last later p after further r.0 outset tt tt (omega arith) r.1
  where
    differs : (a b : ℕ) → a < b → a == b ≡ false
    differs a b l = ne_eqb a b (λ e. absurd (omega (arith, e, l)))
