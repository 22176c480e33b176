-- The diary of a presentation is accepted, and no other list of entries.
use Rattle.std.proofs.Common.{◌≡◌, refl, sym, ◌∙◌, ap, subst, ℕ, zero, suc, ◌+◌, ◌≤◌, List, [], ◌∷◌, ◌++◌, Option, Some, None, ℤ, Bool, true, false, arith, inl, inr, length, take}
use Rattle.std.specs.Prelude.{◌⊎◌, ◌&&◌, cond, pos, ◌≤ℤ◌, int_le, nat_le, nat_lt, slice_get}
use Rattle.std.specs.Option.{option_map_or}
use Rattle.std.proofs.lemmas.Bool.{and_from, and_parts, ltb-true}
use Rattle.std.proofs.lemmas.Bool.Decides.{nat_tests}
use Rattle.std.proofs.lemmas.Int.{ints}
use Rattle.std.proofs.lemmas.List.{take_all}
use Rattle.smil_model.specs.declared.diary.Entry.{Entry}
use Rattle.smil_model.specs.declared.diary.LogEntry.{LogEntry}
use Rattle.smil_model.specs.declared.diary.Step.{Step}
use Rattle.smil_model.specs.declared.diary.Step.TheVariants.{Logged}
use Rattle.smil_model.specs.declared.document.Node.{Node}
use Rattle.smil_model.specs.declared.limits.TheConstants.{DIARY_ENTRIES}
use Rattle.smil_model.specs.diary.Logs.{is_logged_by}
use Rattle.smil_model.specs.happening.Groups.{at_moment, group, steps_of}
use Rattle.smil_model.specs.happening.Keys.{DueChange, coming, first_coming, is_due}
use Rattle.smil_model.specs.happening.Resolution.{Course, Progress, outset, history_at, after_quiet, after_settling, after_coming, next_step, after_steps, resolved}
use Rattle.smil_model.specs.shown.Orders.{Presentation, course_of}
use Rattle.smil_model.proofs.NumberOrders.{is_le}
use Rattle.smil_laws.specs.Agreement.{course_on}
use Rattle.smil_laws.specs.Cut.{is_logged, logged}
use Rattle.smil_laws.proofs.ResolutionEnds.{comes, ended_there, extent}
use Rattle.smil_laws.proofs.CourseFurther.{is_past}
use Rattle.smil_laws.proofs.OneStep.{Steps, steps_so}
use Rattle.smil_audit.specs.Entries.{agreed}
use Rattle.smil_audit.specs.Laws.{NoOtherIsAccepted, OwnDiaryIsAccepted}
use Rattle.smil_audit.specs.Verdict.{entries_past, first_wrong, first_wrong_by, heard_at, is_in_place, placed, wrong_after, wrong_by}
use Rattle.smil_audit.proofs.AgreeingFronts.{all_agree, stands_first, within_first, within_second}
use Rattle.smil_audit.proofs.VerdictsExact.{ended}

-- ---- what is accepted is what was made

placed_shorter : (from last : ℤ) (xs : List Entry) → length (placed from last xs) ≤ length xs
placed_shorter from last [] = omega arith
placed_shorter from last (x ∷ xs) = by_test (is_in_place from last x) (placed_shorter (heard_at from x) last xs)
  where
    by_test : (t : Bool) → length (placed (heard_at from x) last xs) ≤ length xs → length (cond t (x ∷ placed (heard_at from x) last xs) []) ≤ suc (length xs)
    by_test true l = omega (arith, l)
    by_test false l = omega arith

placed_whole : (from last : ℤ) (xs : List Entry) → length xs ≤ length (placed from last xs) → placed from last xs ≡ xs
placed_whole from last [] l = refl
placed_whole from last (x ∷ xs) l = by_test (is_in_place from last x) l (placed_whole (heard_at from x) last xs)
  where
    by_test : (t : Bool) → suc (length xs) ≤ length (cond t (x ∷ placed (heard_at from x) last xs) []) → (length xs ≤ length (placed (heard_at from x) last xs) → placed (heard_at from x) last xs ≡ xs)
        → cond t (x ∷ placed (heard_at from x) last xs) [] ≡ x ∷ xs
    by_test true l rest = ap (λ (ys : List Entry). x ∷ ys) (rest (omega (arith, l)))
    by_test false l rest = absurd (omega (arith, l))

test_true : (a b : ℕ) → nat_le a b ≡ true → a ≤ b
test_true a b t = grind (arith, nat_tests)

agree_all : (same : ℕ) (entries made : List Entry) → wrong_after same entries made ≡ None → (length entries ≤ same) × (length made ≤ same)
agree_all same entries made e = by_tests (nat_le (length entries) same) (nat_le (length made) same) refl refl e
  where
    by_tests : (t u : Bool) → nat_le (length entries) same ≡ t → nat_le (length made) same ≡ u → cond (t && u) None (Some (suc same)) ≡ None → (length entries ≤ same) × (length made ≤ same)
    by_tests true true p q e = (test_true (length entries) same p, test_true (length made) same q)
    by_tests true false p q e = cc
    by_tests false u p q e = cc

is_made : (nodes : List Node) (log : List LogEntry) (entries : List Entry) (last : ℕ) → first_wrong nodes log entries last ≡ None
    → entries_past (length entries) (course_on nodes (take (logged entries) log) last) ≡ entries
is_made nodes log entries last accepted =
    let front : List Entry = placed (pos 0) (pos last) entries in
    let made : List Entry = entries_past (length front) (course_on nodes (take (logged front) log) last) in
    let all = agree_all (agreed front made) entries made accepted in
    let in_front = within_first front made in
    let in_made = within_second front made in
    let shorter = placed_shorter (pos 0) (pos last) entries in
    let whole : front ≡ entries = placed_whole (pos 0) (pos last) entries (omega (arith, all.0, in_front)) in
    let first : take (length made) front ≡ made = stands_first front made (omega (arith, all.1, in_made)) in
    let one : made ≡ front = sym first ∙ take_all (length made) front (omega (arith, shorter, all.0, in_made)) in
    subst (λ (f : List Entry). entries_past (length f) (course_on nodes (take (logged f) log) last) ≡ f) whole one

-- ---- a resolution that made no more has ended

module _ (c : Course) (entries : List Entry) (made : entries_past (length entries) c ≡ entries) where
  abbrev steps : ℕ
  steps = suc (length entries + c.last)

  abbrev end : Progress
  end = after_steps c steps outset

  as_many : length end.diary ≡ length entries
  as_many = ap (λ (xs : List Entry). length xs) made

  over : next_step c end ≡ None
  over = by_far (comes c steps outset).far
    where
      by_far : (next_step c end ≡ None) ⊎ (steps + extent outset ≤ extent end) → next_step c end ≡ None
      by_far (inl early) = early
      by_far (inr far) = let bound = (comes c steps outset).within (omega arith) in absurd (omega (arith, far, bound, as_many))

  leads_there : (most : ℕ) → length entries ≤ most → (after_steps c (suc (most + c.last)) outset).diary ≡ entries
  leads_there most few = ap (λ (x : Progress). x.diary) (ended_there c end most (suc (most + c.last)) (omega arith) steps refl over (omega (arith, as_many, few))) ∙ made

pub no_other_is_accepted : NoOtherIsAccepted
no_other_is_accepted nodes log last one other count first second =
    let c = course_on nodes (take (logged one) log) last in
    let others : entries_past (length other) c ≡ other =
    subst (λ (n : ℕ). entries_past (length other) (course_on nodes (take n log) last) ≡ other) (sym count) (is_made nodes log other last second) in
    let most = length one + length other in
    sym (leads_there c one (is_made nodes log one last first) most (omega arith)) ∙ leads_there c other others most (omega arith)

-- ---- the log entries of what a course comes to are in their places

-- the moment of the last log entry of a list
abbrev heard_after : ℤ → List Entry → ℤ
heard_after from [] = from
heard_after from (x ∷ xs) = heard_after (heard_at from x) xs

heard_append : (from : ℤ) (xs ys : List Entry) → heard_after from (xs ++ ys) ≡ heard_after (heard_after from xs) ys
heard_append from [] ys = refl
heard_append from (x ∷ xs) ys = heard_append (heard_at from x) xs ys

placed_append : (from last : ℤ) (xs ys : List Entry) → placed from last xs ≡ xs → placed (heard_after from xs) last ys ≡ ys → placed from last (xs ++ ys) ≡ xs ++ ys
placed_append from last [] ys p q = q
placed_append from last (x ∷ xs) ys p q = by_test (is_in_place from last x) p (λ rest. placed_append (heard_at from x) last xs ys rest q)
  where
    by_test : (t : Bool) → cond t (x ∷ placed (heard_at from x) last xs) [] ≡ x ∷ xs → (placed (heard_at from x) last xs ≡ xs → placed (heard_at from x) last (xs ++ ys) ≡ xs ++ ys)
        → cond t (x ∷ placed (heard_at from x) last (xs ++ ys)) [] ≡ x ∷ (xs ++ ys)
    by_test true e rest = let tail : placed (heard_at from x) last xs ≡ xs = cc in ap (λ (zs : List Entry). x ∷ zs) (rest tail)
    by_test false e rest = cc

module _ (m last : ℤ) (within : m ≤ℤ last) where
  entry_now : Step → Entry
  entry_now step = record { moment = m; step = step }

  heard_now : (from : ℤ) (s : Step) → from ≤ℤ m → heard_at from (record { moment = m; step = s }) ≤ℤ m
  heard_now from s l = by_test (is_logged s)
    where
      by_test : (t : Bool) → cond t m from ≤ℤ m
      by_test true = grind (arith, ints)
      by_test false = l

  heard_there : (from : ℤ) (ss : List Step) → from ≤ℤ m → heard_after from (at_moment m ss) ≤ℤ m
  heard_there from [] l = l
  heard_there from (s ∷ ss) l = heard_there (heard_at from (record { moment = m; step = s })) ss (heard_now from s l)

  placed_there : (from : ℤ) (ss : List Step) → from ≤ℤ m → placed from last (at_moment m ss) ≡ at_moment m ss
  placed_there from [] l = refl
  placed_there from (s ∷ ss) l =
      let x : Entry = record { moment = m; step = s } in
      ap (λ (t : Bool). cond t (x ∷ placed (heard_at from x) last (at_moment m ss)) []) (by_test (is_logged s))
      ∙ ap (λ (zs : List Entry). x ∷ zs) (placed_there (heard_at from x) ss (heard_now from s l))
    where
      by_test : (t : Bool) → cond t (int_le from m && int_le m last) true ≡ true
      by_test true = and_from (int_le from m) (int_le m last) (is_le from m l) (is_le m last within)
      by_test false = refl

record InPlace (last : ℕ) (q : Progress) : Type 0 where
  moment : q.moment ≤ last
  placed_is : placed (pos 0) (pos last) q.diary ≡ q.diary
  from : heard_after (pos 0) q.diary ≤ℤ pos q.moment

adds : (last : ℕ) (q : Progress) (heard : ℕ) (ss : List Step) → InPlace last q → InPlace last (record { moment = q.moment; heard = heard; diary = q.diary ++ at_moment (pos q.moment) ss })
adds last q heard ss is =
    let within : pos q.moment ≤ℤ pos last = let below = is.moment in omega (arith, ints, below) in
    record {
      moment = is.moment;
      placed_is = placed_append (pos 0) (pos last) q.diary (at_moment (pos q.moment) ss) is.placed_is (placed_there (pos q.moment) (pos last) within (heard_after (pos 0) q.diary) ss is.from);
      from = subst (λ (v : ℤ). v ≤ℤ pos q.moment) (sym (heard_append (pos 0) q.diary (at_moment (pos q.moment) ss))) (heard_there (pos q.moment) (pos last) within (heard_after (pos 0) q.diary) ss is.from);
    }

one_step : (c : Course) (q r : Progress) → next_step c q ≡ Some r → InPlace c.last q → InPlace c.last r
one_step c q r e is = by_step (steps_so c q r e)
  where
    by_step : Steps c q r → InPlace c.last r
    by_step (inl p) =
        let below = ltb-true q.moment c.last p.below in
        let from = is.from in
        subst (λ (x : Progress). InPlace c.last x) p.is (record { moment = omega (arith, below); placed_is = is.placed_is; from = omega (arith, ints, from) })
    by_step (inr (inl h)) = subst (λ (x : Progress). InPlace c.last x) h.is (adds c.last q (suc q.heard) (Logged q.heard ∷ []) is)
    by_step (inr (inr h)) = subst (λ (x : Progress). InPlace c.last x) h.is (adds c.last q q.heard (steps_of (history_at c q) (pos q.moment) h.next.key.serial h.next.change) is)

in_place : (c : Course) (k : ℕ) (q : Progress) → InPlace c.last q → InPlace c.last (after_steps c k q)
in_place c zero q is = is
in_place c (suc k) q is = by_next (next_step c q) refl (in_place c k)
  where
    by_next : (o : Option Progress) → next_step c q ≡ o → ((r : Progress) → InPlace c.last r → InPlace c.last (after_steps c k r)) → InPlace c.last (option_map_or (λ r. after_steps c k r) o q)
    by_next None e rest = is
    by_next (Some r) e rest = rest r (one_step c q r e is)

-- ---- a resolution that has ended has heard all that was logged by its last moment

logged_at : (m : ℤ) (log : List LogEntry) (k : ℕ) (x : LogEntry) → slice_get log k ≡ Some x → is_logged_by m log ≡ true → int_le x.moment m ≡ true
logged_at m [] k x there by = cc
logged_at m (y ∷ ys) zero x there by = let same : y ≡ x = cc in subst (λ (z : LogEntry). int_le z.moment m ≡ true) same (and_parts (int_le y.moment m) (is_logged_by m ys) by).0
logged_at m (y ∷ ys) (suc k) x there by = logged_at m ys k x there (and_parts (int_le y.moment m) (is_logged_by m ys) by).1

none_left : (log : List LogEntry) (k : ℕ) → slice_get log k ≡ None → length log ≤ k
none_left [] k e = omega arith
none_left (x ∷ xs) zero e = cc
none_left (x ∷ xs) (suc k) e = let rest = none_left xs k e in omega (arith, rest)

module _ (c : Course) (p : Progress) (within : p.moment ≤ c.last) (by : is_logged_by (pos c.last) c.log ≡ true) where
  quiet_over : after_quiet c p ≡ None → p.moment ≡ c.last
  quiet_over e = by_test (nat_lt p.moment c.last) refl e
    where
      by_test : (t : Bool) → nat_lt p.moment c.last ≡ t → cond {A = Option Progress} t (Some (record { moment = suc p.moment; heard = p.heard; diary = p.diary })) None ≡ None → p.moment ≡ c.last
      by_test true t e = cc
      by_test false t e = let from : c.last ≤ p.moment = grind (arith, nat_tests) in omega (arith, from, within)

  by_entry : (o : Option LogEntry) → slice_get c.log p.heard ≡ o → after_settling c p o ≡ None → slice_get c.log p.heard ≡ None
  by_entry None there e = there
  by_entry (Some x) there e = by_test (int_le x.moment (pos p.moment)) refl e
    where
      by_test : (t : Bool) → int_le x.moment (pos p.moment) ≡ t → cond t (Some (record { moment = p.moment; heard = suc p.heard; diary = p.diary ++ record { moment = pos p.moment; step = Logged p.heard } ∷ [] })) (after_quiet c p) ≡ None → slice_get c.log p.heard ≡ None
      by_test true t e = cc
      by_test false t e =
          let last = quiet_over e in
          let early : int_le x.moment (pos p.moment) ≡ true = subst (λ (n : ℕ). int_le x.moment (pos n) ≡ true) (sym last) (logged_at (pos c.last) c.log p.heard x there by) in
          let never : false ≡ true = sym t ∙ early in cc

  by_coming : (o : Option DueChange) → after_coming c p o ≡ None → after_settling c p (slice_get c.log p.heard) ≡ None
  by_coming None e = e
  by_coming (Some next) e = by_test (is_due (pos p.moment) next.key) e
    where
      by_test : (t : Bool) → cond t (Some (record { moment = p.moment; heard = p.heard; diary = p.diary ++ group (history_at c p) (pos p.moment) next.key.serial next.change })) (after_settling c p (slice_get c.log p.heard)) ≡ None
          → after_settling c p (slice_get c.log p.heard) ≡ None
      by_test true e = cc
      by_test false e = e

  all_heard : next_step c p ≡ None → length c.log ≤ p.heard
  all_heard e = none_left c.log p.heard (by_entry (slice_get c.log p.heard) refl (by_coming (first_coming (coming (history_at c p) (pos p.moment))) e))

-- ---- the diary of a presentation

accepts_itself : (entries : List Entry) → wrong_by entries entries entries ≡ None
accepts_itself entries =
    ap (λ (k : ℕ). wrong_after k entries entries) (all_agree entries entries (take_all (length entries) entries (omega arith)))
    ∙ ap (λ (t : Bool). cond (t && t) None (Some (suc (length entries)))) (own (length entries))
  where
    own : (n : ℕ) → nat_le n n ≡ true
    own n = grind (arith, nat_tests)

module _ (p : Presentation) (logged_by : is_logged_by (pos p.now) p.log ≡ true) (few : length (resolved (course_of p)).diary ≤ DIARY_ENTRIES) where
  abbrev c : Course
  c = course_of p

  abbrev whole : ℕ
  whole = suc (DIARY_ENTRIES + p.now)

  abbrev r : Progress
  r = resolved c

  is_over : next_step c r ≡ None
  is_over = by_far (comes c whole outset).far
    where
      by_far : (next_step c r ≡ None) ⊎ (whole + extent outset ≤ extent r) → next_step c r ≡ None
      by_far (inl early) = early
      by_far (inr far) = let bound = (comes c whole outset).within (omega arith) in absurd (omega (arith, far, bound, few))

  moments : InPlace p.now r
  moments = in_place c whole outset (record { moment = omega arith; placed_is = refl; from = omega (arith, ints) })

  log_is : take (logged r.diary) p.log ≡ p.log
  log_is =
      let count = (is_past c r (whole, refl)).count in
      let heard = all_heard c r moments.moment logged_by is_over in
      take_all (logged r.diary) p.log (omega (arith, count, heard))

  accepted : first_wrong p.document.nodes p.log r.diary p.now ≡ None
  accepted =
      ap (first_wrong_by p.document.nodes p.log r.diary p.now) moments.placed_is
      ∙ ap (λ (l : List LogEntry). wrong_by r.diary r.diary (entries_past (length r.diary) (course_on p.document.nodes l p.now))) log_is
      ∙ ap (λ (made : List Entry). wrong_by r.diary r.diary made) (ended c r (whole, refl) r.diary is_over (omega arith))
      ∙ accepts_itself r.diary

pub own_diary_is_accepted : OwnDiaryIsAccepted
own_diary_is_accepted p diary state is = by_test (nat_le (length (resolved (course_of p)).diary) DIARY_ENTRIES) refl is
  where
    by_test : (t : Bool) → nat_le (length (resolved (course_of p)).diary) DIARY_ENTRIES ≡ t → cond t (Some (resolved (course_of p)).diary) None ≡ Some diary → first_wrong p.document.nodes p.log diary p.now ≡ None
    by_test true t e =
        let same : (resolved (course_of p)).diary ≡ diary = cc in
        subst (λ (d : List Entry). first_wrong p.document.nodes p.log d p.now ≡ None) same
        (accepted p state.logged (test_true (length (resolved (course_of p)).diary) DIARY_ENTRIES t))
    by_test false t e = cc
