-- What a settled diary tells of its resolution: it has ended, at its last moment, and whatever was
-- logged by then was heard.
use Rattle.std.proofs.Common.{◌≡◌, refl, sym, ◌∙◌, subst, ℕ, suc, zero, ◌<◌, ◌≤◌, ◌+◌, List, [], ◌∷◌, ◌++◌, Option, Some, None, Bool, true, false, ℤ, arith, inl, inr, length}
use Rattle.std.specs.Prelude.{◌⊎◌, cond, pos, int_le, nat_lt, nat_le, slice_get, ◌≤ℤ◌, ◌+ℤ◌, ◌&&◌}
use Rattle.std.proofs.lemmas.Bool.{leb-true}
use Rattle.std.proofs.lemmas.Int.{ints}
use Rattle.smil_model.specs.declared.diary.Entry.{Entry}
use Rattle.smil_model.specs.declared.diary.LogEntry.{LogEntry}
use Rattle.smil_model.specs.declared.diary.Step.TheVariants.{Logged}
use Rattle.smil_model.specs.declared.limits.TheConstants.{DIARY_ENTRIES}
use Rattle.smil_model.specs.diary.Logs.{is_logged_by}
use Rattle.smil_model.specs.happening.Keys.{DueChange, coming, first_coming, is_due}
use Rattle.smil_model.specs.happening.Groups.{group}
use Rattle.smil_model.specs.happening.Resolution.{Course, Progress, outset, history_at, after_quiet, after_settling, after_coming, next_step, after_steps, Reaches, resolved, diary_of}
use Rattle.smil_laws.specs.Courses.{heard_by}
use Rattle.smil_laws.proofs.ResolutionEnds.{Comes, comes, extent}

-- no step passes the last moment
pub comes_within : (c : Course) (k : ℕ) → (after_steps c k outset).moment ≤ c.last
comes_within c k = (comes c k outset).within (omega arith)

-- ---- a resolution that has ended

-- it has come to its last moment, nothing is due there, and what was logged by then was heard
record Rests (c : Course) (p : Progress) : Type 0 where
  ended : next_step c p ≡ None
  within : p.moment ≤ c.last
  heard : p.heard ≤ length c.log

rests : (c : Course) (p : Progress) (most steps : ℕ) → most + c.last < steps → after_steps c steps outset ≡ p → length p.diary ≤ most → Rests c p
rests c p most steps enough e few = by_far one.far
  where
    one : Comes c steps outset p
    one = rw (← e) (comes c steps outset)

    by_far : (next_step c p ≡ None) ⊎ (steps + extent outset ≤ extent p) → Rests c p
    by_far (inl ended) = record { ended = ended; within = one.within (omega arith); heard = one.heard (omega arith) }
    by_far (inr far) = let bound = one.within (omega arith) in absurd (omega (arith, far, bound, few, enough))

module _ (c : Course) (p : Progress) where
  abbrev passed : Progress
  passed = record { moment = suc p.moment; heard = p.heard; diary = p.diary }

  abbrev hears : Progress
  hears = record { moment = p.moment; heard = suc p.heard; diary = p.diary ++ record { moment = pos p.moment; step = Logged p.heard } ∷ [] }

  abbrev happens : DueChange → Progress
  happens x = record { moment = p.moment; heard = p.heard; diary = p.diary ++ group (history_at c p) (pos p.moment) x.key.serial x.change }

  record Silent : Type 0 where
    moment : c.last ≤ p.moment
    log : (entry : LogEntry) → slice_get c.log p.heard ≡ Some entry → int_le entry.moment (pos p.moment) ≡ false

  silent_moment : after_quiet c p ≡ None → c.last ≤ p.moment
  silent_moment e = by_test (nat_lt p.moment c.last) refl e
    where
      by_test : (t : Bool) → nat_lt p.moment c.last ≡ t → cond t (Some passed) None ≡ None → c.last ≤ p.moment
      by_test true t e = cc
      by_test false t e = grind arith

  silent_log : (o : Option LogEntry) → slice_get c.log p.heard ≡ o → after_settling c p o ≡ None → Silent
  silent_log None f e = record { moment = silent_moment e; log = λ entry g. let never : None ≡ Some entry = sym f ∙ g in cc }
  silent_log (Some x) f e = by_test (int_le x.moment (pos p.moment)) refl e
    where
      by_test : (t : Bool) → int_le x.moment (pos p.moment) ≡ t → cond t (Some hears) (after_quiet c p) ≡ None → Silent
      by_test true t e = cc
      by_test false t e = record {
        moment = silent_moment e;
        log = λ entry g. let same : Some x ≡ Some entry = sym f ∙ g in let one : x ≡ entry = cc in rw (← one) t;
      }

  record Still : Type 0 where
    silent : Silent
    coming : (next : DueChange) → first_coming (coming (history_at c p) (pos p.moment)) ≡ Some next → is_due (pos p.moment) next.key ≡ false

  still : next_step c p ≡ None → Still
  still ended = by_coming (first_coming (coming (history_at c p) (pos p.moment))) refl ended
    where
      by_coming : (o : Option DueChange) → first_coming (coming (history_at c p) (pos p.moment)) ≡ o → after_coming c p o ≡ None → Still
      by_coming None f e = record { silent = silent_log (slice_get c.log p.heard) refl e; coming = λ next g. let never : None ≡ Some next = sym f ∙ g in cc }
      by_coming (Some x) f e = by_test (is_due (pos p.moment) x.key) refl e
        where
          by_test : (t : Bool) → is_due (pos p.moment) x.key ≡ t → cond t (Some (happens x)) (after_settling c p (slice_get c.log p.heard)) ≡ None → Still
          by_test true t e = cc
          by_test false t e = record {
            silent = silent_log (slice_get c.log p.heard) refl e;
            coming = λ next g. let same : Some x ≡ Some next = sym f ∙ g in let one : x ≡ next = cc in rw (← one) t;
          }

-- ---- a settled diary

only_diary : (r : Progress) (most : ℕ) (d : List Entry) → cond (nat_le (length r.diary) most) (Some r.diary) None ≡ Some d → (r.diary ≡ d) × (length r.diary ≤ most)
only_diary r most d e = by_test (nat_le (length r.diary) most) refl e
  where
    by_test : (t : Bool) → nat_le (length r.diary) most ≡ t → cond t (Some r.diary) None ≡ Some d → (r.diary ≡ d) × (length r.diary ≤ most)
    by_test true t e = let same : r.diary ≡ d = cc in (same, leb-true (length r.diary) most t)
    by_test false t e = cc

-- a diary that a course has is that of its resolution
pub diary_is : (c : Course) (d : List Entry) → diary_of c ≡ Some d → (resolved c).diary ≡ d
diary_is c d e = (only_diary (resolved c) DIARY_ENTRIES d e).0

pub diary_few : (c : Course) (d : List Entry) → diary_of c ≡ Some d → length d ≤ DIARY_ENTRIES
diary_few c d e =
    let both = only_diary (resolved c) DIARY_ENTRIES d e in
    subst (λ (x : List Entry). length x ≤ DIARY_ENTRIES) both.0 both.1

-- the resolution of a course that has a diary has ended
pub record IsEnded (c : Course) (d : List Entry) : Type 0 where
  pub few : length d ≤ DIARY_ENTRIES
  pub at : Progress
  pub reached : Reaches c at
  pub moment_is : at.moment ≡ c.last
  pub diary_is : at.diary ≡ d
  pub ended : next_step c at ≡ None
  pub heard : at.heard ≤ length c.log
  pub unheard : (entry : LogEntry) → slice_get c.log at.heard ≡ Some entry → int_le entry.moment (pos c.last) ≡ false
  pub coming : (next : DueChange) → first_coming (coming (history_at c at) (pos c.last)) ≡ Some next → is_due (pos c.last) next.key ≡ false

made : (c : Course) (p : Progress) (d : List Entry) → Reaches c p → Rests c p → p.diary ≡ d → length p.diary ≤ DIARY_ENTRIES → IsEnded c d
made c p d reached rest same few =
    let quiet = still c p rest.ended in
    let there : p.moment ≡ c.last = let l = quiet.silent.moment in let m = rest.within in omega (arith, l, m) in
    record {
      few = subst (λ (x : List Entry). length x ≤ DIARY_ENTRIES) same few;
      at = p;
      reached = reached;
      moment_is = there;
      diary_is = same;
      ended = rest.ended;
      heard = rest.heard;
      unheard = subst (λ (m : ℕ). (entry : LogEntry) → slice_get c.log p.heard ≡ Some entry → int_le entry.moment (pos m) ≡ false) there quiet.silent.log;
      coming = subst (λ (m : ℕ). (next : DueChange) → first_coming (coming (history_at c p) (pos m)) ≡ Some next → is_due (pos m) next.key ≡ false) there quiet.coming;
    }

pub has_ended : (c : Course) (d : List Entry) → diary_of c ≡ Some d → IsEnded c d
has_ended c d e =
    let both = only_diary (resolved c) DIARY_ENTRIES d e in
    made c (resolved c) d (suc (DIARY_ENTRIES + c.last), refl)
    (rests c (resolved c) DIARY_ENTRIES (suc (DIARY_ENTRIES + c.last)) (omega arith) refl both.1) both.0 both.1

-- nothing comes up to the last moment
pub nothing_due : (c : Course) (d : List Entry) → diary_of c ≡ Some d → (next : DueChange) → first_coming (coming (record { nodes = c.nodes; log = c.log; diary = d }) (pos c.last)) ≡ Some next → (pos c.last +ℤ pos 1) ≤ℤ next.key.value
nothing_due c d e next f =
    let end = has_ended c d e in
    after (pos c.last) next.key.value
    (end.coming next (subst (λ (x : List Entry). first_coming (coming (record { nodes = c.nodes; log = c.log; diary = x }) (pos c.last)) ≡ Some next) (sym end.diary_is) f))
  where
    after : (y z : ℤ) → int_le z y ≡ false → (y +ℤ pos 1) ≤ℤ z
    after y z q = grind (arith, ints)

-- where no log entry is later than the last moment, the whole log was heard
none_left : (m : ℤ) (log : List LogEntry) (i : ℕ) → is_logged_by m log ≡ true → ((entry : LogEntry) → slice_get log i ≡ Some entry → int_le entry.moment m ≡ false) → length log ≤ i
none_left m [] i all none = omega arith
none_left m (x ∷ xs) i all none = by_place i none (none_left m xs)
  where
    left : (s t : Bool) → s && t ≡ true → s ≡ true
    left true t p = cc
    left false t p = p

    right : (s t : Bool) → s && t ≡ true → t ≡ true
    right true t p = p
    right false t p = cc

    by_place : (i : ℕ) → ((entry : LogEntry) → slice_get (x ∷ xs) i ≡ Some entry → int_le entry.moment m ≡ false) → ((j : ℕ) → is_logged_by m xs ≡ true → ((entry : LogEntry) → slice_get xs j ≡ Some entry → int_le entry.moment m ≡ false) → length xs ≤ j) → length (x ∷ xs) ≤ i
    by_place zero none later = let yes = left (int_le x.moment m) (is_logged_by m xs) all in let no = none x refl in let never : true ≡ false = sym yes ∙ no in cc
    by_place (suc j) none later = let rest = later j (right (int_le x.moment m) (is_logged_by m xs) all) none in omega (arith, rest)

-- so the course comes to the whole log heard, at its last moment
pub comes_to : (c : Course) (d : List Entry) → is_logged_by (pos c.last) c.log ≡ true → diary_of c ≡ Some d → Reaches c (heard_by c.log d c.last)
comes_to c d logged e =
    let end = has_ended c d e in
    let least = none_left (pos c.last) c.log end.at.heard logged end.unheard in
    let most = end.heard in
    let all : end.at.heard ≡ length c.log = omega (arith, least, most) in
    subst (λ (x : Progress). Reaches c x) (built end.at c.last (length c.log) d end.moment_is all end.diary_is) end.reached
  where
    built : (p : Progress) (m h : ℕ) (d : List Entry) → p.moment ≡ m → p.heard ≡ h → p.diary ≡ d → p ≡ record { moment = m; heard = h; diary = d }
    built p m h d f g k =
        subst (λ (x : List Entry). p ≡ record { moment = m; heard = h; diary = x }) k
        (subst (λ (x : ℕ). p ≡ record { moment = m; heard = x; diary = p.diary }) g
        (subst (λ (x : ℕ). p ≡ record { moment = x; heard = p.heard; diary = p.diary }) f refl))
