-- A replay, and what its steps come to.
use Rattle.std.proofs.Common.{◌≡◌, sym, ◌∙◌, ap, subst, ℕ, suc, ◌+◌, ◌<◌, ◌≤◌, List, [], ◌∷◌, ◌++◌, Option, Some, None, ℤ, Bool, true, false, arith, length, w64, to_z, of_z}
use Rattle.std.specs.Prelude.{cond, filter, pos, nat_abs, int_le, ◌≤ℤ◌, ◌<ℤ◌, option_map}
use Rattle.std.specs.Int.{int_max}
use Rattle.std.specs.Int.Signed.{lt_z}
use Rattle.std.proofs.lemmas.Int.{ints, to_z-of_z}
use Rattle.std.specs.declared.vec.Vec.{Vec}
use Rattle.std.specs.declared.alloc.Global.{Global}
use Rattle.smil_model.specs.declared.diary.Entry.{Entry}
use Rattle.smil_model.specs.declared.diary.LogEntry.{LogEntry}
use Rattle.smil_model.specs.declared.diary.Step.{Step}
use Rattle.smil_model.specs.declared.diary.Step.TheVariants.{Began, Repeated, Ended, Cut, Paused, Resumed, Deferred, Passed, Logged}
use Rattle.smil_model.specs.declared.times.TheConstants.{HORIZON}
use Rattle.smil_model.specs.document.Valid.{IsNumberedTree}
use Rattle.smil_model.specs.diary.Diary.{History}
use Rattle.smil_model.specs.diary.Lawful.{IsLawful}
use Rattle.smil_model.specs.diary.Clocks.{until}
use Rattle.smil_model.specs.happening.Groups.{at_moment, group, steps_of}
use Rattle.smil_model.specs.happening.Keys.{DueChange, first_coming, is_due}
use Rattle.smil_model.specs.happening.Resolution.{Course, Progress, history_at, next_step}
use Rattle.smil_model.proofs.NumberOrders.{is_le}
use Rattle.smil_laws.specs.Courses.{ReachedIsPast}
use Rattle.smil_laws.specs.Cut.{IsNamedBelow, NamesBelow, is_logged, logged}
use Rattle.smil_laws.specs.Near.{AllNear, ResolvedIsNear}
use Rattle.smil_laws.specs.Quiet.{QuietMayBeJumped}
use Rattle.smil_laws.specs.Same.{TimePassesQuietly}
use Rattle.smil_laws.proofs.GroupEntries.{group_filled}
use Rattle.smil_laws.proofs.NumberedTrees.{ordered}
use Rattle.smil_laws.proofs.ResolvedSteps.{resolved_lawful}
use Rattle.smil_past.specs.Past as past_of
use Rattle.smil_element.specs.declared.happening.change.DueChange.{DueChange as AnyDueChange}
use Rattle.smil_element.specs.Comings.{coming_stays}
use Rattle.smil_element.specs.Parts.{coming_meant}
use Rattle.smil_rounds.specs.Appended.{MayAppendAll}
use Rattle.smil_rounds.proofs.GroupMayFollow.{all_may}
use Rattle.smil_rounds.proofs.MomentEntries.{fits, positive}
use Rattle.smil_rounds.proofs.HeardLogEntries.{heeded}
use Rattle.smil_rounds.proofs.MomentEntries.{over}
use Rattle.smil_audit.specs.declared.replay.Replay.{Replay}
use Rattle.smil_audit.specs.declared.replay.Went.{Went}
use Rattle.smil_audit.specs.declared.replay.Went.TheVariants.{On, Off, Ended as Over}
use Rattle.smil_audit.specs.Replayed.{Follows, IsLastOr, IsLate, IsPassed, IsQuietUntil, IsUntil, NothingDue, Replayed, at_moment as moved_on, course_of, first_at, next_logged, with_progress}
use Rattle.smil_audit.specs.Steps.{IsReplay, MayTakeIn, WentBy, replayed}
use Rattle.smil_audit.proofs.ReplaySteps.{differs_before, later, quiet_first, quiet_until}
use Rattle.smil_audit.proofs.ResolutionSteps.{ended_step, group_step, heard_step, reached_next}

-- ---- numbers

pub between : (a b c : ℤ) → a ≤ℤ b → b ≤ℤ c → a ≤ℤ c
between a b c p q = omega (arith, ints, p, q)

pub less_le : (a b : ℤ) → a <ℤ b → a ≤ℤ b
less_le a b p = omega (arith, ints, p)

pub not_le : (a b : ℤ) → b <ℤ a → int_le a b ≡ false
not_le a b p = grind (arith, ints)

max_from : (a b m : ℤ) → m ≡ int_max a b → b ≤ℤ m
max_from a b m e = grind (arith, ints)

max_over : (a b m : ℤ) → m ≡ int_max a b → a ≤ℤ m
max_over a b m e = grind (arith, ints)

max_within : (a b c m : ℤ) → m ≡ int_max a b → a <ℤ c → b ≤ℤ c → m ≤ℤ c
max_within a b c m e p q = grind (arith, ints)

max_first : (a b m : ℤ) → m ≡ int_max a b → b <ℤ m → m ≤ℤ a
max_first a b m e p = grind (arith, ints)

pub same_moment : (a b : ℤ) → a ≤ℤ b → b ≤ℤ a → a ≡ b
same_moment a b p q = grind (arith, ints)

-- what a test of two moments tells
pub test_less : (a b x y : ℤ) → x ≡ a → y ≡ b → lt_z x y ≡ true → a <ℤ b
test_less a b x y p q t =
    let h : lt_z a b ≡ true = subst (λ (z : ℤ). lt_z z b ≡ true) p (subst (λ (z : ℤ). lt_z x z ≡ true) q t) in grind (arith, ints)

pub test_not : (a b x y : ℤ) → x ≡ a → y ≡ b → lt_z x y ≡ false → b ≤ℤ a
test_not a b x y p q t =
    let h : lt_z a b ≡ false = subst (λ (z : ℤ). lt_z z b ≡ false) p (subst (λ (z : ℤ). lt_z x z ≡ false) q t) in grind (arith, ints)

pub le_own : (a : ℤ) → a ≤ℤ a
le_own a = grind (arith, ints)

-- ---- a replay

module _ (r : Replay) (is : IsReplay r) where
  pub whole : r.moment ≡ pos (nat_abs r.moment)
  whole = positive r.moment is.from

  pub last_whole : r.last ≡ pos (nat_abs r.last)
  last_whole = positive r.last (between (pos 0) r.moment r.last is.from is.within)

  pub last_near : pos (nat_abs r.last) ≤ℤ HORIZON
  last_near = subst (λ (z : ℤ). z ≤ℤ HORIZON) last_whole is.horizon

  -- a moment from the present one to the last one fits
  pub kept_whole : (v : ℤ) → r.moment ≤ℤ v → v ≤ℤ r.last → to_z w64 (of_z w64 v) ≡ v
  kept_whole v from within = to_z-of_z w64 v (fits v (between (pos 0) r.moment v is.from from) (between v r.last HORIZON within is.horizon))

  pub own_whole : to_z w64 (of_z w64 r.moment) ≡ r.moment
  own_whole = kept_whole r.moment (le_own r.moment) is.within

  pub last_fits : to_z w64 (of_z w64 r.last) ≡ r.last
  last_fits = kept_whole r.last is.within (le_own r.last)

  pub from_is : (v : ℤ) → pos (nat_abs r.moment) ≤ℤ v → r.moment ≤ℤ v
  from_is v = subst (λ (z : ℤ). z ≤ℤ v) (sym whole)

  pub within_is : (v : ℤ) → v ≤ℤ pos (nat_abs r.last) → v ≤ℤ r.last
  within_is v = subst (λ (z : ℤ). v ≤ℤ z) (sym last_whole)

  pub until_whole : (v : ℤ) → IsUntil (replayed r) v → to_z w64 (of_z w64 v) ≡ v
  until_whole v u = kept_whole v (from_is v u.from) (within_is v u.within)

  -- ---- up to which nothing is logged

  pub until_some : (entry : LogEntry) → next_logged (replayed r) ≡ Some entry → entry.moment <ℤ r.last → (m : ℤ) → m ≡ int_max entry.moment r.moment → IsUntil (replayed r) m
  until_some entry there before m max = record {
    from = subst (λ (z : ℤ). z ≤ℤ m) whole (max_from entry.moment r.moment m max);
    within = subst (λ (z : ℤ). m ≤ℤ z) last_whole (max_within entry.moment r.moment r.last m max before is.within);
    quiet = λ e here less.
        let one : entry ≡ e = cc in
        subst (λ (x : LogEntry). m ≤ℤ x.moment) one (max_first entry.moment r.moment m max (subst (λ (z : ℤ). z <ℤ m) (sym whole) less));
    edge = subst (λ (o : Option LogEntry). IsLastOr (nat_abs r.last) m o) (sym there)
        (λ late. let never : false ≡ true = sym late ∙ is_le entry.moment m (max_over entry.moment r.moment m max) in cc);
  }

  -- ---- time passes

  abbrev pub moved : ℤ → Replay
  moved v = record { past = r.past; moment = v; heard = r.heard; last = r.last; known = r.known; keys = r.keys; group = r.group; room = r.room }

  past_now : until (pos (nat_abs r.moment)) r.past.diary ≡ r.past.diary
  past_now = subst (λ (z : ℤ). until z r.past.diary ≡ r.past.diary) whole is.present.past_is

  module _ (jump : QuietMayBeJumped) (quietly : TimePassesQuietly) (is_past : ReachedIsPast) (numbered : IsNumberedTree r.past.document) where
    by_number : (n : ℕ) → pos (nat_abs r.moment + n) ≤ℤ r.last → IsQuietUntil (replayed r) (pos (nat_abs r.moment + n)) → IsReplay (moved (pos (nat_abs r.moment + n)))
    by_number n within quiet =
        let a = nat_abs r.moment in
        let most : pos (a + n) ≤ℤ pos (nat_abs r.last) = subst (λ (z : ℤ). pos (a + n) ≤ℤ z) last_whole within in
        let reached = later jump (replayed r) n (ordered r.past.document numbered).first past_now is.reached quiet (omega (arith, ints, most)) in
        record {
          present = record {
            past_is = (is_past r.past.document r.past.log (nat_abs r.last) (moved_on (replayed r) (a + n)).at reached).entries;
            from = omega (arith, ints);
            within = between (pos (a + n)) r.last HORIZON within is.horizon;
          };
          from = omega (arith, ints);
          within = within;
          horizon = is.horizon;
          reached = reached;
          of_elements = is.of_elements;
        }

    pub passed : (v : ℤ) → r.moment ≤ℤ v → v ≤ℤ r.last → IsQuietUntil (replayed r) v → IsReplay (moved v)
    passed v from within quiet = by_start (over (nat_abs r.moment) v (subst (λ (z : ℤ). z ≤ℤ v) whole from))
      where
        by_start : (n : ℕ) × (v ≡ pos (nat_abs r.moment + n)) → IsReplay (moved v)
        by_start (n, e) =
            subst (λ (z : ℤ). IsReplay (moved z)) (sym e)
            (by_number n (subst (λ (z : ℤ). z ≤ℤ r.last) e within) (subst (λ (z : ℤ). IsQuietUntil (replayed r) z) e quiet))

    pub first_stays : (v : ℤ) → r.moment ≤ℤ v → first_at (replayed (moved v)) ≡ first_at (replayed r)
    first_stays v from = by_start (over (nat_abs r.moment) v (subst (λ (z : ℤ). z ≤ℤ v) whole from))
      where
        h : History
        h = past_of.history_of r.past

        by_start : (n : ℕ) × (v ≡ pos (nat_abs r.moment + n)) → first_at (replayed (moved v)) ≡ first_at (replayed r)
        by_start (n, e) =
            let a = nat_abs r.moment in
            subst (λ (z : ℤ). first_at (replayed (moved z)) ≡ first_at (replayed r)) (sym e)
            (ap first_coming (coming_stays h h (pos a) (pos (a + n)) (quietly h a n (ordered r.past.document numbered).first past_now)))

  -- nothing is logged or comes before what comes first
  pub quiet_to : (v : ℤ) → IsUntil (replayed r) v → (next : DueChange) → first_at (replayed r) ≡ Some next → next.key.value ≤ℤ v → r.moment <ℤ next.key.value → IsQuietUntil (replayed r) next.key.value
  quiet_to v u next first due less = quiet_first (replayed r) v u next first due (subst (λ (z : ℤ). z <ℤ next.key.value) whole less)

  -- nor up to a moment before all that comes
  pub quiet_for : (v : ℤ) → IsUntil (replayed r) v → IsLate (first_at (replayed r)) v → r.moment <ℤ v → IsQuietUntil (replayed r) v
  quiet_for v u late less =
      quiet_until (replayed r) v u
      (λ x e. less_le v x.key.value (subst (λ (o : Option DueChange). IsLate o v) e late))
      (subst (λ (z : ℤ). z <ℤ v) whole less)

  -- ---- a step

  module _ (near : ResolvedIsNear) (is_past : ReachedIsPast) (numbered : IsNumberedTree r.past.document) where
    abbrev course : Course
    course = course_of (replayed r)

    abbrev then : ℕ → List Entry → Progress
    then heard entries = record { moment = nat_abs r.moment; heard = heard; diary = r.past.diary ++ entries }

    named_more : (a b : ℕ) → a ≤ b → (s : Step) → IsNamedBelow a s → IsNamedBelow b s
    named_more a b le (Began s v) n = tt
    named_more a b le (Repeated s v) n = tt
    named_more a b le (Ended s v) n = tt
    named_more a b le (Cut s) n = tt
    named_more a b le (Paused s) n = tt
    named_more a b le (Resumed s) n = tt
    named_more a b le (Deferred s v) n = tt
    named_more a b le (Passed s v) n = tt
    named_more a b le (Logged s) n = omega (arith, le, n)

    names_more : (a b : ℕ) → a ≤ b → (d : List Entry) → NamesBelow a d → NamesBelow b d
    names_more a b le [] all = tt
    names_more a b le (x ∷ xs) all = (named_more a b le x.step all.0, names_more a b le xs all.1)

    may_append : (heard : ℕ) (steps : List Step) → next_step course (replayed r).at ≡ Some (then heard (at_moment r.moment steps)) → MayAppendAll r.past (at_moment r.moment steps)
    may_append heard steps step =
        let q = then heard (at_moment r.moment steps) in
        let reached = reached_next course (replayed r).at is.reached q step in
        all_may r.past r.moment steps
        (subst (λ (x : Progress). IsLawful (history_at course x)) reached.1 (resolved_lawful r.past.document r.past.log (nat_abs r.last) reached.0 numbered last_near))
        (subst (λ (x : Progress). AllNear x.diary) reached.1 (near r.past.document r.past.log (nat_abs r.last) reached.0 last_near))
        (names_more heard (length r.past.log) (heeded course q reached).within q.diary (is_past r.past.document r.past.log (nat_abs r.last) q reached).named)

    pub may_take : (heard : ℕ) (steps : List Step) → r.group.items ≡ at_moment r.moment steps → 0 < length r.group.items → next_step course (replayed r).at ≡ Some (then heard r.group.items) → MayTakeIn r heard
    may_take heard steps are filled step = record {
      step = step;
      filled = filled;
      may = subst (λ (l : List Entry). MayAppendAll r.past l) (sym are)
          (may_append heard steps (subst (λ (l : List Entry). next_step course (replayed r).at ≡ Some (then heard l)) are step));
      steps = steps;
      steps_are = are;
    }

    -- what comes first happens
    pub group_may : (next : DueChange) → first_at (replayed r) ≡ Some next → next.key.value ≤ℤ r.moment → r.group.items ≡ group (past_of.history_of r.past) r.moment next.key.serial next.change → MayTakeIn r r.heard
    group_may next first due is_group =
        let h = past_of.history_of r.past in
        let now : r.group.items ≡ group h (pos (nat_abs r.moment)) next.key.serial next.change = is_group ∙ ap (λ (z : ℤ). group h z next.key.serial next.change) whole in
        may_take r.heard (steps_of h r.moment next.key.serial next.change) is_group
        (subst (λ (l : List Entry). 0 < length l) (sym now) (group_filled h (pos (nat_abs r.moment)) next.key.serial next.change))
        (group_step course (replayed r).at next first (is_le next.key.value (pos (nat_abs r.moment)) (subst (λ (z : ℤ). next.key.value ≤ℤ z) whole due))
        ∙ ap (λ (l : List Entry). Some (then r.heard l)) (sym now))

    not_due : NothingDue (replayed r) → (x : DueChange) → first_at (replayed r) ≡ Some x → is_due (pos (nat_abs r.moment)) x.key ≡ false
    not_due none x e = not_le x.key.value (pos (nat_abs r.moment)) (subst (λ (o : Option DueChange). IsLate o (pos (nat_abs r.moment))) e none)

    -- the next log entry is heard
    pub heard_may : (entry : LogEntry) → NothingDue (replayed r) → next_logged (replayed r) ≡ Some entry → entry.moment ≤ℤ r.moment → r.group.items ≡ at_moment r.moment (Logged r.heard ∷ []) → MayTakeIn r (r.heard + 1)
    heard_may entry none there now is_logged =
        let one : r.group.items ≡ at_moment (pos (nat_abs r.moment)) (Logged r.heard ∷ []) = is_logged ∙ ap (λ (z : ℤ). at_moment z (Logged r.heard ∷ [])) whole in
        let next : suc r.heard ≡ r.heard + 1 = omega arith in
        subst (λ (n : ℕ). MayTakeIn r n) next
        (may_take (suc r.heard) (Logged r.heard ∷ []) is_logged
        (subst (λ (l : List Entry). 0 < length l) (sym is_logged) (omega arith))
        (heard_step course (replayed r).at entry (not_due none) there (is_le entry.moment (pos (nat_abs r.moment)) (subst (λ (z : ℤ). entry.moment ≤ℤ z) whole now))
        ∙ ap (λ (l : List Entry). Some (then (suc r.heard) l)) (sym one)))

    -- nothing is left
    pub ended_now : NothingDue (replayed r) → ((entry : LogEntry) → next_logged (replayed r) ≡ Some entry → r.moment <ℤ entry.moment) → r.moment ≡ r.last → next_step course (replayed r).at ≡ None
    ended_now none later last =
        ended_step course (replayed r).at (not_due none)
        (λ entry e. not_le entry.moment (pos (nat_abs r.moment)) (subst (λ (z : ℤ). z <ℤ entry.moment) whole (later entry e)))
        (ap nat_abs last)

-- ---- what was heard

logged_within : (d : List Entry) → logged d ≤ length d
logged_within [] = omega arith
logged_within (x ∷ xs) = by_test (is_logged x.step) (logged_within xs)
  where
    by_test : (t : Bool) → logged xs ≤ length xs → length (cond t (x ∷ filter (λ (y : Entry). is_logged y.step) xs) (filter (λ (y : Entry). is_logged y.step) xs)) ≤ suc (length xs)
    by_test true le = omega (arith, le)
    by_test false le = omega (arith, le)

pub heard_few : (r : Replay) → IsReplay r → ReachedIsPast → (n : ℕ) → length r.past.diary ≤ n → r.heard ≤ n
heard_few r is is_past n few =
    let count = (is_past r.past.document r.past.log (nat_abs r.last) (replayed r).at is.reached).count in
    let within = logged_within r.past.diary in
    omega (arith, count, within, few)

-- ---- what a step came to, told of the replay before time passed

pub went_from : (old mid new : Replayed) (given : List Entry) (w : Went) → IsPassed old mid → WentBy mid new given w → WentBy old new given w
went_from old mid new given On passed went = record {
  same = went.same ∙ ap (λ (r : Replayed). with_progress r new.at) passed.same;
  follows = went.follows;
  more = subst (λ (d : List Entry). length d < length new.at.diary) passed.diary_is went.more;
  within = went.within;
}
went_from old mid new given (Off index) passed went = differs_before old mid given index passed.same went
went_from old mid new given Over passed went = record {
  same = went.same ∙ ap (λ (r : Replayed). with_progress r new.at) passed.same;
  diary_is = went.diary_is ∙ passed.diary_is;
  ended = went.ended;
}

pub follows_from : (old mid : Replayed) (given : List Entry) → IsPassed old mid → Follows old given → Follows mid given
follows_from old mid given passed follows = subst (λ (d : List Entry). Follows (with_progress old (record { moment = old.at.moment; heard = old.at.heard; diary = d })) given) (sym passed.diary_is) follows

-- what comes first, as the program has it
pub meant_first : (first : Option AnyDueChange) (o : Option DueChange) (coming : AnyDueChange) → option_map coming_meant first ≡ o → first ≡ Some coming → o ≡ Some (coming_meant coming)
meant_first first o coming is some = sym is ∙ ap (option_map coming_meant) some

-- ---- another group at hand

abbrev pub with_group : Replay → Vec Entry Global → Replay
with_group r entries = record { past = r.past; moment = r.moment; heard = r.heard; last = r.last; known = r.known; keys = r.keys; group = entries; room = r.room }

pub regrouped : (r : Replay) → IsReplay r → (entries : Vec Entry Global) → IsReplay (with_group r entries)
regrouped r is entries = record {
  present = is.present;
  from = is.from;
  within = is.within;
  horizon = is.horizon;
  reached = is.reached;
  of_elements = is.of_elements;
}
