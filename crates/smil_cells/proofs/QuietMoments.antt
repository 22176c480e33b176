-- Cells at a later moment, before which nothing comes.
use Rattle.std.proofs.Common.{◌≡◌, refl, sym, ◌∙◌, ap, subst, ℕ, suc, ◌+◌, ◌≤◌, List, [], ◌∷◌, ◌++◌, Option, None, Some, ℤ, Bool, true, false, arith, length}
use Rattle.std.specs.Prelude.{pos, nat_abs, int_le, ◌≤ℤ◌, cond, ◌+ℤ◌, nat_lt, slice_get}
use Rattle.std.proofs.lemmas.Int.{ints}
use Rattle.smil_model.specs.declared.times.TheConstants.{HORIZON}
use Rattle.smil_model.specs.declared.diary.LogEntry.{LogEntry}
use Rattle.smil_model.specs.diary.Diary.{History}
use Rattle.smil_model.specs.diary.Logs.{is_logged_by}
use Rattle.smil_model.specs.happening.Keys.{DueChange, first_coming, is_due}
use Rattle.smil_model.specs.happening.Resolution.{Course, Progress, history_at, after_quiet, after_settling, after_coming}
use Rattle.smil_model.specs.happening.Groups.{group}
use Rattle.smil_laws.specs.Courses.{EndedIsDiary}
use Rattle.smil_model.specs.declared.limits.TheConstants.{DIARY_ENTRIES}
use Rattle.std.proofs.lemmas.Option.{slice_get_past}
use Rattle.smil_laws.specs.Agreement.{course_on}
use Rattle.smil_laws.proofs.NumberedTrees.{ordered}
use Rattle.smil_diary.specs.declared.fault.BookFault.{BookFault}
use Rattle.smil_laws.specs.Same.{IsSame, TimePassesQuietly}
use Rattle.smil_laws.specs.Courses.{ReachedIsPast}
use Rattle.smil_laws.specs.Courses.{ReachesOverQuiet}
use Rattle.smil_past.specs.Past.{MarkedHistory}
use Rattle.smil_rounds.proofs.MomentEntries.{over}
use Rattle.smil_cells.specs.CellsState.{IsSettled, NothingBefore, first_at, history_of}
use Rattle.smil_cells.specs.Standings.{IsSoundUnderMark, standing_of}
use Rattle.std.proofs.lemmas.Bool.{and_from, and_parts}
use Rattle.smil_model.proofs.NumberOrders.{is_le}
use Rattle.smil_element.specs.Comings.{coming_stays}

-- ---- numbers

later : (a n : ℕ) (x : ℤ) → int_le x (pos a) ≡ true → int_le x (pos (a + n)) ≡ true
later a n x q = grind (arith, ints)

logged_later : (a n : ℕ) (log : List LogEntry) → is_logged_by (pos a) log ≡ true → is_logged_by (pos (a + n)) log ≡ true
logged_later a n [] q = q
logged_later a n (x ∷ xs) q =
    and_from (int_le x.moment (pos (a + n))) (is_logged_by (pos (a + n)) xs)
    (later a n x.moment (and_parts (int_le x.moment (pos a)) (is_logged_by (pos a) xs) q).0)
    (logged_later a n xs (and_parts (int_le x.moment (pos a)) (is_logged_by (pos a) xs) q).1)

-- ---- a resolution that rests

not_due : (a : ℕ) (v x : ℤ) → v ≡ pos a → (v +ℤ pos 1) ≤ℤ x → int_le x (pos a) ≡ false
not_due a v x e l = subst (λ (z : ℤ). (z +ℤ pos 1) ≤ℤ x → int_le x (pos a) ≡ false) (sym e) (λ q. after (pos a) x q) l
  where
    after : (y z : ℤ) → (y +ℤ pos 1) ≤ℤ z → int_le z y ≡ false
    after y z q = grind (arith, ints)

module _ (c : Course) (p : Progress) (heard : slice_get c.log p.heard ≡ None) (last : c.last ≡ p.moment) where
  no_later : after_quiet c p ≡ None
  no_later = rw last (by_test (nat_lt p.moment p.moment) (irreflexive p.moment) (Some (record { moment = suc p.moment; heard = p.heard; diary = p.diary })))
    where
      irreflexive : (n : ℕ) → nat_lt n n ≡ false
      irreflexive n = grind arith

      by_test : (b : Bool) → b ≡ false → (x : Option Progress) → cond b x None ≡ None
      by_test true e x = cc
      by_test false e x = refl

  unheard : after_settling c p (slice_get c.log p.heard) ≡ None
  unheard = ap (λ (x : Option LogEntry). after_settling c p x) heard ∙ no_later

  pub rests : (f : Option DueChange) → ((x : DueChange) → f ≡ Some x → is_due (pos p.moment) x.key ≡ false) → after_coming c p f ≡ None
  rests None none = unheard
  rests (Some x) none = by_test (is_due (pos p.moment) x.key) (none x refl) (Some (record { moment = p.moment; heard = p.heard; diary = p.diary ++ group (history_at c p) (pos p.moment) x.key.serial x.change }))
    where
      by_test : (b : Bool) → b ≡ false → (y : Option Progress) → cond b y (after_settling c p (slice_get c.log p.heard)) ≡ None
      by_test true e y = cc
      by_test false e y = unheard

-- ---- the cells

module _ (is_current is_marked : History → ℤ → Type 0) (has_mark : Bool) (past : MarkedHistory) (fault : Option BookFault) (mark : Option ℤ) (touched : List ℕ) where
  abbrev At : ℤ → Type 0
  At m = IsSoundUnderMark is_current is_marked has_mark past m fault mark touched

  module _ (quietly : TimePassesQuietly) (jump : ReachesOverQuiet) (is_past : ReachedIsPast) (stays : (h k : History) (m n : ℤ) → IsSame h m k n → is_current h m → is_current k n) (sound : fault ≡ None) where
    passed_by : (a n : ℕ) → pos (a + n) ≤ℤ HORIZON → NothingBefore (standing_of past (pos a) fault mark touched) (pos (a + n)) → At (pos a) → At (pos (a + n))
    passed_by a n within quiet kept =
        let was = kept.sound sound in
        let numbered = was.state.document.numbered in
        let h : History = record { nodes = past.document.nodes; log = past.log; diary = past.diary } in
        let reached = jump past.document past.log a n past.diary numbered was.reached (λ c e. is_le (pos (a + n)) c.key.value (quiet c e)) in
        record {
          present = record {
            past_is = (is_past past.document past.log (a + n) (record { moment = a + n; heard = length past.log; diary = past.diary }) reached).entries;
            from = omega (arith, ints);
            within = within;
          };
          log = was.state.log;
          sound = λ e. record {
            state = record {
              document = was.state.document;
              log = was.state.log;
              logged = logged_later a n past.log was.state.logged;
              now = is_le (pos (a + n)) HORIZON within;
            };
            reached = reached;
            current = stays h h (pos a) (pos (a + n)) (quietly h a n (ordered past.document numbered).first kept.present.past_is) was.current;
          };
          marked = kept.marked;
          table_mark = kept.table_mark;
          past_mark = kept.past_mark;
          mark_from = kept.mark_from;
          lens = kept.lens;
        }

    pub passed : (m v : ℤ) → pos (nat_abs m) ≤ℤ v → v ≤ℤ HORIZON → NothingBefore (standing_of past m fault mark touched) v → At m → At v
    passed m v from within quiet kept = by_start (over 0 m kept.present.from) (over (nat_abs m) v from)
      where
        by_numbers : (a n : ℕ) (x y : ℤ) → x ≡ pos a → y ≡ pos (a + n) → y ≤ℤ HORIZON → NothingBefore (standing_of past x fault mark touched) y → At x → At y
        by_numbers a n x y e f w q k =
            subst At (sym f)
            (passed_by a n (subst (λ (z : ℤ). z ≤ℤ HORIZON) f w)
            (subst (λ (z : ℤ). NothingBefore (standing_of past (pos a) fault mark touched) z) f (subst (λ (z : ℤ). NothingBefore (standing_of past z fault mark touched) y) e q))
            (subst At e k))

        by_start : (a : ℕ) × (m ≡ pos (0 + a)) → (n : ℕ) × (v ≡ pos (nat_abs m + n)) → At v
        by_start (a, e) (n, f) =
            let here : m ≡ pos a = e ∙ ap pos (omega arith) in
            by_numbers a n m v here (f ∙ ap (λ (x : ℤ). pos (nat_abs x + n)) here) within quiet kept

    -- and what comes first is the same
    pub first_stays : (m v : ℤ) → pos (nat_abs m) ≤ℤ v → At m → first_at (standing_of past v fault mark touched) ≡ first_at (standing_of past m fault mark touched)
    first_stays m v from kept = by_start (over 0 m kept.present.from) (over (nat_abs m) v from)
      where
        h : History
        h = record { nodes = past.document.nodes; log = past.log; diary = past.diary }

        by_numbers : (a n : ℕ) (x y : ℤ) → x ≡ pos a → y ≡ pos (a + n) → At x → first_at (standing_of past y fault mark touched) ≡ first_at (standing_of past x fault mark touched)
        by_numbers a n x y e f k =
            let now = subst At e k in
            let same = quietly h a n (ordered past.document (now.sound sound).state.document.numbered).first now.present.past_is in
            subst (λ (z : ℤ). first_at (standing_of past z fault mark touched) ≡ first_at (standing_of past x fault mark touched)) (sym f)
            (subst (λ (z : ℤ). first_at (standing_of past (pos (a + n)) fault mark touched) ≡ first_at (standing_of past z fault mark touched)) (sym e)
            (ap first_coming (coming_stays h h (pos a) (pos (a + n)) same)))

        by_start : (a : ℕ) × (m ≡ pos (0 + a)) → (n : ℕ) × (v ≡ pos (nat_abs m + n)) → first_at (standing_of past v fault mark touched) ≡ first_at (standing_of past m fault mark touched)
        by_start (a, e) (n, f) =
            let here : m ≡ pos a = e ∙ ap pos (omega arith) in
            by_numbers a n m v here (f ∙ ap (λ (x : ℤ). pos (nat_abs x + n)) here) kept

    -- all is the same at the later moment
    pub same_passed : (m v : ℤ) → pos (nat_abs m) ≤ℤ v → At m → IsSame (history_of (standing_of past m fault mark touched)) (pos (nat_abs m)) (history_of (standing_of past v fault mark touched)) (pos (nat_abs v))
    same_passed m v from kept = by_start (over 0 m kept.present.from) (over (nat_abs m) v from)
      where
        h : History
        h = record { nodes = past.document.nodes; log = past.log; diary = past.diary }

        by_numbers : (a n : ℕ) (x y : ℤ) → x ≡ pos a → y ≡ pos (a + n) → At x → IsSame h (pos (nat_abs x)) h (pos (nat_abs y))
        by_numbers a n x y e f k =
            let now = subst At e k in
            subst (λ (z : ℤ). IsSame h (pos (nat_abs x)) h (pos (nat_abs z))) (sym f)
            (subst (λ (z : ℤ). IsSame h (pos (nat_abs z)) h (pos (a + n))) (sym e)
            (quietly h a n (ordered past.document (now.sound sound).state.document.numbered).first now.present.past_is))

        by_start : (a : ℕ) × (m ≡ pos (0 + a)) → (n : ℕ) × (v ≡ pos (nat_abs m + n)) → IsSame h (pos (nat_abs m)) h (pos (nat_abs v))
        by_start (a, e) (n, f) =
            let here : m ≡ pos a = e ∙ ap pos (omega arith) in
            by_numbers a n m v here (f ∙ ap (λ (x : ℤ). pos (nat_abs x + n)) here) kept

    -- and where nothing comes up to it, all is settled
    pub settled_passed : EndedIsDiary → length past.diary ≤ DIARY_ENTRIES → (m v : ℤ) → pos (nat_abs m) ≤ℤ v → v ≤ℤ HORIZON → NothingBefore (standing_of past m fault mark touched) v → NothingBefore (standing_of past m fault mark touched) (v +ℤ pos 1) → At m → IsSettled (standing_of past v fault mark touched)
    settled_passed ended few m v from within quiet silence kept = by_number (over 0 v (omega (arith, ints, from))) (passed m v from within quiet kept) (first_stays m v from kept)
      where
        by_number : (b : ℕ) × (v ≡ pos (0 + b)) → At v → first_at (standing_of past v fault mark touched) ≡ first_at (standing_of past m fault mark touched) → IsSettled (standing_of past v fault mark touched)
        by_number (b, f) there first =
            ended (course_on past.document.nodes past.log (nat_abs v)) (record { moment = nat_abs v; heard = length past.log; diary = past.diary })
            (there.sound sound).reached
            (rests (course_on past.document.nodes past.log (nat_abs v)) (record { moment = nat_abs v; heard = length past.log; diary = past.diary })
            (slice_get_past past.log (length past.log) (omega arith)) refl
            (first_at (standing_of past v fault mark touched))
            (λ c e. not_due (nat_abs v) v c.key.value (f ∙ ap (λ (x : ℤ). pos (nat_abs x)) (sym f)) (silence c (sym first ∙ e))))
            few
