-- Cells that have heard a log entry.
use Rattle.std.proofs.Common.{◌≡◌, refl, sym, ◌∙◌, ap, subst, ℕ, suc, ◌+◌, ◌-◌, ◌≤◌, List, [], ◌∷◌, ◌++◌, Option, Some, None, ℤ, Bool, true, false, arith, length, take, drop, filter, length-append}
use Rattle.std.proofs.Math.Seq.{drop-append_seam, take-append_seam}
use Rattle.std.proofs.lemmas.List.Elements.{filter-append}
use Rattle.std.specs.Prelude.{pos, nat_abs, ◌≤ℤ◌, ◌+ℤ◌, int_le, cond}
use Rattle.std.proofs.lemmas.Int.{ints}
use Rattle.smil_model.specs.declared.times.TheConstants.{HORIZON}
use Rattle.smil_model.specs.declared.limits.TheConstants.{DIARY_ENTRIES}
use Rattle.smil_model.specs.declared.diary.Entry.{Entry}
use Rattle.smil_model.specs.declared.diary.LogEntry.{LogEntry}
use Rattle.smil_model.specs.declared.document.Node.{Node}
use Rattle.smil_model.specs.declared.interval.Interval.{Interval}
use Rattle.smil_model.specs.document.Document.{elements}
use Rattle.smil_model.specs.document.Closure.{has}
use Rattle.smil_model.specs.diary.Diary.{History}
use Rattle.smil_model.specs.diary.Clocks.{until}
use Rattle.smil_model.specs.diary.Lawful.{IsLawful}
use Rattle.smil_model.specs.diary.Logs.{is_log, is_logged_by, may_happen}
use Rattle.smil_model.specs.interval.Current.{current_interval, in_table}
use Rattle.smil_model.specs.happening.Keys.{DueChange, coming, first_coming, is_due}
use Rattle.smil_model.specs.happening.Resolution.{Progress, Reaches, history_at, next_step}
use Rattle.smil_model.specs.shown.Orders.{IsState, course_of}
use Rattle.smil_laws.specs.Courses.{ReachedIsPast, ReachesFurther}
use Rattle.smil_laws.specs.Cut.{NamesBelow}
use Rattle.smil_laws.specs.Near.{AllNear, ResolvedIsNear}
use Rattle.smil_laws.specs.Same.{IsSame, LogMayBeLonger}
use Rattle.smil_laws.proofs.NumberedTrees.{ordered}
use Rattle.smil_laws.proofs.ResolvedSteps.{resolved_lawful}
use Rattle.smil_diary.specs.declared.fault.BookFault.{BookFault}
use Rattle.smil_past.specs.Past as past_of
use Rattle.smil_past.specs.Past.{MarkedHistory, IsPresent, MayHear, logged_entry, with_heard}
use Rattle.smil_cells.specs.CellsState.{CellsState, IsFront, IsHeard, NothingBefore, WhereTold, fresh, fresh_since, with_logged}
use Rattle.smil_cells.specs.Standings.{IsSound, standing_of}
use Rattle.smil_laws.specs.Agreement.{course_on}
use Rattle.smil_cells.proofs.CourseHeard.{hears, reached_heard}
use Rattle.smil_rounds.proofs.HeardLogEntries.{log_with, logged_one}
use Rattle.smil_cells.proofs.MarkKept.{same_mark, with_entry}
use Rattle.smil_cells.proofs.SettlingSteps.{untouched, is_fresh}
use Rattle.smil_cells.specs.Shown.{any_shows}
use Rattle.smil_cells.proofs.RestingViews.{views_stay}
use Rattle.smil_cells.proofs.CellsGrown.{AreShown, StayListed, StayBefore, AreFresh}
use Rattle.smil_model.proofs.NumberOrders.{le_self, le_from}
use Rattle.smil_element.specs.Comings.{coming_stays}

not_due : (x y : ℤ) → (x +ℤ pos 1) ≤ℤ y → int_le y x ≡ false
not_due x y q = grind (arith, ints)

pub from_first : (n : ℕ) → int_le (pos 0) (pos n) ≡ true
from_first n = grind (arith, ints)

-- ---- the course

module _ (past : MarkedHistory) (m : ℤ) (entry : LogEntry) (fault : Option BookFault) (mark : Option ℤ) (touched : List ℕ) where
  abbrev now : ℕ
  now = nat_abs m

  abbrev h : History
  h = past_of.history_of past

  abbrev h' : History
  h' = record { nodes = past.document.nodes; log = past.log ++ entry ∷ []; diary = past.diary }

  abbrev line : Entry
  line = logged_entry (length past.log) entry.moment

  abbrev later : MarkedHistory
  later = with_heard past entry

  abbrev was : CellsState
  was = standing_of past m fault mark touched

  pub present_heard : m ≡ pos now → IsPresent past m → entry.moment ≡ pos now → IsPresent later m
  present_heard whole present here = record {
    past_is =
        filter-append (λ (x : Entry). int_le x.moment m) past.diary (line ∷ [])
        ∙ (ap (λ (k : List Entry). k ++ until m (line ∷ [])) present.past_is
        ∙ ap (λ (k : List Entry). past.diary ++ k) (by_test (int_le entry.moment m) (ap (λ (z : ℤ). int_le z m) (here ∙ sym whole) ∙ le_self m)));
    from = present.from;
    within = present.within;
  }
    where
      by_test : (b : Bool) → b ≡ true → cond b (line ∷ []) [] ≡ line ∷ []
      by_test true e = refl
      by_test false e = cc

  module _ (state : IsState was.presentation) (reached : Reaches (course_of was.presentation) (record { moment = now; heard = length past.log; diary = past.diary })) (here : entry.moment ≡ pos now) where
    near_now : pos now ≤ℤ HORIZON
    near_now = le_from (pos now) HORIZON state.now

    pub named : ReachedIsPast → NamesBelow (length past.log) past.diary
    named law = (law past.document past.log now (record { moment = now; heard = length past.log; diary = past.diary }) reached).named

    pub same_heard : ReachedIsPast → LogMayBeLonger → IsSame h (pos now) h' (pos now)
    same_heard law longer_law = longer_law h (entry ∷ []) (pos now) (named law)

    log_heard : may_happen entry.what ≡ true → is_log (past.log ++ entry ∷ []) ≡ true
    log_heard may = log_with past.log entry state.log (subst (λ (z : ℤ). is_logged_by z past.log ≡ true) (sym here) state.logged) (ap (λ (z : ℤ). int_le (pos 0) z) here ∙ from_first now) may

    pub is_log_heard : may_happen entry.what ≡ true → is_log later.log ≡ true
    is_log_heard may = log_heard may

    pub state_heard : may_happen entry.what ≡ true → IsState (with_logged was.presentation entry)
    state_heard may = record {
      document = state.document;
      log = log_heard may;
      logged = logged_one (pos now) past.log entry state.logged (ap (λ (z : ℤ). int_le z (pos now)) here ∙ le_self (pos now));
      now = state.now;
    }

    module _ (law : ReachedIsPast) (longer_law : LogMayBeLonger) (further : ReachesFurther) (quiet : NothingBefore was (pos now +ℤ pos 1)) where
      still : (x : DueChange) → first_coming (coming h' (pos now)) ≡ Some x → is_due (pos now) x.key ≡ false
      still x e = not_due (pos now) x.key.value (quiet x (sym (ap first_coming (coming_stays h h' (pos now) (pos now) (same_heard law longer_law))) ∙ e))

      pub reached_with : Reaches (course_of (with_logged was.presentation entry)) (record { moment = now; heard = length (past.log ++ entry ∷ []); diary = later.diary })
      reached_with =
          subst (λ (n : ℕ). Reaches (course_of (with_logged was.presentation entry)) (record { moment = now; heard = n; diary = later.diary })) (one_longer (length past.log) (length (past.log ++ entry ∷ [])) (length-append past.log (entry ∷ [])))
          (subst (λ (z : ℤ). Reaches (course_of (with_logged was.presentation entry)) (record { moment = now; heard = suc (length past.log); diary = past.diary ++ logged_entry (length past.log) z ∷ [] })) (sym here)
          (reached_heard past.document past.log now past.diary entry here further state.document.numbered (ap (λ (z : ℤ). int_le (pos now) z) here ∙ le_self (pos now)) still reached))
        where
          one_longer : (a b : ℕ) → b ≡ a + 1 → suc a ≡ b
          one_longer a b e = omega (arith, e)

      -- the next step of the course
      pub step_heard : next_step (course_on past.document.nodes (past.log ++ entry ∷ []) now) (record { moment = now; heard = length past.log; diary = past.diary }) ≡ Some (record { moment = now; heard = length (past.log ++ entry ∷ []); diary = later.diary })
      step_heard =
          subst (λ (n : ℕ). next_step (course_on past.document.nodes (past.log ++ entry ∷ []) now) (record { moment = now; heard = length past.log; diary = past.diary }) ≡ Some (record { moment = now; heard = n; diary = later.diary })) (one_longer (length past.log) (length (past.log ++ entry ∷ [])) (length-append past.log (entry ∷ [])))
          (subst (λ (z : ℤ). next_step (course_on past.document.nodes (past.log ++ entry ∷ []) now) (record { moment = now; heard = length past.log; diary = past.diary }) ≡ Some (record { moment = now; heard = suc (length past.log); diary = past.diary ++ logged_entry (length past.log) z ∷ [] })) (sym here)
          (hears past.document past.log now past.diary entry here (first_coming (coming h' (pos now))) still))
        where
          one_longer : (a b : ℕ) → b ≡ a + 1 → suc a ≡ b
          one_longer a b e = omega (arith, e)

      pub may_hear : ResolvedIsNear → MayHear past entry
      may_hear near = record {
        lawful =
            subst (λ (x : Progress). IsLawful (history_at (course_of (with_logged was.presentation entry)) x)) reached_with.1
            (resolved_lawful past.document (past.log ++ entry ∷ []) now reached_with.0 state.document.numbered near_now);
        near = subst (λ (x : Progress). AllNear x.diary) reached.1 (near past.document past.log now reached.0 near_now);
        named = named law;
      }

      pub sound_heard : (is_current : History → ℤ → Type 0) (others : List ℕ) → may_happen entry.what ≡ true → is_current (past_of.history_of later) (pos now) → IsSound is_current (standing_of later m None mark others)
      sound_heard is_current others may current = record { state = state_heard may; reached = reached_with; current = current }

      -- a full diary
      pub front_heard : length past.diary ≡ DIARY_ENTRIES → IsFront (course_of (with_logged was.presentation entry)) past.diary
      front_heard full = record {
        at = record { moment = now; heard = length (past.log ++ entry ∷ []); diary = later.diary };
        reached = reached_with;
        front = sym (subst (λ (n : ℕ). take n later.diary ≡ past.diary) full (take-append_seam past.diary (line ∷ [])));
        many = let e = length-append past.diary (line ∷ []) in omega (arith, e, full);
      }

    -- ---- the table and the views

    module _ (law : ReachedIsPast) (longer_law : LogMayBeLonger) (start : ℕ) (z : ℤ) (at_now : z ≡ pos now) (begins : start ≡ length past.diary) where
      front_is : take start later.diary ≡ past.diary
      front_is = subst (λ (n : ℕ). take n later.diary ≡ past.diary) (sym begins) (take-append_seam past.diary (line ∷ []))

      rest_is : drop start later.diary ≡ line ∷ []
      rest_is = subst (λ (n : ℕ). drop n later.diary ≡ line ∷ []) (sym begins) (drop-append_seam past.diary (line ∷ []))

      pub current_before : (is_current : History → ℤ → Type 0) → ((a b : History) (x y : ℤ) → IsSame a x b y → is_current a x → is_current b y) → is_current h (pos now) → (new : MarkedHistory) → new ≡ later → is_current (past_of.front new start) z
      current_before is_current stays current new is =
          subst (λ (x : MarkedHistory). is_current (past_of.front x start) z) (sym is)
          (subst (λ (d : List Entry). is_current (record { nodes = past.document.nodes; log = past.log ++ entry ∷ []; diary = d }) z) (sym front_is)
          (subst (λ (v : ℤ). is_current h' v) (sym at_now) (stays h h' (pos now) (pos now) (same_heard law longer_law) current)))

      -- by the longer log each has the interval that it had
      same_before : (s : ℕ) → current_interval (past_of.front later start) z s ≡ current_interval h (pos now) s
      same_before s =
          ap (λ (d : List Entry). current_interval (record { nodes = past.document.nodes; log = past.log ++ entry ∷ []; diary = d }) z s) front_is
          ∙ (ap (λ (v : ℤ). current_interval h' v s) at_now
          ∙ ap (λ (table : List (ℕ × Option Interval)). in_table table s) (same_heard law longer_law).table)

      module _ (others : List ℕ) where
        abbrev Came : MarkedHistory → Type 0
        Came x = IsHeard was entry (standing_of x m None mark others)

        module _ (lens : (l : ℕ × ℕ) → past.marked ≡ Some l → (l.0 ≤ length past.log) × (l.1 ≤ length past.diary)) (step : next_step (course_on past.document.nodes (past.log ++ entry ∷ []) now) (record { moment = now; heard = length past.log; diary = past.diary }) ≡ Some (record { moment = now; heard = length (past.log ++ entry ∷ []); diary = later.diary })) where
          came : StayListed touched others later → AreShown start others later → StayBefore z start others later → Came later
          came one shown changed = record {
            presentation_is = refl;
            diary_is = refl;
            step = step;
            sound = refl;
            marked = same_mark past later (with_entry past later entry refl) lens mark;
            more = one;
            views = λ e there free.
                views_stay h' (line ∷ []) (pos now) e (ordered past.document state.document.numbered).first there
                (untouched (any_shows (past_of.history_of later) (line ∷ []) e.serial) (has others e.serial) free
                (λ q. shown e there (subst (λ (l : List Entry). any_shows (past_of.history_of later) l e.serial ≡ true) (sym rest_is) q)))
                (subst (λ (v : ℤ). current_interval (past_of.history_of later) v e.serial ≡ current_interval h' v e.serial) at_now
                (changed e there free ∙ ap (λ (d : List Entry). current_interval (record { nodes = past.document.nodes; log = past.log ++ entry ∷ []; diary = d }) z e.serial) front_is))
                ∙ (same_heard law longer_law).view e;
          }

          pub came_heard : (new : MarkedHistory) → new ≡ later → StayListed touched others new → AreShown start others new → StayBefore z start others new → Came new
          came_heard new is = subst (λ (x : MarkedHistory). StayListed touched others x → AreShown start others x → StayBefore z start others x → Came x) (sym is) came

      -- what differs from what it was before differs from what it was by the longer log
      fresh_same : (a b c : ℕ → Option Interval) → ((s : ℕ) → a s ≡ b s) → (es : List Node) → length (filter (λ (e : Node). is_fresh (a e.serial) (c e.serial)) es) ≡ length (filter (λ (e : Node). is_fresh (b e.serial) (c e.serial)) es)
      fresh_same a b c same [] = refl
      fresh_same a b c same (e ∷ es) =
          ap (λ (x : Option Interval). length (cond (is_fresh x (c e.serial)) (e ∷ filter (λ (e : Node). is_fresh (a e.serial) (c e.serial)) es) (filter (λ (e : Node). is_fresh (a e.serial) (c e.serial)) es))) (same e.serial)
          ∙ by_test (is_fresh (b e.serial) (c e.serial)) (fresh_same a b c same es)
        where
          by_test : (t : Bool) → length (filter (λ (e : Node). is_fresh (a e.serial) (c e.serial)) es) ≡ length (filter (λ (e : Node). is_fresh (b e.serial) (c e.serial)) es)
              → length (cond t (e ∷ filter (λ (e : Node). is_fresh (a e.serial) (c e.serial)) es) (filter (λ (e : Node). is_fresh (a e.serial) (c e.serial)) es)) ≡ length (cond t (e ∷ filter (λ (e : Node). is_fresh (b e.serial) (c e.serial)) es) (filter (λ (e : Node). is_fresh (b e.serial) (c e.serial)) es))
          by_test true q = ap suc q
          by_test false q = q

      pub least_heard : (flag : Bool) (n : ℕ) (others : List ℕ) (new : MarkedHistory) → new ≡ later → AreFresh z start flag n new → WhereTold flag (fresh_since was (standing_of new m None mark others) ≤ n)
      least_heard flag n others new is =
          subst (λ (x : MarkedHistory). AreFresh z start flag n x → WhereTold flag (fresh_since was (standing_of x m None mark others) ≤ n)) (sym is)
          (λ q. subst (λ (v : ℤ). WhereTold flag (fresh past.document.nodes (current_interval h (pos now)) (current_interval (past_of.history_of later) v) ≤ n)) at_now
          (subst (λ (k : ℕ). WhereTold flag (k ≤ n)) (fresh_same (current_interval (past_of.front later start) z) (current_interval h (pos now)) (current_interval (past_of.history_of later) z) same_before (elements past.document.nodes)) q))
