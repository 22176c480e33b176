-- Cells of what has happened, at a moment up to which it is what a resolution comes to.
use Rattle.std.proofs.Common.{◌≡◌, refl, sym, ◌∙◌, ap, subst, ℕ, zero, suc, ◌-◌, ◌≤◌, List, [], ◌∷◌, Option, None, Some, ℤ, Bool, true, false, arith, length, take}
use Rattle.std.specs.Prelude.{pos, nat_abs, int_le, ◌≤ℤ◌, is_some, min}
use Rattle.std.proofs.lemmas.Int.{ints}
use Rattle.std.proofs.lemmas.List.{length-take}
use Rattle.smil_model.specs.declared.times.TheConstants.{HORIZON}
use Rattle.smil_model.specs.declared.limits.TheConstants.{DIARY_ENTRIES}
use Rattle.smil_model.specs.declared.diary.Entry.{Entry}
use Rattle.smil_model.specs.declared.diary.LogEntry.{LogEntry}
use Rattle.smil_model.specs.document.Document.{Document}
use Rattle.smil_model.specs.document.Valid.{IsValid}
use Rattle.smil_model.specs.diary.Diary.{History, last_moment}
use Rattle.smil_model.specs.diary.Clocks.{until}
use Rattle.smil_model.specs.diary.Lawful.{IsLawful}
use Rattle.smil_model.specs.diary.Logs.{is_log, is_logged_by}
use Rattle.smil_model.specs.happening.Resolution.{Course, Progress, Reaches, history_at}
use Rattle.smil_laws.specs.Agreement.{course_on}
use Rattle.smil_laws.specs.Courses.{ReachedIsPast}
use Rattle.smil_laws.specs.Cut.{NamesBelow, logged}
use Rattle.smil_laws.specs.Near.{AllNear, ResolvedIsNear}
use Rattle.smil_laws.proofs.ResolvedSteps.{resolved_lawful}
use Rattle.smil_stretch.proofs.ClockAtMoment.{timed_of}
use Rattle.smil_past.specs.Past as past_of
use Rattle.smil_past.specs.Past.{MarkedHistory, IsPossible, IsPresent}
use Rattle.smil_cells.specs.CellsState.{CellsState, IsRebuilt, MayRebuild, cut_log}
use Rattle.smil_diary.specs.declared.fault.BookFault.{BookFault}
use Rattle.smil_cells.specs.Standings.{IsSoundUnderMark, MayBegin, begun, marked_by}
use Rattle.smil_rounds.proofs.HeardLogEntries.{first_is_log, heeded}
use Rattle.smil_rounds.proofs.MomentEntries.{positive}
use Rattle.smil_model.proofs.NumberOrders.{le_from}

module _ (past : MarkedHistory) (moment : ℤ) (may : MayBegin past moment) where
  pub is_present : ReachedIsPast → IsPresent past moment
  is_present law = record {
    past_is = subst (λ (z : ℤ). until z past.diary ≡ past.diary) (sym (positive moment may.from))
        (law past.document past.log (nat_abs moment) (record { moment = nat_abs moment; heard = length past.log; diary = past.diary }) may.reached).entries;
    from = may.from;
    within = subst (λ (z : ℤ). z ≤ℤ HORIZON) (sym (positive moment may.from)) (le_from (pos (nat_abs moment)) HORIZON may.state.now);
  }

  module _ (is_current is_marked : History → ℤ → Type 0) (has_mark : Bool) where
    pub kept : ReachedIsPast → has_mark ≡ false → is_current (past_of.history_of past) moment → IsSoundUnderMark is_current is_marked has_mark past moment None None []
    unfolding is_present
    kept law none current = record {
      present = is_present law;
      log = may.state.log;
      sound = λ e. record {
        state = may.state;
        reached = may.reached;
        current = subst (λ (z : ℤ). is_current (past_of.history_of past) z) (positive moment may.from) current;
      };
      marked = tt;
      table_mark = none;
      past_mark = ap (λ (m : Option (ℕ × ℕ)). is_some m) may.unmarked;
      mark_from = λ m e. cc;
      lens = λ l e. let never : None ≡ Some l = sym may.unmarked ∙ e in cc;
    }

-- ---- at the outset

pub possible_first : (document : Document) (log : List LogEntry) → IsValid document → IsPossible document log []
possible_first document log valid = record {
  valid = valid;
  lawful = record { moments = refl; steps = tt };
  near = tt;
  named = tt;
  few = omega arith;
}

pub may_first : (document : Document) → IsValid document → MayBegin (record { document = document; log = []; diary = []; marked = None }) (pos 0)
may_first document valid = record {
  unmarked = refl;
  from = omega (arith, ints);
  state = record { document = valid; log = refl; logged = refl; now = refl };
  reached = (0, refl);
}

-- ---- rebuilt

module _ (s : CellsState) (document : Document) (len : ℕ) (may : MayRebuild s document len) where
  abbrev part : List LogEntry
  part = cut_log s.presentation.log (take len s.diary)

  abbrev course : Course
  course = course_on document.nodes part may.at.moment

  reached : Reaches course may.at
  reached = subst (λ (d : List Entry). Reaches (course_on document.nodes (cut_log s.presentation.log d) may.at.moment) may.at) may.diary_is may.reached

  -- its moment is that of its last entry
  pub moment_is : pos may.at.moment ≡ last_moment (take len s.diary)
  moment_is = subst (λ (d : List Entry). pos may.at.moment ≡ last_moment d) may.diary_is may.moment_is

  within : (log : List LogEntry) → IsLawful (record { nodes = s.presentation.document.nodes; log = log; diary = take len s.diary }) → int_le (pos may.at.moment) HORIZON ≡ true
  within log lawful =
      subst (λ (z : ℤ). int_le z HORIZON ≡ true) (sym moment_is)
      (timed_of (record { nodes = s.presentation.document.nodes; log = log; diary = take len s.diary }) lawful).high

  heard_is : ReachedIsPast → may.at.heard ≡ length part
  heard_is law =
      numbers (logged (take len s.diary)) (length s.presentation.log) may.at.heard (length part)
      (subst (λ (d : List Entry). logged d ≡ may.at.heard) may.diary_is (law document part may.at.moment may.at reached).count)
      (length-take (logged (take len s.diary)) s.presentation.log)
      (heeded course may.at reached).within
    where
      numbers : (n k h l : ℕ) → n ≡ h → l ≡ min n k → h ≤ l → h ≡ l
      numbers n k h l e f g = omega (arith, e, f, g)

  -- the entries name no more of the log than there is
  pub names_within : ReachedIsPast → logged (take len s.diary) ≤ length s.presentation.log
  names_within law =
      numbers (logged (take len s.diary)) (length s.presentation.log) may.at.heard (length part)
      (subst (λ (d : List Entry). logged d ≡ may.at.heard) may.diary_is (law document part may.at.moment may.at reached).count)
      (heard_is law)
      (length-take (logged (take len s.diary)) s.presentation.log)
    where
      numbers : (n k h l : ℕ) → n ≡ h → h ≡ l → l ≡ min n k → n ≤ k
      numbers n k h l e f g = omega (arith, e, f, g)

  at_it : ReachedIsPast → may.at ≡ record { moment = may.at.moment; heard = length part; diary = take len s.diary }
  at_it law =
      subst (λ (n : ℕ). may.at ≡ record { moment = may.at.moment; heard = n; diary = take len s.diary }) (heard_is law)
      (subst (λ (d : List Entry). may.at ≡ record { moment = may.at.moment; heard = may.at.heard; diary = d }) may.diary_is refl)

  module _ (log : List LogEntry) (lawful : IsLawful (record { nodes = s.presentation.document.nodes; log = log; diary = take len s.diary })) where
    pub possible_part : ReachedIsPast → ResolvedIsNear → length s.diary ≤ DIARY_ENTRIES → IsPossible document part (take len s.diary)
    possible_part law near few = record {
      valid = may.valid;
      lawful =
          subst (λ (x : Progress). IsLawful (history_at course x)) (reached.1 ∙ at_it law)
          (resolved_lawful document part may.at.moment reached.0 may.valid.numbered (le_from (pos may.at.moment) HORIZON (within log lawful)));
      near =
          subst (λ (x : Progress). AllNear x.diary) (reached.1 ∙ at_it law)
          (near document part may.at.moment reached.0 (le_from (pos may.at.moment) HORIZON (within log lawful)));
      named =
          subst (λ (n : ℕ). NamesBelow n (take len s.diary)) (heard_is law)
          (subst (λ (d : List Entry). NamesBelow may.at.heard d) may.diary_is (law document part may.at.moment may.at reached).named);
      few = let e = length-take len s.diary in omega (arith, e, few);
    }

    pub may_part : ReachedIsPast → is_log s.presentation.log ≡ true → MayBegin (record { document = document; log = part; diary = take len s.diary; marked = None }) (pos may.at.moment)
    may_part law is_log = record {
      unmarked = refl;
      from = omega (arith, ints);
      state = record {
        document = may.valid;
        log = first_is_log (logged (take len s.diary)) s.presentation.log is_log;
        logged =
            subst (λ (l : List LogEntry). is_logged_by (pos may.at.moment) l ≡ true) (take_all part may.at.heard (heard_is law))
            (heeded course may.at reached).by;
        now = within log lawful;
      };
      reached = subst (λ (x : Progress). Reaches course x) (at_it law) reached;
    }
      where
        take_all : (l : List LogEntry) (n : ℕ) → n ≡ length l → take n l ≡ l
        take_all [] zero e = refl
        take_all [] (suc n) e = refl
        take_all (x ∷ xs) zero e = absurd (omega (arith, e))
        take_all (x ∷ xs) (suc n) e = ap (λ (l : List LogEntry). x ∷ l) (take_all xs n (omega (arith, e)))

-- what is begun is the presentation rebuilt
module _ (s : CellsState) (document : Document) (len : ℕ) (may : MayRebuild s document len) where
  abbrev rebuilt_past : MarkedHistory
  rebuilt_past = record { document = document; log = cut_log s.presentation.log (take len s.diary); diary = take len s.diary; marked = None }

  pub rebuilt_is : (past : MarkedHistory) (z : ℤ) (cells : CellsState) → past ≡ rebuilt_past → z ≡ pos may.at.moment → cells ≡ begun past z → IsRebuilt s document len cells
  rebuilt_is past z cells is at made =
      subst (λ (x : CellsState). IsRebuilt s document len x) (sym (made ∙ (ap (λ (p : MarkedHistory). begun p z) is ∙ ap (λ (v : ℤ). begun rebuilt_past v) at)))
      (record { document_is = refl; diary_is = refl; log_is = refl; moment_is = moment_is s document len may; sound = refl; unmarked = refl })

-- ---- a copy

pub no_mark : (past : MarkedHistory) (mark : Option ℤ) (lens : Option (ℕ × ℕ)) → is_some lens ≡ is_some mark → marked_by past mark lens ≡ None → (mark ≡ None) × (lens ≡ None)
no_mark past None None same none = (refl, refl)
no_mark past None (Some l) same none = cc
no_mark past (Some m) None same none = cc
no_mark past (Some m) (Some l) same none = cc

pub copied : (is_current is_marked is_current' is_marked' : History → ℤ → Type 0) (has_mark has_mark' : Bool) (past past' : MarkedHistory) (moment z : ℤ) (fault : Option BookFault) (mark : Option ℤ) (touched touched' : List ℕ)
    → z ≡ moment → past' ≡ past → fault ≡ None → (mark ≡ None) × (past.marked ≡ None) → has_mark' ≡ false → ((h : History) (now : ℤ) → is_current h now → is_current' h now)
    → IsSoundUnderMark is_current is_marked has_mark past moment fault mark touched → IsSoundUnderMark is_current' is_marked' has_mark' past' z None None touched'
copied is_current is_marked is_current' is_marked' has_mark has_mark' past past' moment z fault mark touched touched' same is sound none unmarked given kept =
    subst (λ (p : MarkedHistory). IsSoundUnderMark is_current' is_marked' has_mark' p z None None touched') (sym is)
    (subst (λ (v : ℤ). IsSoundUnderMark is_current' is_marked' has_mark' past v None None touched') (sym same)
    (record {
      present = kept.present;
      log = kept.log;
      sound = λ e. let was = kept.sound sound in record { state = was.state; reached = was.reached; current = given (past_of.history_of past) (pos (nat_abs moment)) was.current };
      marked = tt;
      table_mark = unmarked;
      past_mark = ap (λ (o : Option (ℕ × ℕ)). is_some o) none.1;
      mark_from = λ m e. cc;
      lens = λ l e. let never : None ≡ Some l = sym none.1 ∙ e in cc;
    }))
