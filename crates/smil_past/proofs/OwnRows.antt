-- What an entry makes of rows: nothing of those of other elements.
use Rattle.std.proofs.Common.{◌≡◌, refl, sym, ◌∙◌, ap, subst, ℕ, ℤ, List, Option, Some, None, Bool, true, false}
use Rattle.std.specs.Prelude.{cond, ◌==◌, ◌||◌, option_map, slice_get, unwrap_or}
use Rattle.std.specs.Option.{option_or}
use Rattle.std.proofs.lemmas.Bool.{eqb-true, eq-eqb}
use Rattle.std.proofs.lemmas.Option.{same_Some}
use Rattle.smil_stretch.specs.declared.clock.NodeClock.{NodeClock}
use Rattle.smil_model.specs.declared.diary.Entry.{Entry}
use Rattle.smil_model.specs.declared.diary.LogEntry.{LogEntry}
use Rattle.smil_model.specs.declared.diary.Happening.{Happening}
use Rattle.smil_model.specs.declared.diary.Happening.TheVariants.{Event, Media, Key}
use Rattle.smil_model.specs.declared.diary.Step.{Step}
use Rattle.smil_model.specs.declared.diary.Step.TheVariants.{Began, Repeated, Ended, Cut, Paused, Resumed, Deferred, Passed, Logged}
use Rattle.smil_model.specs.declared.times.Time.TheVariants.{At, Unresolved}
use Rattle.smil_model.specs.diary.Diary.{History}
use Rattle.smil_model.specs.diary.Clocks.{outer, to_document, start_of}
use Rattle.smil_model.specs.diary.Plays.{greater_begin}
use Rattle.smil_model.specs.interval.Current.{logged_length}
use Rattle.smil_instances.specs.Contribution.{AreClocksAt}
use Rattle.smil_past.specs.declared.plays.facts.PastInterval.{PastInterval}
use Rattle.smil_past.specs.declared.plays.facts.PlayFacts.{PlayFacts}
use Rattle.smil_model.specs.reach.Reach.{subject, logged_subject, subject_of}
use Rattle.smil_past.specs.Rows.{row_of, IsPut, IsOwnTaken}
use Rattle.smil_past.specs.Followed.{began_row, finished_after, finished_row, finished_interval, next_iteration, told_by, own_after}

or_none : (o : Option PastInterval) → option_or o None ≡ o
or_none None = refl
or_none (Some x) = refl

abbrev at : ℤ → Step → Entry
at m step = record { moment = m; step = step }

abbrev began_by : History → ℤ → ℕ → PlayFacts → ℤ → Bool → PlayFacts
began_by h m s r b t = record { begun = cond t (Some b) r.begun; shown_begun = cond t (Some (to_document h s b m)) r.shown_begun; first = cond t (start_of h s m b) r.first; start = cond t (start_of h s m b) r.start; first_finished = option_or r.first_finished None; last_finished = r.last_finished; shown_deferred = cond t None r.shown_deferred; passed = r.passed; length = r.length; paused = cond t false r.paused; iteration = cond t 0 r.iteration; finished = r.finished; began_since_birth = t || r.began_since_birth }

abbrev finished_by : History → ℤ → ℕ → PlayFacts → ℤ → Bool → Bool → PlayFacts
finished_by h m s r v cut t = record { begun = cond t None r.begun; shown_begun = cond t None r.shown_begun; first = r.first; start = r.start; first_finished = option_or r.first_finished (cond t (finished_interval h s m v cut r.begun r.shown_begun) None); last_finished = option_or (cond t (finished_interval h s m v cut r.begun r.shown_begun) None) r.last_finished; shown_deferred = cond t None r.shown_deferred; passed = r.passed; length = r.length; paused = cond t false r.paused; iteration = r.iteration; finished = finished_after (cond t (finished_interval h s m v cut r.begun r.shown_begun) None) r.finished; began_since_birth = r.began_since_birth }

abbrev deferred_by : History → ℤ → ℕ → PlayFacts → ℤ → Bool → PlayFacts
deferred_by h m s r b t = record { begun = r.begun; shown_begun = r.shown_begun; first = r.first; start = r.start; first_finished = option_or r.first_finished None; last_finished = r.last_finished; shown_deferred = cond t (Some (to_document h s b m)) r.shown_deferred; passed = r.passed; length = r.length; paused = r.paused; iteration = r.iteration; finished = r.finished; began_since_birth = r.began_since_birth }

fix : (r : PlayFacts) → record r { first_finished = option_or r.first_finished None } ≡ r
fix r = ap (λ o. record r { first_finished = o }) (or_none r.first_finished)

-- the step is on the element itself
itself : (h : History) (e : Entry) (who w : ℕ) (step : Step) → e.step ≡ step → subject_of h.log step ≡ Some w → subject_of h.log e.step ≡ Some who → w == who ≡ true
itself h e who w step is of on = eq-eqb w who (same_Some w who (sym of ∙ sym (ap (subject_of h.log) is) ∙ on))

pub own_began : (h : History) (e : Entry) (who w : ℕ) (b : ℤ) (r : PlayFacts) → e.step ≡ Began w b → subject_of h.log e.step ≡ Some who → began_row h who e.moment b r ≡ own_after h e who r
own_began h e who w b r is on =
    subst (λ (st : Step). began_row h who e.moment b r ≡ own_after h (at e.moment st) who r) (sym is)
    (sym (ap (λ o. record (began_row h who e.moment b r) { first_finished = o }) (or_none r.first_finished)) ∙ sym (ap (began_by h e.moment who r b) (itself h e who w (Began w b) is refl on)))

pub own_ended : (h : History) (e : Entry) (who w : ℕ) (b : ℤ) (r : PlayFacts) → e.step ≡ Ended w b → subject_of h.log e.step ≡ Some who → finished_row h who e.moment b false r ≡ own_after h e who r
own_ended h e who w b r is on =
    subst (λ (st : Step). finished_row h who e.moment b false r ≡ own_after h (at e.moment st) who r) (sym is)
    (sym (ap (finished_by h e.moment who r b false) (itself h e who w (Ended w b) is refl on)))

pub own_cut : (h : History) (e : Entry) (who w : ℕ) (r : PlayFacts) → e.step ≡ Cut w → subject_of h.log e.step ≡ Some who → finished_row h who e.moment (outer h who e.moment) true r ≡ own_after h e who r
own_cut h e who w r is on =
    subst (λ (st : Step). finished_row h who e.moment (outer h who e.moment) true r ≡ own_after h (at e.moment st) who r) (sym is)
    (sym (ap (finished_by h e.moment who r (outer h who e.moment) true) (itself h e who w (Cut w) is refl on)))

pub own_deferred : (h : History) (e : Entry) (who w : ℕ) (b : ℤ) (r : PlayFacts) → e.step ≡ Deferred w b → subject_of h.log e.step ≡ Some who → record r { shown_deferred = Some (to_document h who b e.moment) } ≡ own_after h e who r
own_deferred h e who w b r is on =
    subst (λ (st : Step). record r { shown_deferred = Some (to_document h who b e.moment) } ≡ own_after h (at e.moment st) who r) (sym is)
    (sym (ap (λ o. record r { shown_deferred = Some (to_document h who b e.moment); first_finished = o }) (or_none r.first_finished)) ∙ sym (ap (deferred_by h e.moment who r b) (itself h e who w (Deferred w b) is refl on)))

quiet_step : (h : History) (m : ℤ) (s : ℕ) (r : PlayFacts) (step : Step) → ((w : ℕ) → subject_of h.log step ≡ Some w → w == s ≡ false) → own_after h (at m step) s r ≡ r
quiet_step h m s r (Began w b) far = ap (began_by h m s r b) (far w refl) ∙ fix r
quiet_step h m s r (Repeated w b) far = ap (λ t. record { begun = r.begun; shown_begun = r.shown_begun; first = r.first; start = cond t b r.start; first_finished = option_or r.first_finished None; last_finished = r.last_finished; shown_deferred = r.shown_deferred; passed = r.passed; length = r.length; paused = r.paused; iteration = cond t (next_iteration r.began_since_birth r.iteration) r.iteration; finished = r.finished; began_since_birth = r.began_since_birth }) (far w refl) ∙ fix r
quiet_step h m s r (Ended w b) far = ap (finished_by h m s r b false) (far w refl) ∙ fix r
quiet_step h m s r (Cut w) far = ap (finished_by h m s r (outer h s m) true) (far w refl) ∙ fix r
quiet_step h m s r (Paused w) far = ap (λ t. record r { first_finished = option_or r.first_finished None; paused = t || r.paused }) (far w refl) ∙ fix r
quiet_step h m s r (Resumed w) far = ap (λ t. record r { first_finished = option_or r.first_finished None; paused = cond t false r.paused }) (far w refl) ∙ fix r
quiet_step h m s r (Deferred w b) far = ap (deferred_by h m s r b) (far w refl) ∙ fix r
quiet_step h m s r (Passed w b) far = ap (λ t. record { begun = r.begun; shown_begun = r.shown_begun; first = r.first; start = r.start; first_finished = option_or r.first_finished None; last_finished = r.last_finished; shown_deferred = cond t None r.shown_deferred; passed = cond t (greater_begin r.passed b) r.passed; length = r.length; paused = r.paused; iteration = r.iteration; finished = r.finished; began_since_birth = r.began_since_birth }) (far w refl) ∙ fix r
quiet_step h m s r (Logged place) far =
    ap (λ v. record { begun = r.begun; shown_begun = r.shown_begun; first = r.first; start = r.start; first_finished = option_or r.first_finished None; last_finished = r.last_finished; shown_deferred = r.shown_deferred; passed = r.passed; length = v; paused = r.paused; iteration = r.iteration; finished = r.finished; began_since_birth = r.began_since_birth }) (by_entry (slice_get h.log place) far)
    ∙ fix r
  where
    by_entry : (e : Option LogEntry) → ((w : ℕ) → logged_subject e ≡ Some w → w == s ≡ false) → told_by s e r.length ≡ r.length
    by_entry None away = refl
    by_entry (Some e) away = by_what e.what away
      where
        by_what : (what : Happening) → ((w : ℕ) → subject what ≡ Some w → w == s ≡ false) → unwrap_or (logged_length s what (Some r.length)) Unresolved ≡ r.length
        by_what (Event who name) off = refl
        by_what (Media who length) off = ap (λ t. unwrap_or (cond t (Some (At length)) (Some r.length)) Unresolved) (off who refl)
        by_what (Key key) off = refl

pub quiet : (h : History) (y : Entry) (s : ℕ) (r : PlayFacts) → ((w : ℕ) → subject_of h.log y.step ≡ Some w → w == s ≡ false) → own_after h y s r ≡ r
quiet h y s r far = quiet_step h y.moment s r y.step far

quiet_map : (h : History) (y : Entry) (s : ℕ) (o : Option PlayFacts) → ((w : ℕ) → subject_of h.log y.step ≡ Some w → w == s ≡ false) → o ≡ option_map (own_after h y s) o
quiet_map h y s None far = refl
quiet_map h y s (Some r) far = ap Some (sym (quiet h y s r far))

-- no element
pub own_nobody : (h : History) (y : Entry) (rows : List (ℕ × PlayFacts)) → subject_of h.log y.step ≡ None → IsOwnTaken h y rows rows
own_nobody h y rows none = record { same_keys = refl; rows = λ s. quiet_map h y s (row_of rows s) (λ w some. (let never : None ≡ Some w = sym none ∙ some in cc)) }

module _ (h : History) (y : Entry) (who : ℕ) (on : subject_of h.log y.step ≡ Some who) where
  away : (s : ℕ) → who == s ≡ false → (w : ℕ) → subject_of h.log y.step ≡ Some w → w == s ≡ false
  away s off w some = let one : Some who ≡ Some w = sym on ∙ some in let same : who ≡ w = cc in ap (λ k. k == s) (sym same) ∙ off

  -- an element with no row
  pub own_unknown : (rows : List (ℕ × PlayFacts)) → row_of rows who ≡ None → IsOwnTaken h y rows rows
  own_unknown rows none = record { same_keys = refl; rows = λ s. by_test s (who == s) refl }
    where
      by_test : (s : ℕ) (t : Bool) → who == s ≡ t → row_of rows s ≡ option_map (own_after h y s) (row_of rows s)
      by_test s true e =
          let gone : row_of rows s ≡ None = ap (row_of rows) (sym (eqb-true who s e)) ∙ none in
          gone ∙ sym (ap (option_map (own_after h y s)) gone)
      by_test s false e = quiet_map h y s (row_of rows s) (away s e)

  pub own_put : (old new : List (ℕ × PlayFacts)) (row result : PlayFacts) → row_of old who ≡ Some row → result ≡ own_after h y who row → IsPut who result old new → IsOwnTaken h y old new
  own_put old new row result had is put = record { same_keys = put.same_keys; rows = λ s. put.rows s ∙ by_test s (who == s) refl }
    where
      by_test : (s : ℕ) (t : Bool) → who == s ≡ t → cond t (option_map (λ (r : PlayFacts). result) (row_of old s)) (row_of old s) ≡ option_map (own_after h y s) (row_of old s)
      by_test s true e =
          let same : who ≡ s = eqb-true who s e in
          let here : row_of old s ≡ Some row = ap (row_of old) (sym same) ∙ had in
          ap (option_map (λ (r : PlayFacts). result)) here ∙ ap Some is ∙ ap (λ k. Some (own_after h y k row)) same ∙ sym (ap (option_map (own_after h y s)) here)
      by_test s false e = quiet_map h y s (row_of old s) (away s e)

-- ---- by numbers as they are passed

pub read_row : (row : History → ℕ → ℤ → ℤ → PlayFacts → PlayFacts) (h : History) (clocks : List NodeClock) (e : Entry) (who : ℕ) (b m' b' : ℤ) (r result : PlayFacts) → m' ≡ e.moment → b' ≡ b → ((k : History) → AreClocksAt k clocks m' → result ≡ row k who m' b' r) → AreClocksAt h clocks e.moment → row h who e.moment b r ≡ own_after h e who r → result ≡ own_after h e who r
read_row row h clocks e who b m' b' r result at_m at_b got are own =
    got h (subst (AreClocksAt h clocks) (sym at_m) are) ∙ ap (λ m. row h who m b' r) at_m ∙ ap (λ v. row h who e.moment v r) at_b ∙ own
