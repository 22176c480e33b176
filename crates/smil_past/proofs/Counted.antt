-- Whether an element is paused, and how many iterations and finished intervals of it there are, after
-- one entry more.
use Rattle.std.proofs.Common.{◌≡◌, refl, sym, ◌∙◌, ap, ℕ, suc, ◌+◌, ◌<◌, ◌≤◌, List, [], ◌∷◌, ◌++◌, length, ℤ, Bool, true, false, Option, Some, None, arith, length-append, length-drop}
use Rattle.std.specs.Prelude.{cond, fold, ◌==◌, ◌||◌, ◌&&◌, not, option_map, is_some, unwrap_or}
use Rattle.std.proofs.lemmas.Bool.{cond_both, eqb-true, and_parts}
use Rattle.std.proofs.lemmas.List.Sums.{fold_push}
use Rattle.smil_model.specs.declared.diary.Entry.{Entry}
use Rattle.smil_model.specs.declared.diary.Step.{Step}
use Rattle.smil_model.specs.declared.diary.Step.TheVariants.{Began, Repeated, Ended, Cut, Paused, Resumed}
use Rattle.smil_model.specs.declared.limits.TheConstants.{DIARY_ENTRIES}
use Rattle.smil_model.specs.document.Document.{time_parent}
use Rattle.smil_model.specs.diary.Diary.{History, active_after, is_active, is_paused, paused_after, iteration_after, iteration_from, birth, since_birth, with_entry}
use Rattle.smil_model.specs.diary.Lawful.{IsLawful, has_element, is_lawful_step}
use Rattle.smil_model.specs.diary.Clocks.{outer}
use Rattle.smil_model.specs.diary.Plays.{PlayEdge, FinishedInterval, Plays, finish_with, play_after, is_birth_under, plays}
use Rattle.smil_model.specs.shown.Views.{document_value}
use Rattle.smil_laws.proofs.LawfulSteps.{active_push}
use Rattle.smil_diary.proofs.TestChoices.{chosen}
use Rattle.smil_stretch.proofs.LawfulDiaries.{lawful_last}
use Rattle.smil_past.specs.Followed.{finished_after, finished_interval, has_begun_after, interval_finished_by, is_paused_after, number_after, one_more}
use Rattle.smil_past.proofs.PlaysAfterEntry.{follow, no_plays}

-- ---- pauses

pause_step : (s : ℕ) (a f : Bool) (step : Step) → ((who : ℕ) → step ≡ Paused who → who == s ≡ true → a ≡ true) → (active_after s a step && paused_after s f step) ≡ is_paused_after s (a && f) step
pause_step s a f (Began who begin) on = by (who == s)
  where
    by : (t : Bool) → ((t || a) && cond t false f) ≡ cond t false (a && f)
    by true = refl
    by false = refl
pause_step s a f (Ended who end') on = by (who == s)
  where
    by : (t : Bool) → (cond t false a && f) ≡ cond t false (a && f)
    by true = refl
    by false = refl
pause_step s a f (Cut who) on = by (who == s)
  where
    by : (t : Bool) → (cond t false a && f) ≡ cond t false (a && f)
    by true = refl
    by false = refl
pause_step s a f (Paused who) on = by (who == s) refl
  where
    by : (t : Bool) → who == s ≡ t → (a && (t || f)) ≡ (t || (a && f))
    by true e = ap (λ b. b && true) (on who refl e)
    by false e = refl
pause_step s a f (Resumed who) on = by (who == s) a
  where
    by : (t b : Bool) → (b && cond t false f) ≡ cond t false (b && f)
    by true true = refl
    by true false = refl
    by false b = refl
pause_step s a f _ on = refl

pub paused_is : (h : History) (y : Entry) (s : ℕ) → IsLawful (with_entry h y) → is_paused (h.diary ++ y ∷ []) s ≡ is_paused_after s (is_paused h.diary s) y.step
paused_is h y s lawful =
    ap (λ a. a && fold (λ before (x : Entry). paused_after s before x.step) false (h.diary ++ y ∷ [])) (active_push h.diary y s)
    ∙ ap (λ f. active_after s (is_active h.diary s) y.step && f) (fold_push (λ before (x : Entry). paused_after s before x.step) false h.diary y)
    ∙ pause_step s (is_active h.diary s) (fold (λ before (x : Entry). paused_after s before x.step) false h.diary) y.step
    (λ who is own. ap (is_active h.diary) (sym (eqb-true who s own)) ∙ active who (sym (ap (is_lawful_step h) is) ∙ lawful_last h y lawful))
  where
    active : (who : ℕ) → is_lawful_step h (Paused who) ≡ true → is_active h.diary who ≡ true
    active who q =
        let parts = and_parts (has_element h.nodes who) (is_active h.diary who && not (is_paused h.diary who)) q in
        (and_parts (is_active h.diary who) (not (is_paused h.diary who)) parts.1).0

-- ---- iterations

abbrev pub number : Option ℕ → ℕ
number o = unwrap_or o 0

pub number_step : (s : ℕ) (o : Option ℕ) (step : Step) → number o < DIARY_ENTRIES → number (iteration_after s o step) ≡ number_after s (is_some o) (number o) step
number_step s o (Began who begin) few = by (who == s)
  where
    by : (t : Bool) → number (cond t (Some 0) o) ≡ cond t 0 (number o)
    by true = refl
    by false = refl
number_step s None (Repeated who start) few = by (who == s)
  where
    by : (t : Bool) → number (cond t None None) ≡ cond t 0 0
    by true = refl
    by false = refl
number_step s (Some n) (Repeated who start) few = by (who == s)
  where
    by : (t : Bool) → number (cond t (Some (suc n)) (Some n)) ≡ cond t (one_more n) n
    by true = omega (arith, few)
    by false = refl
number_step s o _ few = refl

pub begun_step : (s : ℕ) (o : Option ℕ) (step : Step) → is_some (iteration_after s o step) ≡ has_begun_after s (is_some o) step
begun_step s o (Began who begin) = by (who == s)
  where
    by : (t : Bool) → is_some (cond t (Some 0) o) ≡ (t || is_some o)
    by true = refl
    by false = refl
begun_step s None (Repeated who start) = by (who == s)
  where
    by : (t : Bool) → is_some (cond {A = Option ℕ} t None None) ≡ false
    by true = refl
    by false = refl
begun_step s (Some n) (Repeated who start) = by (who == s)
  where
    by : (t : Bool) → is_some (cond {A = Option ℕ} t (Some (suc n)) (Some n)) ≡ true
    by true = refl
    by false = refl
begun_step s o _ = refl

-- ---- no more iterations than entries

number_least : (s : ℕ) (o : Option ℕ) (step : Step) → number (iteration_after s o step) ≤ number o + 1
number_least s o (Began who begin) = cond_both (who == s) (Some 0) o (λ v. number v ≤ number o + 1) (λ e. omega arith) (λ e. omega arith)
number_least s None (Repeated who start) = cond_both (who == s) None None (λ v. number v ≤ 0 + 1) (λ e. omega arith) (λ e. omega arith)
number_least s (Some n) (Repeated who start) = cond_both (who == s) (Some (suc n)) (Some n) (λ v. number v ≤ n + 1) (λ e. omega arith) (λ e. omega arith)
number_least s o _ = omega arith

number_fold : (s : ℕ) (o : Option ℕ) (ds : List Entry) → number (fold (λ before (x : Entry). iteration_after s before x.step) o ds) ≤ number o + length ds
number_fold s o [] = omega arith
number_fold s o (x ∷ xs) = omega (arith, number_fold s (iteration_after s o x.step) xs, number_least s o x.step)

pub number_few : (h : History) (s : ℕ) → length h.diary < DIARY_ENTRIES → number (iteration_from s (since_birth h s)) < DIARY_ENTRIES
number_few h s few = omega (arith, few, number_fold s None (since_birth h s), length-drop (birth h s) h.diary)

-- ---- finished intervals

close_count : (h : History) (s : ℕ) (m : ℤ) (o : Option PlayEdge) (v : ℤ) (cut : Bool) (fs : List FinishedInterval) → length fs < DIARY_ENTRIES → length (finish_with o (record { value = v; moment = m }) cut fs) ≡ finished_after (finished_interval h s m v cut (option_map (λ (e : PlayEdge). e.value) o) (option_map (document_value h s) o)) (length fs)
close_count h s m None v cut fs few = refl
close_count h s m (Some k) v cut fs few = omega (arith, few, length-append fs (record { begin = k; finish = record { value = v; moment = m }; was_cut = cut } ∷ []))

pub count_step : (h : History) (s : ℕ) (m : ℤ) (b : Plays) (step : Step) → length b.finished < DIARY_ENTRIES → length (play_after h s m b step).finished ≡ finished_after (interval_finished_by h s m (option_map (λ (e : PlayEdge). e.value) b.present) (option_map (document_value h s) b.present) step) (length b.finished)
count_step h s m b (Began who begin) few = cond_both (who == s) _ b (λ p. length p.finished ≡ length b.finished) (λ e. refl) (λ e. refl)
count_step h s m b (Ended who end') few = chosen (λ (p : Plays). length p.finished) (λ o. finished_after o (length b.finished)) (who == s) _ _ _ _ (close_count h s m b.present end' false b.finished few) refl
count_step h s m b (Cut who) few = chosen (λ (p : Plays). length p.finished) (λ o. finished_after o (length b.finished)) (who == s) _ _ _ _ (close_count h s m b.present (outer h s m) true b.finished few) refl
count_step h s m b _ few = refl

-- ---- no more of them than entries

finish_least : (o : Option PlayEdge) (e : PlayEdge) (cut : Bool) (fs : List FinishedInterval) → length (finish_with o e cut fs) ≤ length fs + 1
finish_least None e cut fs = omega arith
finish_least (Some k) e cut fs = omega (arith, length-append fs (record { begin = k; finish = e; was_cut = cut } ∷ []))

count_least : (h : History) (s : ℕ) (b : Plays) (x : Entry) → length (follow h s b x).finished ≤ length b.finished + 1
count_least h s b x =
    cond_both (is_birth_under (time_parent h.nodes s) x.step) _ _ (λ (p : Plays). length p.finished ≤ length b.finished + 1) (λ e. omega arith) (λ e. by x.step)
  where
    by : (step : Step) → length (play_after h s x.moment b step).finished ≤ length b.finished + 1
    by (Began who begin) = cond_both (who == s) _ b (λ p. length p.finished ≤ length b.finished + 1) (λ e. omega arith) (λ e. omega arith)
    by (Ended who end') = cond_both (who == s) _ b (λ p. length p.finished ≤ length b.finished + 1) (λ e. finish_least b.present _ false b.finished) (λ e. omega arith)
    by (Cut who) = cond_both (who == s) _ b (λ p. length p.finished ≤ length b.finished + 1) (λ e. finish_least b.present _ true b.finished) (λ e. omega arith)
    by _ = omega arith

count_fold : (h : History) (s : ℕ) (b : Plays) (ds : List Entry) → length (fold (follow h s) b ds).finished ≤ length b.finished + length ds
count_fold h s b [] = omega arith
count_fold h s b (x ∷ xs) = omega (arith, count_fold h s (follow h s b x) xs, count_least h s b x)

pub count_few : (h : History) (s : ℕ) → length h.diary < DIARY_ENTRIES → length (plays h s).finished < DIARY_ENTRIES
count_few h s few = omega (arith, few, count_fold h s no_plays h.diary)
