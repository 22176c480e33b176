-- Lawful diaries: the entries before the last one, and whom the last one pauses.
use Rattle.std.proofs.Common.{◌≡◌, refl, sym, ◌∙◌, ap, subst, ℕ, List, [], ◌∷◌, ◌++◌, ℤ, Bool, true, false, append_assoc}
use Rattle.std.specs.Prelude.{cond, pos, int_le, take, drop, not, ◌==◌, ◌||◌, ◌&&◌}
use Rattle.std.proofs.lemmas.Bool.{and_parts, and_from, and_left, and_right, not-true, eqb-true, eq-eqb}
use Rattle.std.proofs.lemmas.List.{take-append-drop, append-nil}
use Rattle.smil_model.specs.declared.times.TheConstants.{HORIZON}
use Rattle.smil_model.specs.declared.diary.Entry.{Entry}
use Rattle.smil_model.specs.declared.diary.LogEntry.{LogEntry}
use Rattle.smil_model.specs.declared.diary.Step.{Step}
use Rattle.smil_model.specs.declared.diary.Step.TheVariants.{Began, Ended, Cut, Paused, Resumed}
use Rattle.smil_model.specs.declared.document.Node.{Node}
use Rattle.smil_model.specs.diary.Diary.{History, active_after, is_active, paused_after, is_paused, is_alive, with_past, up_to, with_entry}
use Rattle.smil_model.specs.diary.Lawful.{has_element, may_begin, is_lawful_step, is_rising_from, AllLawful, IsLawful}
use Rattle.smil_laws.proofs.LineageParents.{swap_eqb}
use Rattle.smil_laws.proofs.LawfulSteps.{pausing, active_push, pausing_push}
use Rattle.smil_stretch.specs.Clocks.{ends_pause}
use Rattle.smil_stretch.specs.NodeClocks.{Turns}
use Rattle.smil_stretch.specs.Laws.{changes_clocks}
use Rattle.smil_stretch.proofs.ClockAtMoment.{rising_push}

-- ---- all but the last entry

module _ (nodes : List Node) (log : List LogEntry) where
  abbrev by : List Entry → History
  by ds = record { nodes = nodes; log = log; diary = ds }

  split : (whole other before xs : List Entry) (y : Entry) → AllLawful (by whole) (with_past before (xs ++ y ∷ [])) → AllLawful (by other) (with_past before xs) × (is_lawful_step (by (before ++ xs)) y.step ≡ true)
  split whole other before [] y all = (tt, ap (λ ds. is_lawful_step (by ds) y.step) (append-nil before) ∙ all.0)
  split whole other before (x ∷ xs) y all =
      let rest = split whole other (before ++ x ∷ []) xs y all.1 in
      ((all.0, rest.0), ap (λ ds. is_lawful_step (by ds) y.step) (sym (append_assoc before (x ∷ []) xs)) ∙ rest.1)

-- ---- the first entries

rising_front : (from : ℤ) (xs ys : List Entry) → is_rising_from from (xs ++ ys) ≡ true → is_rising_from from xs ≡ true
rising_front from [] ys q = refl
rising_front from (x ∷ xs) ys q =
    let parts = and_parts (int_le from x.moment && int_le x.moment HORIZON) (is_rising_from x.moment (xs ++ ys)) q in
    and_from _ _ parts.0 (rising_front x.moment xs ys parts.1)

lawful_front : (nodes : List Node) (log : List LogEntry) (whole other before xs ys : List Entry) → AllLawful (by nodes log whole) (with_past before (xs ++ ys)) → AllLawful (by nodes log other) (with_past before xs)
lawful_front nodes log whole other before [] ys all = tt
lawful_front nodes log whole other before (x ∷ xs) ys all = (all.0, lawful_front nodes log whole other (before ++ x ∷ []) xs ys all.1)

pub lawful_first : (h : History) (k : ℕ) → IsLawful h → IsLawful (up_to h (take k h.diary))
lawful_first h k lawful =
    let whole : take k h.diary ++ drop k h.diary ≡ h.diary = take-append-drop k h.diary in
    record {
      moments = rising_front (pos 0) (take k h.diary) (drop k h.diary) (ap (is_rising_from (pos 0)) whole ∙ lawful.moments);
      steps =
          lawful_front h.nodes h.log h.diary (take k h.diary) [] (take k h.diary) (drop k h.diary)
          (subst (λ ds. AllLawful h (with_past [] ds)) (sym whole) lawful.steps);
    }

pub lawful_before : (h : History) (y : Entry) → IsLawful (with_entry h y) → IsLawful h
lawful_before h y lawful = record {
  moments = (rising_push (pos 0) h.diary y lawful.moments).0;
  steps = (split h.nodes h.log (h.diary ++ y ∷ []) h.diary [] h.diary y lawful.steps).0;
}

pub lawful_last : (h : History) (y : Entry) → IsLawful (with_entry h y) → is_lawful_step h y.step ≡ true
lawful_last h y lawful = (split h.nodes h.log (h.diary ++ y ∷ []) h.diary [] h.diary y lawful.steps).1

-- ---- whom an entry pauses

-- whether an element is paused after a step, by what it was
abbrev pub paused_by : ℕ → Bool → Bool → Step → Bool
paused_by s active pausing step = active_after s active step && paused_after s pausing step

pub paused_push : (ds : List Entry) (y : Entry) (s : ℕ) → is_paused (ds ++ y ∷ []) s ≡ paused_by s (is_active ds s) (pausing ds s) y.step
paused_push ds y s =
    ap (λ a. a && pausing (ds ++ y ∷ []) s) (active_push ds y s)
    ∙ ap (λ p. active_after s (is_active ds s) y.step && p) (pausing_push ds y s)

pub pause_turns : (h : History) (m : ℤ) (who : ℕ) → is_lawful_step h (Paused who) ≡ true → Turns h (record { moment = m; step = Paused who }) who true
pause_turns h m who q =
    let parts = and_parts (has_element h.nodes who) (is_active h.diary who && not (is_paused h.diary who)) q in
    record {
      known = parts.0;
      own =
          paused_push h.diary (record { moment = m; step = Paused who }) who
          ∙ ap (λ t. is_active h.diary who && (t || pausing h.diary who)) (eq-eqb who who refl)
          ∙ and_from (is_active h.diary who) true (and_parts (is_active h.diary who) (not (is_paused h.diary who)) parts.1).0 refl;
      others = λ s other.
          paused_push h.diary (record { moment = m; step = Paused who }) s
          ∙ ap (λ t. is_active h.diary s && (t || pausing h.diary s)) (swap_eqb s who other);
    }

other_than : (s who other : ℕ) → other == who ≡ true → s == who ≡ false → other == s ≡ false
other_than s who other e q = swap_eqb s other (ap (λ x. s == x) (eqb-true other who e) ∙ q)

-- a resume, an end or a cut of the element
ended_by : (s who : ℕ) (active pausing : Bool) (step : Step) → ends_pause who step ≡ true → s == who ≡ false → paused_by s active pausing step ≡ (active && pausing)
ended_by s who active pausing (Resumed other) e q = ap (λ t. active && cond t false pausing) (other_than s who other e q)
ended_by s who active pausing (Ended other end') e q = ap (λ t. cond t false active && pausing) (other_than s who other e q)
ended_by s who active pausing (Cut other) e q = ap (λ t. cond t false active && pausing) (other_than s who other e q)
ended_by s who active pausing _ e q = cc

ended_own : (who : ℕ) (active pausing : Bool) (step : Step) → ends_pause who step ≡ true → paused_by who active pausing step ≡ false
ended_own who active pausing (Resumed other) e = ap (λ t. active && cond t false pausing) e ∙ and_right active false refl
ended_own who active pausing (Ended other end') e = ap (λ t. cond t false active && pausing) e
ended_own who active pausing (Cut other) e = ap (λ t. cond t false active && pausing) e
ended_own who active pausing _ e = cc

pub ended_known : (h : History) (who : ℕ) (step : Step) → ends_pause who step ≡ true → is_lawful_step h step ≡ true → has_element h.nodes who ≡ true
ended_known h who (Resumed other) e q = ap (has_element h.nodes) (sym (eqb-true other who e)) ∙ (and_parts (has_element h.nodes other) (is_paused h.diary other) q).0
ended_known h who (Ended other end') e q = ap (has_element h.nodes) (sym (eqb-true other who e)) ∙ (and_parts (has_element h.nodes other) (is_active h.diary other) q).0
ended_known h who (Cut other) e q = ap (has_element h.nodes) (sym (eqb-true other who e)) ∙ (and_parts (has_element h.nodes other) (is_active h.diary other) q).0
ended_known h who _ e q = cc

pub end_turns : (h : History) (m : ℤ) (who : ℕ) (step : Step) → ends_pause who step ≡ true → is_lawful_step h step ≡ true → Turns h (record { moment = m; step = step }) who false
end_turns h m who step e q = record {
  known = ended_known h who step e q;
  own = paused_push h.diary (record { moment = m; step = step }) who ∙ ended_own who (is_active h.diary who) (pausing h.diary who) step e;
  others = λ s other. paused_push h.diary (record { moment = m; step = step }) s ∙ ended_by s who (is_active h.diary s) (pausing h.diary s) step e other;
}

-- ---- entries by which nobody is paused or no longer paused

-- an end of what isn't paused
idle : (s who : ℕ) (ds : List Entry) (a p : Bool) → is_paused ds who ≡ false → (who == s ≡ true → (a && p) ≡ false) → (who == s ≡ false → (a && p) ≡ is_paused ds s) → (a && p) ≡ is_paused ds s
idle s who ds a p none here there = by (who == s) refl
  where
    by : (t : Bool) → who == s ≡ t → (a && p) ≡ is_paused ds s
    by true e = here e ∙ sym (ap (is_paused ds) (sym (eqb-true who s e)) ∙ none)
    by false e = there e

ended_idle : (h : History) (s who : ℕ) → is_paused h.diary who ≡ false → (cond (who == s) false (is_active h.diary s) && pausing h.diary s) ≡ is_paused h.diary s
ended_idle h s who none =
    let by : Bool → Bool = λ t. cond t false (is_active h.diary s) && pausing h.diary s in
    idle s who h.diary (cond (who == s) false (is_active h.diary s)) (pausing h.diary s) none (λ e. ap by e) (λ e. ap by e)

stays_by : (h : History) (s : ℕ) (step : Step) → is_lawful_step h step ≡ true → changes_clocks h step ≡ false → paused_by s (is_active h.diary s) (pausing h.diary s) step ≡ is_paused h.diary s
stays_by h s (Began who begin) q c =
    idle s who h.diary ((who == s) || is_active h.diary s) (cond (who == s) false (pausing h.diary s))
    (and_left (is_active h.diary who) (pausing h.diary who) (not-true (is_active h.diary who) (and_parts (is_alive h who) (not (is_active h.diary who)) (and_parts (has_element h.nodes who) (may_begin h who) q).1).1))
    (λ e. and_right ((who == s) || is_active h.diary s) (cond (who == s) false (pausing h.diary s)) (ap (λ t. cond t false (pausing h.diary s)) e))
    (λ e. ap (λ t. (t || is_active h.diary s) && cond t false (pausing h.diary s)) e)
stays_by h s (Ended who end') q c = ended_idle h s who c
stays_by h s (Cut who) q c = ended_idle h s who c
stays_by h s (Resumed who) q c =
    idle s who h.diary (is_active h.diary s) (cond (who == s) false (pausing h.diary s)) c
    (λ e. and_right (is_active h.diary s) (cond (who == s) false (pausing h.diary s)) (ap (λ t. cond t false (pausing h.diary s)) e))
    (λ e. ap (λ t. is_active h.diary s && cond t false (pausing h.diary s)) e)
stays_by h s (Paused who) q c = cc
stays_by h s _ q c = refl

pub stays : (h : History) (y : Entry) (s : ℕ) → is_lawful_step h y.step ≡ true → changes_clocks h y.step ≡ false → is_paused (h.diary ++ y ∷ []) s ≡ is_paused h.diary s
stays h y s q c = paused_push h.diary y s ∙ stays_by h s y.step q c
