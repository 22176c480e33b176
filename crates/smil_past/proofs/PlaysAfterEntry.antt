-- The plays of an element after one entry more, and what is kept of them.
use Rattle.std.proofs.Common.{◌≡◌, refl, sym, ◌∙◌, ap, ℕ, List, [], ◌∷◌, ◌++◌, ℤ, Bool, true, false, Option, Some, None}
use Rattle.std.specs.Prelude.{cond, int_le, fold, ◌==◌, ◌||◌, option_map, is_some}
use Rattle.std.specs.List.{AllByRecursion, last_or}
use Rattle.std.specs.Option.{option_or}
use Rattle.std.proofs.lemmas.Bool.{cond_both, eqb-true}
use Rattle.smil_model.specs.declared.diary.Entry.{Entry}
use Rattle.smil_model.specs.declared.diary.Step.{Step}
use Rattle.smil_model.specs.declared.diary.Step.TheVariants.{Began, Repeated, Ended, Cut}
use Rattle.smil_model.specs.declared.document.Node.{Node}
use Rattle.smil_model.specs.document.Document.{time_parent}
use Rattle.smil_model.specs.diary.Diary.{History, active_after, is_active, with_entry}
use Rattle.smil_model.specs.diary.Lawful.{IsLawful}
use Rattle.smil_model.specs.diary.Plays.{PlayEdge, FinishedInterval, Plays, finish_with, play_after, is_birth_under, plays, first_of}
use Rattle.smil_model.specs.shown.Views.{document_value}
use Rattle.smil_diary.proofs.TestChoices.{chosen}
use Rattle.smil_stretch.proofs.ClockAtMoment.{EachUntil}
use Rattle.smil_past.specs.Played.{past_interval}
use Rattle.smil_past.proofs.ClocksAtEntry.{outer_with, document_with, each_until, fold_with}

abbrev pub follow : History → ℕ → Plays → Entry → Plays
follow h s so_far x =
    cond (is_birth_under (time_parent h.nodes s) x.step) (record { present = so_far.present; finished = [] })
    (play_after h s x.moment so_far x.step)

abbrev pub no_plays : Plays
no_plays = record { present = None; finished = [] }

-- ---- one entry more

module _ (h : History) (y : Entry) (s : ℕ) (lawful : IsLawful (with_entry h y)) where
  pub after_same : (m : ℤ) → int_le m y.moment ≡ true → (b : Plays) (step : Step) → play_after (with_entry h y) s m b step ≡ play_after h s m b step
  after_same m le b (Cut who) = ap (λ o. cond (who == s) (record { present = None; finished = finish_with b.present (record { value = o; moment = m }) true b.finished }) b) (outer_with h y s m le)
  after_same m le b _ = refl

  pub plays_with : plays (with_entry h y) s ≡ follow h s (plays h s) y
  plays_with =
      fold_with (follow (with_entry h y) s) (follow h s) h y lawful
      (λ b x le. ap (λ r. cond (is_birth_under (time_parent h.nodes s) x.step) (record { present = b.present; finished = [] }) r) (after_same x.moment le b x.step))
      no_plays

-- ---- a birth under the time parent is no step of the element

module _ (h : History) (s : ℕ) (apart : (p : Node) → time_parent h.nodes s ≡ Some p → p.serial == s ≡ false) where
  other : (who p : ℕ) → p == s ≡ false → who == p ≡ true → who == s ≡ false
  other who p far is = ap (λ n. n == s) (eqb-true who p is) ∙ far

  pub birth_other : (m : ℤ) (b : Plays) (step : Step) → is_birth_under (time_parent h.nodes s) step ≡ true → play_after h s m b step ≡ b
  birth_other m b step q = under (time_parent h.nodes s) refl step q
    where
      under : (o : Option Node) → time_parent h.nodes s ≡ o → (st : Step) → is_birth_under o st ≡ true → play_after h s m b st ≡ b
      under None e st r = cc
      under (Some p) e (Began who begin) r = ap (λ t. cond t (record { present = Some (record { value = begin; moment = m }); finished = b.finished }) b) (other who p.serial (apart p e) r)
      under (Some p) e (Repeated who start) r = refl
      under (Some p) e _ r = cc

  -- so the present play is that after the step
  pub present_then : (b : Plays) (x : Entry) → (follow h s b x).present ≡ (play_after h s x.moment b x.step).present
  present_then b x = by_test (is_birth_under (time_parent h.nodes s) x.step) refl
    where
      by_test : (t : Bool) → is_birth_under (time_parent h.nodes s) x.step ≡ t → (cond t (record { present = b.present; finished = [] }) (play_after h s x.moment b x.step)).present ≡ (play_after h s x.moment b x.step).present
      by_test true q = ap (λ (r : Plays). r.present) (sym (birth_other x.moment b x.step q))
      by_test false q = refl

  pub finished_then : (b : Plays) (x : Entry) → (follow h s b x).finished ≡ cond (is_birth_under (time_parent h.nodes s) x.step) [] (play_after h s x.moment b x.step).finished
  finished_then b x = chosen (λ (p : Plays). p.finished) (λ fs. fs) (is_birth_under (time_parent h.nodes s) x.step) _ _ _ _ refl refl

  -- an element has a present play while it is active
  active_step : (m : ℤ) (b : Plays) (a : Bool) (step : Step) → is_some b.present ≡ a → is_some (play_after h s m b step).present ≡ active_after s a step
  active_step m b a (Began who begin) q = by_own (who == s)
    where
      by_own : (t : Bool) → is_some (cond t (record { present = Some (record { value = begin; moment = m }); finished = b.finished }) b).present ≡ (t || a)
      by_own true = refl
      by_own false = q
  active_step m b a (Ended who end') q = chosen (λ (p : Plays). is_some p.present) (λ x. x) (who == s) _ _ _ _ refl q
  active_step m b a (Cut who) q = chosen (λ (p : Plays). is_some p.present) (λ x. x) (who == s) _ _ _ _ refl q
  active_step m b a _ q = q

  active_from : (b : Plays) (a : Bool) (ds : List Entry) → is_some b.present ≡ a → is_some (fold (follow h s) b ds).present ≡ fold (λ before (x : Entry). active_after s before x.step) a ds
  active_from b a [] q = q
  active_from b a (x ∷ xs) q = active_from (follow h s b x) (active_after s a x.step) xs (ap is_some (present_then b x) ∙ active_step x.moment b a x.step q)

  pub active_is : is_some (plays h s).present ≡ is_active h.diary s
  active_is = active_from no_plays false h.diary refl

-- ---- no mark is later than a moment

abbrev pub IsMarked : ℤ → Option PlayEdge → Type 0
IsMarked m None = Unit {0}
IsMarked m (Some k) = int_le k.moment m ≡ true

pub record IsUntil (m : ℤ) (f : FinishedInterval) : Type 0 where
  pub begin : int_le f.begin.moment m ≡ true
  pub finish : int_le f.finish.moment m ≡ true

pub record AreUntil (m : ℤ) (b : Plays) : Type 0 where
  pub present : IsMarked m b.present
  pub finished : AllByRecursion (IsUntil m) b.finished

each_more : (m : ℤ) (fs : List FinishedInterval) (f : FinishedInterval) → AllByRecursion (IsUntil m) fs → IsUntil m f → AllByRecursion (IsUntil m) (fs ++ f ∷ [])
each_more m [] f each is = (is, tt)
each_more m (g ∷ gs) f each is = (each.0, each_more m gs f each.1 is)

finish_until : (m : ℤ) (o : Option PlayEdge) (k : PlayEdge) (cut : Bool) (fs : List FinishedInterval) → IsMarked m o → int_le k.moment m ≡ true → AllByRecursion (IsUntil m) fs → AllByRecursion (IsUntil m) (finish_with o k cut fs)
finish_until m None k cut fs is le each = each
finish_until m (Some b) k cut fs is le each = each_more m fs _ each (record { begin = is; finish = le })

module _ (h : History) (s : ℕ) (m : ℤ) where
  pub until_after : (at : ℤ) → int_le at m ≡ true → (b : Plays) (step : Step) → AreUntil m b → AreUntil m (play_after h s at b step)
  until_after at le b (Began who begin) are =
      cond_both (who == s) _ b (AreUntil m) (λ e. record { present = le; finished = are.finished }) (λ e. are)
  until_after at le b (Ended who end') are =
      cond_both (who == s) _ b (AreUntil m) (λ e. record { present = tt; finished = finish_until m b.present _ false b.finished are.present le are.finished }) (λ e. are)
  until_after at le b (Cut who) are =
      cond_both (who == s) _ b (AreUntil m) (λ e. record { present = tt; finished = finish_until m b.present _ true b.finished are.present le are.finished }) (λ e. are)
  until_after at le b _ are = are

  until_follow : (b : Plays) (x : Entry) → int_le x.moment m ≡ true → AreUntil m b → AreUntil m (follow h s b x)
  until_follow b x le are =
      cond_both (is_birth_under (time_parent h.nodes s) x.step) _ _ (AreUntil m) (λ e. record { present = are.present; finished = tt }) (λ e. until_after x.moment le b x.step are)

  until_fold : (b : Plays) (ds : List Entry) → EachUntil m ds → AreUntil m b → AreUntil m (fold (follow h s) b ds)
  until_fold b [] each are = are
  until_fold b (x ∷ xs) each are = until_fold (follow h s b x) xs each.1 (until_follow b x each.0 are)

pub plays_until : (h : History) (y : Entry) (s : ℕ) → IsLawful (with_entry h y) → AreUntil y.moment (plays h s)
plays_until h y s lawful = until_fold h s y.moment no_plays h.diary (each_until h y lawful) (record { present = tt; finished = tt })

-- ---- so what is shown of them stays

module _ (h : History) (y : Entry) (s : ℕ) where
  pub mark_with : (k : PlayEdge) → int_le k.moment y.moment ≡ true → document_value (with_entry h y) s k ≡ document_value h s k
  mark_with k le = document_with h y s k.value k.moment le

  pub past_with : (f : FinishedInterval) → IsUntil y.moment f → past_interval (with_entry h y) s f ≡ past_interval h s f
  past_with f is =
      ap (λ v. record { begin = f.begin.value; finish = f.finish.value; shown_begin = v; shown_finish = document_value (with_entry h y) s f.finish; was_cut = f.was_cut }) (mark_with f.begin is.begin)
      ∙ ap (λ v. record { begin = f.begin.value; finish = f.finish.value; shown_begin = document_value h s f.begin; shown_finish = v; was_cut = f.was_cut }) (mark_with f.finish is.finish)

  pub first_with : (fs : List FinishedInterval) → AllByRecursion (IsUntil y.moment) fs → option_map (past_interval (with_entry h y) s) (first_of fs) ≡ option_map (past_interval h s) (first_of fs)
  first_with [] each = refl
  first_with (f ∷ fs) each = ap Some (past_with f each.0)

  last_from : (o : Option FinishedInterval) (fs : List FinishedInterval) → option_map (past_interval (with_entry h y) s) o ≡ option_map (past_interval h s) o → AllByRecursion (IsUntil y.moment) fs → option_map (past_interval (with_entry h y) s) (last_or o fs) ≡ option_map (past_interval h s) (last_or o fs)
  last_from o [] q each = q
  last_from o (f ∷ fs) q each = last_from (Some f) fs (ap Some (past_with f each.0)) each.1

  pub last_with : (fs : List FinishedInterval) → AllByRecursion (IsUntil y.moment) fs → option_map (past_interval (with_entry h y) s) (last_or None fs) ≡ option_map (past_interval h s) (last_or None fs)
  last_with fs each = last_from None fs refl each

-- ---- the first and the last of one more

pub first_more : {A : Type 0} (xs : List A) (x : A) → first_of (xs ++ x ∷ []) ≡ option_or (first_of xs) (Some x)
first_more [] x = refl
first_more (z ∷ zs) x = refl

pub last_more : {A : Type 0} (o : Option A) (xs : List A) (x : A) → last_or o (xs ++ x ∷ []) ≡ Some x
last_more o [] x = refl
last_more o (z ∷ zs) x = last_more (Some z) zs x
