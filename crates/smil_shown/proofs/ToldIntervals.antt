-- What one entry more tells of an element's intervals.
use Rattle.std.proofs.Common.{◌≡◌, refl, sym, ◌∙◌, ap, subst, zero, suc, ℕ, ℤ, List, [], ◌∷◌, ◌++◌, append-nil, append_assoc, map, cond, Bool, true, false, Option, Some, None, eq-eqb, pos, arith}
use Rattle.std.specs.Prelude.{◌==◌, ◌+ℤ◌, ◌-ℤ◌, ◌≤ℤ◌, fold, flat_map, option_map, slice_get, if◌then◌else◌}
use Rattle.std.specs.List.{AllByRecursion}
use Rattle.std.proofs.lemmas.Int.{ints}
use Rattle.std.proofs.lemmas.List.{map-append}
use Rattle.std.proofs.lemmas.Grind.{flat_map-append}
use Rattle.smil_model.specs.declared.diary.Entry.{Entry}
use Rattle.smil_model.specs.declared.diary.Step.{Step}
use Rattle.smil_model.specs.declared.diary.Step.TheVariants.{Began, Repeated, Ended, Cut, Paused, Resumed, Deferred, Passed, Logged}
use Rattle.smil_model.specs.declared.order.Who.{Who}
use Rattle.smil_model.specs.declared.view.How.TheVariants as how
use Rattle.smil_model.specs.declared.view.Shown.TheVariants as shown
use Rattle.smil_model.specs.diary.Clocks.{outer, to_document}
use Rattle.smil_model.specs.diary.Diary.{History, last_moment, with_entry}
use Rattle.smil_model.specs.diary.Lawful.{IsLawful}
use Rattle.smil_model.specs.diary.Plays.{FinishedInterval, PlayEdge, Plays, finish_with, play_after}
use Rattle.smil_model.specs.shown.Histories.{ShownInterval as ToldInterval, all_plays, told_finished}
use Rattle.smil_model.specs.shown.Views.{document_value}
use Rattle.smil_model.proofs.NumberOrders.{le_self, le_from}
use Rattle.smil_model.specs.shown.Answers.{told_line}
use Rattle.smil_laws.specs.Near.{AllNear, HasNear}
use Rattle.smil_stretch.specs.Clocks.{AreClocksOf}
use Rattle.smil_stretch.specs.declared.clock.NodeClock.{NodeClock}
use Rattle.smil_stretch.proofs.ClockAtMoment.{EachUntil, rising_push}
use Rattle.smil_past.proofs.ClocksAtEntry.{each_until, fold_with}
use Rattle.smil_past.specs.Followed.{shown_begun_after}
use Rattle.smil_past.proofs.PlaysAfterEntry.{AreUntil, IsMarked, IsUntil, mark_with, until_after, after_same}
use Rattle.smil_shown.specs.declared.interval_teller.IntervalTeller.{IntervalTeller}
use Rattle.smil_shown.specs.Histories.{IsTold, begin_after, closed_by, closed_text, finish_line, finished_text, told_begin}

-- ---- the plays after one entry more

module _ (h : History) (y : Entry) (s : ℕ) (lawful : IsLawful (with_entry h y)) where
  pub plays_more : all_plays (with_entry h y) s ≡ play_after h s y.moment (all_plays h s) y.step
  plays_more =
      fold_with (λ b (x : Entry). play_after (with_entry h y) s x.moment b x.step) (λ b (x : Entry). play_after h s x.moment b x.step) h y lawful
      (λ b x le. after_same h y s lawful x.moment le b x.step)
      (record { present = None; finished = [] })

-- ---- no mark is later than a moment

module _ (h : History) (s : ℕ) (m : ℤ) where
  until_fold : (b : Plays) (ds : List Entry) → EachUntil m ds → AreUntil m b → AreUntil m (fold (λ p (x : Entry). play_after h s x.moment p x.step) b ds)
  until_fold b [] each are = are
  until_fold b (x ∷ xs) each are = until_fold (play_after h s x.moment b x.step) xs each.1 (until_after h s m x.moment each.0 b x.step are)

all_until : (h : History) (y : Entry) (s : ℕ) → IsLawful (with_entry h y) → AreUntil y.moment (all_plays h s)
all_until h y s lawful = until_fold h s y.moment (record { present = None; finished = [] }) h.diary (each_until h y lawful) (record { present = tt; finished = tt })

-- ---- so what is told of them stays

abbrev lines : History → ℕ → Who → List FinishedInterval → List ℕ
lines h s name fs = flat_map (told_line name) (map (told_finished h s) fs)

abbrev shown_mark : History → ℕ → Option PlayEdge → Option ℤ
shown_mark h s o = option_map (document_value h s) o

module _ (h : History) (y : Entry) (s : ℕ) (name : Who) where
  told_with : (f : FinishedInterval) → IsUntil y.moment f → told_finished (with_entry h y) s f ≡ told_finished h s f
  told_with f is =
      ap (λ v. record { begin = shown.At v; finish = shown.At (document_value (with_entry h y) s f.finish); how = if f.was_cut then how.Cut else how.Ended }) (mark_with h y s f.begin is.begin)
      ∙ ap (λ v. record { begin = shown.At (document_value h s f.begin); finish = shown.At v; how = if f.was_cut then how.Cut else how.Ended }) (mark_with h y s f.finish is.finish)

  lines_with : (fs : List FinishedInterval) → AllByRecursion (IsUntil y.moment) fs → lines (with_entry h y) s name fs ≡ lines h s name fs
  lines_with [] each = refl
  lines_with (f ∷ fs) each =
      ap (λ (t : ToldInterval). told_line name t ++ lines (with_entry h y) s name fs) (told_with f each.0)
      ∙ ap (λ l. told_line name (told_finished h s f) ++ l) (lines_with fs each.1)

mark_kept : (h : History) (y : Entry) (s : ℕ) (o : Option PlayEdge) → IsMarked y.moment o → shown_mark (with_entry h y) s o ≡ shown_mark h s o
mark_kept h y s None is = refl
mark_kept h y s (Some k) is = ap Some (mark_with h y s k is)

-- ---- what a step makes of them

module _ (h : History) (s : ℕ) (m : ℤ) where
  begin_step : (b : Plays) (step : Step) → shown_mark h s (play_after h s m b step).present ≡ shown_begun_after h s m (shown_mark h s b.present) step
  begin_step b (Began who begin) = by_own (who == s)
    where
      by_own : (t : Bool) → shown_mark h s (cond t (record { present = Some (record { value = begin; moment = m }); finished = b.finished }) b).present ≡ cond t (Some (to_document h s begin m)) (shown_mark h s b.present)
      by_own true = refl
      by_own false = refl
  begin_step b (Ended who end') = by_own (who == s)
    where
      by_own : (t : Bool) → shown_mark h s (cond t (record { present = None; finished = finish_with b.present (record { value = end'; moment = m }) false b.finished }) b).present ≡ cond t None (shown_mark h s b.present)
      by_own true = refl
      by_own false = refl
  begin_step b (Cut who) = by_own (who == s)
    where
      by_own : (t : Bool) → shown_mark h s (cond t (record { present = None; finished = finish_with b.present (record { value = outer h s m; moment = m }) true b.finished }) b).present ≡ cond t None (shown_mark h s b.present)
      by_own true = refl
      by_own false = refl
  begin_step b (Repeated who start) = refl
  begin_step b (Paused who) = refl
  begin_step b (Resumed who) = refl
  begin_step b (Deferred who begin) = refl
  begin_step b (Passed who begin) = refl
  begin_step b (Logged place) = refl

finish_lines : (h : History) (s : ℕ) (name : Who) (o : Option PlayEdge) (k : PlayEdge) (cut : Bool) (fs : List FinishedInterval) → lines h s name (finish_with o k cut fs) ≡ lines h s name fs ++ finish_line name (shown_mark h s o) (document_value h s k) (if cut then how.Cut else how.Ended)
finish_lines h s name None k cut fs = sym (append-nil (lines h s name fs))
finish_lines h s name (Some b) k cut fs =
    let f : FinishedInterval = record { begin = b; finish = k; was_cut = cut } in
    ap (flat_map (told_line name)) (map-append (told_finished h s) fs (f ∷ []))
    ∙ flat_map-append (told_line name) (map (told_finished h s) fs) (told_finished h s f ∷ [])
    ∙ ap (λ l. lines h s name fs ++ l) (append-nil (told_line name (told_finished h s f)))

back : (m o : ℤ) → m +ℤ (o -ℤ o) ≡ m
back m o = omega (arith, ints)

module _ (h : History) (s : ℕ) (m : ℤ) (name : Who) where
  text_step : (b : Plays) (step : Step) → lines h s name (play_after h s m b step).finished ≡ lines h s name b.finished ++ closed_by h s name m (shown_mark h s b.present) step
  text_step b (Began who begin) = by_own (who == s) ∙ sym (append-nil (lines h s name b.finished))
    where
      by_own : (t : Bool) → lines h s name (cond t (record { present = Some (record { value = begin; moment = m }); finished = b.finished }) b).finished ≡ lines h s name b.finished
      by_own true = refl
      by_own false = refl
  text_step b (Ended who end') = by_own (who == s)
    where
      by_own : (t : Bool) → lines h s name (cond t (record { present = None; finished = finish_with b.present (record { value = end'; moment = m }) false b.finished }) b).finished ≡ lines h s name b.finished ++ cond t (finish_line name (shown_mark h s b.present) (to_document h s end' m) how.Ended) []
      by_own true = finish_lines h s name b.present (record { value = end'; moment = m }) false b.finished
      by_own false = sym (append-nil (lines h s name b.finished))
  text_step b (Cut who) = by_own (who == s)
    where
      by_own : (t : Bool) → lines h s name (cond t (record { present = None; finished = finish_with b.present (record { value = outer h s m; moment = m }) true b.finished }) b).finished ≡ lines h s name b.finished ++ cond t (finish_line name (shown_mark h s b.present) m how.Cut) []
      by_own true =
          finish_lines h s name b.present (record { value = outer h s m; moment = m }) true b.finished
          ∙ ap (λ z. lines h s name b.finished ++ finish_line name (shown_mark h s b.present) z how.Cut) (back m (outer h s m))
      by_own false = sym (append-nil (lines h s name b.finished))
  text_step b (Repeated who start) = sym (append-nil (lines h s name b.finished))
  text_step b (Paused who) = sym (append-nil (lines h s name b.finished))
  text_step b (Resumed who) = sym (append-nil (lines h s name b.finished))
  text_step b (Deferred who begin) = sym (append-nil (lines h s name b.finished))
  text_step b (Passed who begin) = sym (append-nil (lines h s name b.finished))
  text_step b (Logged place) = sym (append-nil (lines h s name b.finished))

module _ (h : History) (y : Entry) (s : ℕ) (lawful : IsLawful (with_entry h y)) where
  next_until : AreUntil y.moment (play_after h s y.moment (all_plays h s) y.step)
  next_until = until_after h s y.moment y.moment (le_self y.moment) (all_plays h s) y.step (all_until h y s lawful)

  pub begin_more : told_begin (with_entry h y) s ≡ begin_after h y s
  begin_more =
      ap (λ (p : Plays). shown_mark (with_entry h y) s p.present) (plays_more h y s lawful)
      ∙ mark_kept h y s (play_after h s y.moment (all_plays h s) y.step).present next_until.present
      ∙ begin_step h s y.moment (all_plays h s) y.step

  pub text_more : (name : Who) → finished_text (with_entry h y) s name ≡ finished_text h s name ++ closed_text h y s name
  text_more name =
      ap (λ (p : Plays). lines (with_entry h y) s name p.finished) (plays_more h y s lawful)
      ∙ lines_with h y s name (play_after h s y.moment (all_plays h s) y.step).finished next_until.finished
      ∙ text_step h s y.moment name (all_plays h s) y.step

-- one entry more is told
pub followed : (h : History) (y : Entry) (name : Who) (start : List ℕ) (told new : IntervalTeller) (text more : List ℕ) → IsTold h name start told text → IsLawful (with_entry h y)
    → new.who ≡ told.who → AreClocksOf new.clocks (with_entry h y) → new.present ≡ begin_after h y told.who → more ≡ text ++ closed_text h y told.who name
    → IsTold (with_entry h y) name start new more
followed h y name start told new text more is lawful who clocks present appended = record {
  clocks_are = clocks;
  present_is = present ∙ sym (begin_more h y told.who lawful) ∙ ap (told_begin (with_entry h y)) (sym who);
  text_is =
      appended ∙ ap (λ t. t ++ closed_text h y told.who name) is.text_is
      ∙ append_assoc start (finished_text h told.who name) (closed_text h y told.who name)
      ∙ ap (λ t. start ++ t) (sym (text_more h y told.who lawful name) ∙ ap (λ w. finished_text (with_entry h y) w name) (sym who));
}

-- ---- what the code reads off the clocks

after_last : (h : History) (y : Entry) → IsLawful (with_entry h y) → last_moment h.diary ≤ℤ y.moment
after_last h y lawful = le_from (last_moment h.diary) y.moment (rising_push (pos 0) h.diary y lawful.moments).1

pub read_shown : (h : History) (y : Entry) (clocks : List NodeClock) (s who : ℕ) (v at value result : ℤ) → at ≡ y.moment → value ≡ v → who ≡ s
    → ((k : History) → AreClocksOf clocks k → last_moment k.diary ≤ℤ at → result ≡ to_document k who value at)
    → AreClocksOf clocks h → IsLawful (with_entry h y) → result ≡ to_document h s v y.moment
read_shown h y clocks s who v at value result same is own tells known lawful =
    tells h known (subst (λ (m : ℤ). last_moment h.diary ≤ℤ m) (sym same) (after_last h y lawful))
    ∙ ap (λ (z : ℤ). to_document h who z at) is ∙ ap (λ (w : ℕ). to_document h w v at) own ∙ ap (to_document h s v) same

pub began_shown : (h : History) (y : Entry) (s who : ℕ) (b result : ℤ) → y.step ≡ Began who b → who ≡ s → result ≡ to_document h s b y.moment → Some result ≡ begin_after h y s
began_shown h y s who b result step own is =
    let t : (who == s) ≡ true = eq-eqb who s own in
    let read : shown_begun_after h s y.moment (told_begin h s) (Began who b) ≡ Some (to_document h s b y.moment) = rw t refl in
    ap Some is ∙ sym read ∙ ap (shown_begun_after h s y.moment (told_begin h s)) (sym step)

pub ended_text : (h : History) (y : Entry) (s who : ℕ) (name : Who) (e result : ℤ) → y.step ≡ Ended who e → who ≡ s → result ≡ to_document h s e y.moment → finish_line name (told_begin h s) result how.Ended ≡ closed_text h y s name
ended_text h y s who name e result step own is =
    let t : (who == s) ≡ true = eq-eqb who s own in
    let read : closed_by h s name y.moment (told_begin h s) (Ended who e) ≡ finish_line name (told_begin h s) (to_document h s e y.moment) how.Ended = rw t refl in
    ap (λ z. finish_line name (told_begin h s) z how.Ended) is ∙ sym read ∙ ap (closed_by h s name y.moment (told_begin h s)) (sym step)

-- ---- the entries of a diary

pub near_at : (ds : List Entry) (k : ℕ) (x : Entry) → AllNear ds → slice_get ds k ≡ Some x → HasNear x.step
near_at [] k x near q = cc
near_at (d ∷ ds) zero x near q =
    let is : d ≡ x = cc in
    let P : Entry → Type 0 = λ e. HasNear e.step in subst P is near.0
near_at (d ∷ ds) (suc k) x near q = near_at ds k x near.1 q
