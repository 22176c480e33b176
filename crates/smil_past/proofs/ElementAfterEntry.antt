-- What is kept of an element after one entry more.
use Rattle.std.proofs.Common.{◌≡◌, refl, sym, ◌∙◌, ap, ℕ, ◌<◌, List, [], ◌∷◌, ◌++◌, length, ℤ, pos, Bool, true, false, Option, Some, None}
use Rattle.std.specs.Prelude.{cond, int_le, fold, ◌==◌, ◌||◌, ◌&&◌, not, option_map, option_and_then, is_some, unwrap_or, slice_get}
use Rattle.std.specs.List.{AllByRecursion, last_or}
use Rattle.std.specs.Option.{option_or}
use Rattle.std.proofs.lemmas.Bool.{cond_both, eqb-true, and_parts}
use Rattle.smil_model.specs.declared.times.Time.{Time}
use Rattle.smil_model.specs.declared.times.Time.TheVariants.{Unresolved}
use Rattle.smil_model.specs.declared.diary.Entry.{Entry}
use Rattle.smil_model.specs.declared.diary.LogEntry.{LogEntry}
use Rattle.smil_model.specs.declared.diary.Happening.{Happening}
use Rattle.smil_model.specs.declared.diary.Happening.TheVariants.{Media}
use Rattle.smil_model.specs.declared.diary.Step.{Step}
use Rattle.smil_model.specs.declared.diary.Step.TheVariants.{Began, Repeated, Ended, Cut, Deferred, Passed, Logged}
use Rattle.smil_model.specs.declared.document.Node.{Node}
use Rattle.smil_model.specs.declared.limits.TheConstants.{DIARY_ENTRIES}
use Rattle.smil_model.specs.document.Document.{time_parent}
use Rattle.smil_model.specs.diary.Diary.{History, active_after, is_active, lives_under, is_alive, since_birth, birth, deferral, deferral_after, iteration_after, with_entry}
use Rattle.smil_model.specs.diary.Lawful.{IsLawful, has_element, may_begin, is_lawful_step}
use Rattle.smil_model.specs.diary.Clocks.{outer, to_document, play_start, play_start_after, iteration_start, iteration_start_after}
use Rattle.smil_model.specs.diary.Plays.{PlayEdge, FinishedInterval, Plays, finish_with, play_after, is_birth_under, plays, first_of, passed, passed_after}
use Rattle.smil_model.specs.interval.Current.{logged_length, length_of, length_after, media_length}
use Rattle.smil_model.specs.shown.Views.{document_value, deferred_begin, present_begin}
use Rattle.smil_model.proofs.NumberOrders.{le_self}
use Rattle.smil_laws.proofs.LawfulSteps.{active_push}
use Rattle.smil_diary.proofs.TestChoices.{chosen, same_choice}
use Rattle.smil_stretch.proofs.ClockAtMoment.{EachUntil}
use Rattle.smil_stretch.proofs.LawfulDiaries.{lawful_last}
use Rattle.smil_past.specs.declared.plays.facts.PastInterval.{PastInterval}
use Rattle.smil_past.specs.Played.{past_interval, played}
use Rattle.smil_past.specs.Followed.{is_death_under, begun_after, shown_begun_after, finished_after, finished_interval, has_begun_after, interval_finished_by, number_after, shown_deferred_after, told_by, told_after, none_if, row_after, zero_if}
use Rattle.smil_past.proofs.Counted.{begun_step as begun_counted, count_few, count_step, number, number_few, number_step, paused_is}
use Rattle.smil_past.proofs.ClocksAtEntry.{document_with, start_with, each_until, each_drop, fold_with}
use Rattle.smil_past.proofs.AliveSinceBirth.{deferred_dead, own_alive, passed_dead, since_hit, since_miss}
use Rattle.smil_past.proofs.PlaysAfterEntry.{plays_with, present_then, finished_then, active_is, plays_until, IsMarked, IsUntil, AreUntil, mark_with, past_with, first_with, last_with, last_more}

abbrev value_of : PlayEdge → ℤ
value_of m = m.value

module _ (h : History) (y : Entry) (s : ℕ) (lawful : IsLawful (with_entry h y)) (apart : (p : Node) → time_parent h.nodes s ≡ Some p → p.serial == s ≡ false) (few : length h.diary < DIARY_ENTRIES) where
  abbrev after : Plays
  after = play_after h s y.moment (plays h s) y.step

  abbrev birth_now : Bool
  birth_now = is_birth_under (time_parent h.nodes s) y.step

  -- ---- the present play

  present_is : (plays (with_entry h y) s).present ≡ after.present
  present_is = ap (λ (b : Plays). b.present) (plays_with h y s lawful) ∙ present_then h s apart (plays h s) y

  finished_is : (plays (with_entry h y) s).finished ≡ cond birth_now [] after.finished
  finished_is = ap (λ (b : Plays). b.finished) (plays_with h y s lawful) ∙ finished_then h s apart (plays h s) y

  abbrev begun_in : Plays → Option ℤ
  begun_in b = option_map value_of b.present

  begun_step : (b : Plays) (step : Step) → option_map value_of (play_after h s y.moment b step).present ≡ begun_after s (option_map value_of b.present) step
  begun_step b (Began who begin) = chosen begun_in (λ o. o) (who == s) _ _ _ _ refl refl
  begun_step b (Ended who end') = chosen begun_in (λ o. o) (who == s) _ _ _ _ refl refl
  begun_step b (Cut who) = chosen begun_in (λ o. o) (who == s) _ _ _ _ refl refl
  begun_step b _ = refl

  begun_is : option_map value_of (plays (with_entry h y) s).present ≡ begun_after s (option_map value_of (plays h s).present) y.step
  begun_is = ap (option_map value_of) present_is ∙ begun_step (plays h s) y.step

  -- the begin of the present play in document time
  shown_of : (k : History) → ((p : Node) → time_parent k.nodes s ≡ Some p → p.serial == s ≡ false) → present_begin k s ≡ option_map (document_value k s) (plays k s).present
  shown_of k far = by_present (plays k s).present (is_active k.diary s) (active_is k s far)
    where
      by_present : (o : Option PlayEdge) (a : Bool) → is_some o ≡ a → cond a (option_map (document_value k s) o) None ≡ option_map (document_value k s) o
      by_present None true q = refl
      by_present None false q = refl
      by_present (Some m) true q = refl
      by_present (Some m) false q = cc

  abbrev shown_in : Plays → Option ℤ
  shown_in p = option_map (document_value (with_entry h y) s) p.present

  shown_step : (b : Plays) → IsMarked y.moment b.present → (step : Step) → option_map (document_value (with_entry h y) s) (play_after h s y.moment b step).present ≡ shown_begun_after h s y.moment (option_map (document_value h s) b.present) step
  shown_step b is step = by_step step
    where
      same : option_map (document_value (with_entry h y) s) b.present ≡ option_map (document_value h s) b.present
      same = by_mark b.present is
        where
          by_mark : (o : Option PlayEdge) → IsMarked y.moment o → option_map (document_value (with_entry h y) s) o ≡ option_map (document_value h s) o
          by_mark None i = refl
          by_mark (Some k) i = ap Some (mark_with h y s k i)

      by_step : (st : Step) → option_map (document_value (with_entry h y) s) (play_after h s y.moment b st).present ≡ shown_begun_after h s y.moment (option_map (document_value h s) b.present) st
      by_step (Began who begin) = chosen shown_in (λ o. o) (who == s) _ _ _ _ (ap Some (document_with h y s begin y.moment (le_self y.moment))) same
      by_step (Ended who end') = chosen shown_in (λ o. o) (who == s) _ _ _ _ refl same
      by_step (Cut who) = chosen shown_in (λ o. o) (who == s) _ _ _ _ refl same
      by_step _ = same

  shown_is : present_begin (with_entry h y) s ≡ shown_begun_after h s y.moment (present_begin h s) y.step
  shown_is =
      shown_of (with_entry h y) apart ∙ ap (option_map (document_value (with_entry h y) s)) present_is
      ∙ shown_step (plays h s) ((plays_until h y s lawful).present) y.step
      ∙ sym (ap (λ o. shown_begun_after h s y.moment o y.step) (shown_of h apart))

  -- ---- starts

  start_is : play_start (with_entry h y) s ≡ play_start_after h s y.moment (play_start h s) y.step
  start_is =
      fold_with (λ before (x : Entry). play_start_after (with_entry h y) s x.moment before x.step)
      (λ before (x : Entry). play_start_after h s x.moment before x.step) h y lawful (λ b x le. each x.moment le b x.step) (pos 0)
    where
      each : (m : ℤ) → int_le m y.moment ≡ true → (b : ℤ) (step : Step) → play_start_after (with_entry h y) s m b step ≡ play_start_after h s m b step
      each m le b (Began who begin) = ap (λ v. cond (who == s) v b) (start_with h y s m begin le)
      each m le b _ = refl

  iteration_is : iteration_start (with_entry h y) s ≡ iteration_start_after h s y.moment (iteration_start h s) y.step
  iteration_is =
      fold_with (λ before (x : Entry). iteration_start_after (with_entry h y) s x.moment before x.step)
      (λ before (x : Entry). iteration_start_after h s x.moment before x.step) h y lawful (λ b x le. each x.moment le b x.step) (pos 0)
    where
      each : (m : ℤ) → int_le m y.moment ≡ true → (b : ℤ) (step : Step) → iteration_start_after (with_entry h y) s m b step ≡ iteration_start_after h s m b step
      each m le b (Began who begin) = ap (λ v. cond (who == s) v b) (start_with h y s m begin le)
      each m le b _ = refl

  -- ---- lengths

  media_is : media_length (with_entry h y) s ≡ told_after h.log s (media_length h s) y.step
  media_is =
      ap (λ o. unwrap_or o Unresolved)
      (fold_with (λ before (x : Entry). length_after h.log s before x.step) (λ before (x : Entry). length_after h.log s before x.step) h y lawful (λ b x le. refl) None)
      ∙ by_step (fold (λ before (x : Entry). length_after h.log s before x.step) None h.diary) y.step
    where
      by_entry : (o : Option Time) (e : Option LogEntry) → unwrap_or (length_of s e o) Unresolved ≡ told_by s e (unwrap_or o Unresolved)
      by_entry o None = refl
      by_entry o (Some e) = by_what e.what
        where
          by_what : (w : Happening) → unwrap_or (logged_length s w o) Unresolved ≡ unwrap_or (logged_length s w (Some (unwrap_or o Unresolved))) Unresolved
          by_what (Media who length) = chosen (λ v. unwrap_or v Unresolved) (λ v. unwrap_or v Unresolved) (who == s) _ _ _ _ refl refl
          by_what _ = refl

      by_step : (o : Option Time) (step : Step) → unwrap_or (length_after h.log s o step) Unresolved ≡ told_after h.log s (unwrap_or o Unresolved) step
      by_step o (Logged place) = by_entry o (slice_get h.log place)
      by_step o _ = refl

  -- ---- finished intervals

  or_none : {A : Type 0} (o : Option A) → option_or o None ≡ o
  or_none None = refl
  or_none (Some x) = refl

  abbrev past_now : FinishedInterval → PastInterval
  past_now = past_interval h s

  abbrev past_then : FinishedInterval → PastInterval
  past_then = past_interval (with_entry h y) s

  close_first : (o : Option PlayEdge) → IsMarked y.moment o → (v : ℤ) (cut : Bool) (fs : List FinishedInterval) → AllByRecursion (IsUntil y.moment) fs → option_map past_then (first_of (finish_with o (record { value = v; moment = y.moment }) cut fs)) ≡ option_or (option_map past_now (first_of fs)) (finished_interval h s y.moment v cut (option_map value_of o) (option_map (document_value h s) o))
  close_first None is v cut fs each = first_with h y s fs each ∙ sym (or_none (option_map past_now (first_of fs)))
  close_first (Some k) is v cut [] each = ap Some (past_with h y s (record { begin = k; finish = record { value = v; moment = y.moment }; was_cut = cut }) (record { begin = is; finish = le_self y.moment }))
  close_first (Some k) is v cut (f ∷ fs) each = ap Some (past_with h y s f each.0)

  close_last : (o : Option PlayEdge) → IsMarked y.moment o → (v : ℤ) (cut : Bool) (fs : List FinishedInterval) → AllByRecursion (IsUntil y.moment) fs → option_map past_then (last_or None (finish_with o (record { value = v; moment = y.moment }) cut fs)) ≡ option_or (finished_interval h s y.moment v cut (option_map value_of o) (option_map (document_value h s) o)) (option_map past_now (last_or None fs))
  close_last None is v cut fs each = last_with h y s fs each
  close_last (Some k) is v cut fs each =
      ap (option_map past_then) (last_more None fs (record { begin = k; finish = record { value = v; moment = y.moment }; was_cut = cut }))
      ∙ ap Some (past_with h y s (record { begin = k; finish = record { value = v; moment = y.moment }; was_cut = cut }) (record { begin = is; finish = le_self y.moment }))

  module _ (b : Plays) (are : AreUntil y.moment b) where
    abbrev begun : Option ℤ
    begun = option_map value_of b.present

    abbrev shown : Option ℤ
    shown = option_map (document_value h s) b.present

    abbrev first_in : Plays → Option PastInterval
    first_in p = option_map past_then (first_of p.finished)

    abbrev last_in : Plays → Option PastInterval
    last_in p = option_map past_then (last_or None p.finished)

    first_rest : option_map past_then (first_of b.finished) ≡ option_or (option_map past_now (first_of b.finished)) None
    first_rest = first_with h y s b.finished are.finished ∙ sym (or_none (option_map past_now (first_of b.finished)))

    last_rest : option_map past_then (last_or None b.finished) ≡ option_map past_now (last_or None b.finished)
    last_rest = last_with h y s b.finished are.finished

    first_step : (step : Step) → option_map past_then (first_of (play_after h s y.moment b step).finished) ≡ option_or (option_map past_now (first_of b.finished)) (interval_finished_by h s y.moment begun shown step)
    first_step (Began who begin) = cond_both (who == s) _ b (λ p. first_in p ≡ option_or (option_map past_now (first_of b.finished)) None) (λ e. first_rest) (λ e. first_rest)
    first_step (Ended who end') =
        chosen first_in (option_or (option_map past_now (first_of b.finished))) (who == s) _ _ _ _ (close_first b.present are.present end' false b.finished are.finished) first_rest
    first_step (Cut who) =
        chosen first_in (option_or (option_map past_now (first_of b.finished))) (who == s) _ _ _ _ (close_first b.present are.present (outer h s y.moment) true b.finished are.finished) first_rest
    first_step _ = first_rest

    last_step : (step : Step) → option_map past_then (last_or None (play_after h s y.moment b step).finished) ≡ option_or (interval_finished_by h s y.moment begun shown step) (option_map past_now (last_or None b.finished))
    last_step (Began who begin) = cond_both (who == s) _ b (λ p. last_in p ≡ option_map past_now (last_or None b.finished)) (λ e. last_rest) (λ e. last_rest)
    last_step (Ended who end') =
        chosen last_in (λ o. option_or o (option_map past_now (last_or None b.finished))) (who == s) _ _ _ _ (close_last b.present are.present end' false b.finished are.finished) last_rest
    last_step (Cut who) =
        chosen last_in (λ o. option_or o (option_map past_now (last_or None b.finished))) (who == s) _ _ _ _ (close_last b.present are.present (outer h s y.moment) true b.finished are.finished) last_rest
    last_step _ = last_rest

  first_is : option_map past_then (first_of (plays (with_entry h y) s).finished) ≡ none_if birth_now (option_or (option_map past_now (first_of (plays h s).finished)) (interval_finished_by h s y.moment (option_map value_of (plays h s).present) (present_begin h s) y.step))
  first_is =
      ap (λ fs. option_map past_then (first_of fs)) finished_is ∙ by_birth birth_now
      ∙ ap (λ o. none_if birth_now (option_or (option_map past_now (first_of (plays h s).finished)) (interval_finished_by h s y.moment (option_map value_of (plays h s).present) o y.step))) (sym (shown_of h apart))
    where
      by_birth : (t : Bool) → option_map past_then (first_of (cond t [] after.finished)) ≡ none_if t (option_or (option_map past_now (first_of (plays h s).finished)) (interval_finished_by h s y.moment (option_map value_of (plays h s).present) (option_map (document_value h s) (plays h s).present) y.step))
      by_birth true = refl
      by_birth false = first_step (plays h s) (plays_until h y s lawful) y.step

  last_is : option_map past_then (last_or None (plays (with_entry h y) s).finished) ≡ none_if birth_now (option_or (interval_finished_by h s y.moment (option_map value_of (plays h s).present) (present_begin h s) y.step) (option_map past_now (last_or None (plays h s).finished)))
  last_is =
      ap (λ fs. option_map past_then (last_or None fs)) finished_is ∙ by_birth birth_now
      ∙ ap (λ o. none_if birth_now (option_or (interval_finished_by h s y.moment (option_map value_of (plays h s).present) o y.step) (option_map past_now (last_or None (plays h s).finished)))) (sym (shown_of h apart))
    where
      by_birth : (t : Bool) → option_map past_then (last_or None (cond t [] after.finished)) ≡ none_if t (option_or (interval_finished_by h s y.moment (option_map value_of (plays h s).present) (option_map (document_value h s) (plays h s).present) y.step) (option_map past_now (last_or None (plays h s).finished)))
      by_birth true = refl
      by_birth false = last_step (plays h s) (plays_until h y s lawful) y.step

  -- ---- what was passed over or deferred since birth

  abbrev pass : Option ℤ → Entry → Option ℤ
  pass before x = passed_after s before x.step

  passed_is : passed (with_entry h y) s ≡ none_if birth_now (passed_after s (passed h s) y.step)
  passed_is = by_birth birth_now refl
    where
      by_birth : (t : Bool) → birth_now ≡ t → passed (with_entry h y) s ≡ none_if t (passed_after s (passed h s) y.step)
      by_birth true q = ap (fold pass None) (since_hit h y s q)
      by_birth false q = since_miss h y s pass None q (passed_dead h y s (lawful_last h y lawful))

  abbrev defer : Option Entry → Entry → Option Entry
  defer before x = deferral_after s x before x.step

  dead_defers : is_alive h s ≡ false → defer None y ≡ None
  dead_defers = deferred_dead h y s (lawful_last h y lawful)

  -- the entry that put it off is not later than this one
  abbrev IsHeld : Option Entry → Type 0
  IsHeld None = Unit {0}
  IsHeld (Some x) = int_le x.moment y.moment ≡ true

  held_step : (o : Option Entry) (x : Entry) → int_le x.moment y.moment ≡ true → IsHeld o → IsHeld (defer o x)
  held_step o x le is = by_step x.step
    where
      none : (t : Bool) → IsHeld (cond t None o)
      none t = cond_both t None o IsHeld (λ e. tt) (λ e. is)

      some : (t : Bool) → IsHeld (cond t (Some x) o)
      some t = cond_both t (Some x) o IsHeld (λ e. le) (λ e. is)

      by_step : (step : Step) → IsHeld (deferral_after s x o step)
      by_step (Began who begin) = none (who == s)
      by_step (Ended who end') = none (who == s)
      by_step (Cut who) = none (who == s)
      by_step (Passed who begin) = none (who == s)
      by_step (Deferred who begin) = some (who == s)
      by_step _ = is

  held_fold : (o : Option Entry) (ds : List Entry) → EachUntil y.moment ds → IsHeld o → IsHeld (fold defer o ds)
  held_fold o [] each is = is
  held_fold o (x ∷ xs) each is = held_fold (defer o x) xs each.1 (held_step o x each.0 is)

  abbrev held : Option Entry
  held = fold defer None (since_birth h s)

  is_held : IsHeld held
  is_held = held_fold None (since_birth h s) (each_drop y.moment (birth h s) h.diary (each_until h y lawful)) tt

  abbrev put_off : History → Option Entry → Option ℤ
  put_off k o = option_and_then (λ (x : Entry). deferred_begin k s x.moment x.step) o

  put_off_same : (o : Option Entry) → IsHeld o → put_off (with_entry h y) o ≡ put_off h o
  put_off_same None is = refl
  put_off_same (Some x) is = by_step x.step
    where
      by_step : (step : Step) → deferred_begin (with_entry h y) s x.moment step ≡ deferred_begin h s x.moment step
      by_step (Deferred who begin) = ap Some (document_with h y s begin x.moment is)
      by_step _ = refl

  put_off_step : (o : Option Entry) → IsHeld o → put_off (with_entry h y) (defer o y) ≡ shown_deferred_after h s y.moment (put_off h o) y.step
  put_off_step o is = by_step y.step refl
    where
      same : put_off (with_entry h y) o ≡ put_off h o
      same = put_off_same o is

      none : (t : Bool) → put_off (with_entry h y) (cond t None o) ≡ cond t None (put_off h o)
      none t = chosen (put_off (with_entry h y)) (λ v. v) t _ _ _ _ refl same

      some : (who : ℕ) (begin : ℤ) (t : Bool) → y.step ≡ Deferred who begin → put_off (with_entry h y) (cond t (Some y) o) ≡ cond t (Some (to_document h s begin y.moment)) (put_off h o)
      some who begin t e = chosen (put_off (with_entry h y)) (λ v. v) t _ _ _ _ (ap (deferred_begin (with_entry h y) s y.moment) e ∙ ap Some (document_with h y s begin y.moment (le_self y.moment))) same

      by_step : (step : Step) → y.step ≡ step → put_off (with_entry h y) (deferral_after s y o step) ≡ shown_deferred_after h s y.moment (put_off h o) step
      by_step (Began who begin) e = none (who == s)
      by_step (Ended who end') e = none (who == s)
      by_step (Cut who) e = none (who == s)
      by_step (Passed who begin) e = none (who == s)
      by_step (Deferred who begin) e = some who begin (who == s) e
      by_step _ e = same

  -- whether the element is alive changes with a birth and with an end of the time parent
  abbrev death_now : Bool
  death_now = is_death_under (time_parent h.nodes s) y.step

  dies : death_now ≡ true → is_alive (with_entry h y) s ≡ false
  dies q = under (time_parent h.nodes s) q
    where
      ended : (p : Node) (a : Bool) (step : Step) → is_death_under (Some p) step ≡ true → active_after p.serial a step ≡ false
      ended p a (Ended who end') r = ap (λ t. cond t false a) r
      ended p a (Cut who) r = ap (λ t. cond t false a) r
      ended p a _ r = cc

      under : (o : Option Node) → is_death_under o y.step ≡ true → lives_under o (h.diary ++ y ∷ []) ≡ false
      under None r = cc
      under (Some p) r = active_push h.diary y p.serial ∙ ended p (is_active h.diary p.serial) y.step r

  lives_on : birth_now ≡ false → death_now ≡ false → is_alive (with_entry h y) s ≡ is_alive h s
  lives_on q r = under (time_parent h.nodes s) q r
    where
      stays : (p : Node) (a : Bool) (step : Step) → is_birth_under (Some p) step ≡ false → is_death_under (Some p) step ≡ false → active_after p.serial a step ≡ a
      stays p a (Ended who end') u v = ap (λ t. cond t false a) v
      stays p a (Cut who) u v = ap (λ t. cond t false a) v
      stays p a (Began who begin) u v = ap (λ t. t || a) u
      stays p a _ u v = refl

      under : (o : Option Node) → is_birth_under o y.step ≡ false → is_death_under o y.step ≡ false → lives_under o (h.diary ++ y ∷ []) ≡ lives_under o h.diary
      under None u v = refl
      under (Some p) u v = active_push h.diary y p.serial ∙ stays p (is_active h.diary p.serial) y.step u v

  deferred_is : put_off (with_entry h y) (deferral (with_entry h y) s) ≡ none_if (birth_now || death_now) (shown_deferred_after h s y.moment (put_off h (deferral h s)) y.step)
  deferred_is = by_birth birth_now refl
    where
      on : (t : Bool) → is_alive h s ≡ t → put_off (with_entry h y) (cond t (defer held y) None) ≡ shown_deferred_after h s y.moment (put_off h (cond t held None)) y.step
      on true e = put_off_step held is_held
      on false e = sym (ap (put_off (with_entry h y)) (dead_defers e)) ∙ put_off_step None tt

      by_death : birth_now ≡ false → (t : Bool) → death_now ≡ t → put_off (with_entry h y) (deferral (with_entry h y) s) ≡ none_if t (shown_deferred_after h s y.moment (put_off h (deferral h s)) y.step)
      by_death q true r = ap (λ a. put_off (with_entry h y) (cond a (fold defer None (since_birth (with_entry h y) s)) None)) (dies r)
      by_death q false r =
          ap (λ a. put_off (with_entry h y) (cond a (fold defer None (since_birth (with_entry h y) s)) None)) (lives_on q r)
          ∙ ap (λ o. put_off (with_entry h y) (cond (is_alive h s) o None)) (since_miss h y s defer None q dead_defers)
          ∙ on (is_alive h s) refl

      by_birth : (t : Bool) → birth_now ≡ t → put_off (with_entry h y) (deferral (with_entry h y) s) ≡ none_if (t || death_now) (shown_deferred_after h s y.moment (put_off h (deferral h s)) y.step)
      by_birth true q =
          ap (λ ds. put_off (with_entry h y) (cond (is_alive (with_entry h y) s) (fold defer None ds) None)) (since_hit h y s q)
          ∙ ap (put_off (with_entry h y)) (same_choice (is_alive (with_entry h y) s) None)
      by_birth false q = by_death q death_now refl

  -- ---- iterations and finished intervals since birth

  abbrev count : Option ℕ → Entry → Option ℕ
  count before x = iteration_after s before x.step

  abbrev counted : Option ℕ
  counted = fold count None (since_birth h s)

  began_dead : is_alive h s ≡ false → iteration_after s None y.step ≡ None
  began_dead dead = by_step y.step (lawful_last h y lawful)
    where
      by_own : (who : ℕ) (t : Bool) → who == s ≡ t → (who == s ≡ true → is_alive h s ≡ true) → cond {A = Option ℕ} t (Some 0) None ≡ None
      by_own who true e own = let never : true ≡ false = sym (own e) ∙ dead in cc
      by_own who false e own = refl

      by_step : (step : Step) → is_lawful_step h step ≡ true → iteration_after s None step ≡ None
      by_step (Began who begin) q = by_own who (who == s) refl (own_alive h y s who q)
      by_step (Repeated who start) q = same_choice (who == s) None
      by_step _ q = refl

  counted_is : fold count None (since_birth (with_entry h y) s) ≡ none_if birth_now (iteration_after s counted y.step)
  counted_is = by_birth birth_now refl
    where
      by_birth : (t : Bool) → birth_now ≡ t → fold count None (since_birth (with_entry h y) s) ≡ none_if t (iteration_after s counted y.step)
      by_birth true q = ap (fold count None) (since_hit h y s q)
      by_birth false q = since_miss h y s count None q began_dead

  number_is : number (fold count None (since_birth (with_entry h y) s)) ≡ zero_if birth_now (number_after s (is_some counted) (number counted) y.step)
  number_is = ap number counted_is ∙ by_birth birth_now
    where
      by_birth : (t : Bool) → number (none_if t (iteration_after s counted y.step)) ≡ zero_if t (number_after s (is_some counted) (number counted) y.step)
      by_birth true = refl
      by_birth false = number_step s counted y.step (number_few h s few)

  has_begun : is_some (fold count None (since_birth (with_entry h y) s)) ≡ (not birth_now && has_begun_after s (is_some counted) y.step)
  has_begun = ap is_some counted_is ∙ by_birth birth_now
    where
      by_birth : (t : Bool) → is_some (none_if t (iteration_after s counted y.step)) ≡ (not t && has_begun_after s (is_some counted) y.step)
      by_birth true = refl
      by_birth false = begun_counted s counted y.step

  finished_count : length (plays (with_entry h y) s).finished ≡ zero_if birth_now (finished_after (interval_finished_by h s y.moment (option_map value_of (plays h s).present) (present_begin h s) y.step) (length (plays h s).finished))
  finished_count =
      ap (λ fs. length fs) finished_is ∙ by_birth birth_now
      ∙ ap (λ o. zero_if birth_now (finished_after (interval_finished_by h s y.moment (option_map value_of (plays h s).present) o y.step) (length (plays h s).finished))) (sym (shown_of h apart))
    where
      by_birth : (t : Bool) → length (cond t [] after.finished) ≡ zero_if t (finished_after (interval_finished_by h s y.moment (option_map value_of (plays h s).present) (option_map (document_value h s) (plays h s).present) y.step) (length (plays h s).finished))
      by_birth true = refl
      by_birth false = count_step h s y.moment (plays h s) y.step (count_few h s few)

  -- ---- all of it

  pub played_with : played (with_entry h y) s ≡ row_after h y s (played h s)
  played_with =
      let a = begun_is in
      let b = shown_is in
      let c = start_is in
      let d = iteration_is in
      let e = first_is in
      let f = last_is in
      let g = deferred_is in
      let i = passed_is in
      let j = media_is in
      let k = paused_is h y s lawful in
      let l = number_is in
      let m = finished_count in
      let n = has_begun in
      cc
