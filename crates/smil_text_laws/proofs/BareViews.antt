-- The views of a presentation: the same without the plain texts.
use Rattle.std.proofs.Common.{◌≡◌, refl, ◌∙◌, ap, ℕ, List, [], ◌∷◌, ◌++◌, length, Option, Some, None, ℤ, Bool, true, false}
use Rattle.std.specs.Prelude.{cond, not, ◌==◌, ◌&&◌, ◌||◌, drop, filter, fold, map, option_to_list, pos, ◌-ℤ◌, option_map, option_and_then}
use Rattle.std.specs.List.{list_any}
use Rattle.smil_model.specs.declared.diary.Entry.{Entry}
use Rattle.smil_model.specs.declared.diary.Step.{Step}
use Rattle.smil_model.specs.declared.diary.Step.TheVariants.{Began, Resumed, Deferred}
use Rattle.smil_model.specs.declared.interval.Interval.{Interval}
use Rattle.smil_model.specs.declared.document.Node.{Node}
use Rattle.smil_model.specs.document.Document.{is_element, elements, lineage, has_serial, time_parent, previous_in_seq}
use Rattle.smil_model.specs.diary.Diary.{History, is_active, is_paused}
use Rattle.smil_model.specs.diary.Plays.{PlayEdge, Plays, FinishedInterval}
use Rattle.smil_model.specs.interval.Current.{in_table, current_table}
use Rattle.smil_model.specs.shown.Views.{is_frozen_by, view_by, since_finish, is_sibling, sets_off_sibling, begins_next, is_displaced, document_value, deferred_begin, was_cut, present_begin, view_facts, is_frozen_under, shows_under, is_frozen_in, time_ancestors, view_of, views, shown_time, shown_or}
use Rattle.smil_model.specs.declared.view.Shown.TheVariants as shown
use Rattle.smil_model.specs.declared.view.How.TheVariants as how
use Rattle.smil_model.specs.shown.Histories.{all_plays, told_finished, told_present, intervals_of}
use Rattle.smil_text_laws.specs.PlainTexts.{without_texts, bare}
use Rattle.smil_text_laws.proofs.BareLists.{filter_mapped, map_mapped, drop_mapped}
use Rattle.smil_text_laws.proofs.BareDocuments.{elements_bare, lineage_bare, previous_bare, seq_same, excl_same, fill_same, serial_same, under_same}
use Rattle.smil_text_laws.proofs.BareHistories.{bare_of, since_same, deferral_same, deferred_same, iteration_same, outer_same, outer_stands_same, to_document_same, play_after_same, plays_same, last_finished_same}
use Rattle.smil_text_laws.proofs.BareIntervals.{current_table_same, current_same}

-- ---- what displaces a frozen element

module _ (ns : List Node) (s : ℕ) where
  sibling_same : (other : ℕ) → is_sibling (bare ns) (time_parent (bare ns) s) s other ≡ is_sibling ns (time_parent ns s) s other
  sibling_same other =
      under_same (λ o. is_sibling (bare ns) o s other) (λ o. is_sibling ns o s other) refl
      (λ p. ap (λ t. not (other == s) && t) (under_same (has_serial p.serial) (has_serial p.serial) refl (λ q. refl) ns other)) ns s

  sets_off_same : (step : Step) → sets_off_sibling (bare ns) s step ≡ sets_off_sibling ns s step
  sets_off_same (Began who begin) = sibling_same who
  sets_off_same (Resumed who) = sibling_same who
  sets_off_same _ = refl

  begins_next_same : (step : Step) → begins_next (bare ns) s step ≡ begins_next ns s step
  begins_next_same (Began who begin) = ap (has_serial s) (previous_bare ns who) ∙ serial_same s (previous_in_seq ns who)
  begins_next_same _ = refl

module _ (h : History) where
  displaced_same : (s : ℕ) → is_displaced (bare_of h) s ≡ is_displaced h s
  displaced_same s =
      λ i. ((seq_same h.nodes s i || excl_same h.nodes s i) && list_any (λ (x : Entry). sets_off_same h.nodes s x.step i) (since_finish h.diary s))
      || (seq_same h.nodes s i && list_any (λ (x : Entry). begins_next_same h.nodes s x.step i) (since_same h s i))

  -- ---- the facts

  value_same : (s : ℕ) (mark : PlayEdge) → document_value (bare_of h) s mark ≡ document_value h s mark
  value_same s mark = to_document_same h s mark.value mark.moment

  deferred_begin_same : (s : ℕ) (moment : ℤ) (step : Step) → deferred_begin (bare_of h) s moment step ≡ deferred_begin h s moment step
  deferred_begin_same s moment (Deferred who begin) = ap Some (to_document_same h s begin moment)
  deferred_begin_same s moment _ = refl

  present_begin_same : (s : ℕ) → present_begin (bare_of h) s ≡ present_begin h s
  present_begin_same s = λ i. cond (is_active h.diary s) (option_map (λ mark. value_same s mark i) (plays_same h s i).present) None

  facts_same : (now : ℤ) (interval : Option Interval) (shows frozen : Bool) (e : Node) → view_facts (bare_of h) now interval shows frozen (without_texts e) ≡ view_facts h now interval shows frozen e
  facts_same now interval shows frozen e =
      λ i. record {
        serial = e.serial;
        active = is_active h.diary e.serial;
        paused = is_paused h.diary e.serial;
        deferred = option_and_then (λ (x : Entry). deferred_begin_same e.serial x.moment x.step i) (deferral_same h e.serial i);
        interval = interval;
        begun = present_begin_same e.serial i;
        last = option_map (λ (f : FinishedInterval). (value_same e.serial f.begin i, value_same e.serial f.finish i)) (last_finished_same h e.serial i);
        cut = was_cut (last_finished_same h e.serial i);
        fill = fill_same h.nodes e i;
        displaced = displaced_same e.serial i;
        parent_shows = shows;
        parent_frozen = frozen;
        standing = outer_stands_same h e.serial i;
        shift = now -ℤ outer_same h e.serial now i;
        iteration = iteration_same h e.serial i;
        finished = length (plays_same h e.serial i).finished;
      }

  frozen_under_same : (shows frozen : Bool) (e : Node) → is_frozen_under (bare_of h) shows frozen (without_texts e) ≡ is_frozen_under h shows frozen e
  frozen_under_same shows frozen e =
      λ i. not (is_active h.diary e.serial) && not (deferred_same h e.serial i) && is_frozen_by (facts_same (pos 0) None shows frozen e i)

  shows_same : (frozen : Bool) (ps : List Node) → shows_under (bare_of h) frozen (bare ps) ≡ shows_under h frozen ps
  shows_same frozen [] = refl
  shows_same frozen (p ∷ ps) = refl

  frozen_same : (es : List Node) → is_frozen_in (bare_of h) (bare es) ≡ is_frozen_in h es
  frozen_same [] = refl
  frozen_same (e ∷ parents) = step (frozen_same parents)
    where
      step : is_frozen_in (bare_of h) (bare parents) ≡ is_frozen_in h parents → is_frozen_in (bare_of h) (bare (e ∷ parents)) ≡ is_frozen_in h (e ∷ parents)
      step r =
          ap (λ above. is_frozen_under (bare_of h) (shows_under (bare_of h) above (bare parents)) above (without_texts e)) r
          ∙ ap (λ shows. is_frozen_under (bare_of h) shows (is_frozen_in h parents) (without_texts e)) (shows_same (is_frozen_in h parents) parents)
          ∙ frozen_under_same (shows_under h (is_frozen_in h parents) parents) (is_frozen_in h parents) e

  above_bare : (s : ℕ) → time_ancestors (bare h.nodes) s ≡ bare (time_ancestors h.nodes s)
  above_bare s =
      ap (λ ms. drop 1 (filter is_element ms)) (lineage_bare h.nodes s)
      ∙ ap (drop 1) (filter_mapped without_texts is_element is_element (λ n. refl) (lineage h.nodes s))
      ∙ drop_mapped without_texts 1 (filter is_element (lineage h.nodes s))

  -- ---- the views

  pub view_same : (now : ℤ) (intervals : ℕ → Option Interval) (e : Node) → view_of (bare_of h) now intervals (without_texts e) ≡ view_of h now intervals e
  view_same now intervals e = λ i. view_by (facts_same now (intervals e.serial) (shows i) (frozen i) e i)
    where
      frozen : is_frozen_in (bare_of h) (time_ancestors (bare h.nodes) e.serial) ≡ is_frozen_in h (time_ancestors h.nodes e.serial)
      frozen = ap (is_frozen_in (bare_of h)) (above_bare e.serial) ∙ frozen_same (time_ancestors h.nodes e.serial)

      shows : shows_under (bare_of h) (is_frozen_in (bare_of h) (time_ancestors (bare h.nodes) e.serial)) (time_ancestors (bare h.nodes) e.serial) ≡ shows_under h (is_frozen_in h (time_ancestors h.nodes e.serial)) (time_ancestors h.nodes e.serial)
      shows = (λ i. shows_under (bare_of h) (frozen i) (above_bare e.serial i)) ∙ shows_same (is_frozen_in h (time_ancestors h.nodes e.serial)) (time_ancestors h.nodes e.serial)

  pub views_same : (now : ℤ) → views (bare_of h) now ≡ views h now
  views_same now =
      (λ i. map (view_of (bare_of h) now (in_table (current_table_same h now i))) (elements_bare h.nodes i))
      ∙ map_mapped without_texts (view_of (bare_of h) now (in_table (current_table h now))) (view_of h now (in_table (current_table h now))) (view_same now (in_table (current_table h now))) (elements h.nodes)

  -- ---- the intervals that the order `history` lists

  all_plays_same : (s : ℕ) → all_plays (bare_of h) s ≡ all_plays h s
  all_plays_same s = λ i. fold (λ (so_far : Plays) (x : Entry). play_after_same h s x.moment so_far x.step i) (record { present = None; finished = [] }) h.diary

  told_same : (s : ℕ) (f : FinishedInterval) → told_finished (bare_of h) s f ≡ told_finished h s f
  told_same s f =
      λ i. record {
        begin = shown.At (value_same s f.begin i);
        finish = shown.At (value_same s f.finish i);
        how = cond f.was_cut how.Cut how.Ended;
      }

  present_same : (now : ℤ) (e : Node) (begin : PlayEdge) → told_present (bare_of h) now (without_texts e) begin ≡ told_present h now e begin
  present_same now e begin =
      λ i. record {
        begin = shown.At (value_same e.serial begin i);
        finish = shown_or (λ (found : Interval). shown_time (facts_same now None true false e i) found.«end») (current_same h now e.serial i);
        how = how.Playing;
      }

  pub listed_same : (now : ℤ) (e : Node) → intervals_of (bare_of h) now (without_texts e) ≡ intervals_of h now e
  listed_same now e =
      λ i. map (λ f. told_same e.serial f i) (all_plays_same e.serial i).finished
      ++ option_to_list (option_map (λ begin. present_same now e begin i) (all_plays_same e.serial i).present)
