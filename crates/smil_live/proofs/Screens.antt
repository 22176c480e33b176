-- What is on the screen of a presentation whose diary is known.
use Rattle.std.proofs.Common.{◌≡◌, ℕ, zero, suc, ◌<◌, List, [], ◌∷◌, Option, Some, None, true, length, map, get_or, refl, ap, sym, ◌∙◌, arith, pos}
use Rattle.std.specs.Prelude.{ℤ, ◌-ℤ◌, is_some, option_map, slice_get}
use Rattle.std.specs.Option.{option_map_or}
use Rattle.std.proofs.lemmas.Option.{slice_get-map}
use Rattle.smil_model.specs.declared.view.View.{View}
use Rattle.smil_model.specs.diary.Clocks.{outer}
use Rattle.smil_model.specs.diary.Diary.{History}
use Rattle.smil_model.specs.diary.Plays.{FinishedInterval, last_finished}
use Rattle.smil_model.specs.diary.Lawful.{has_element}
use Rattle.smil_model.specs.document.Document.{elements, node_at}
use Rattle.smil_model.specs.shown.Orders.{Presentation, resolved_history}
use Rattle.smil_cells.specs.CellsState.{CellsState, history_of}
use Rattle.smil_house.specs.Screen.{on_screen, screen_of, since_finish}
use Rattle.smil_past.specs.declared.plays.facts.PastInterval.{PastInterval}
use Rattle.smil_past.specs.Played.{past_interval}
use Rattle.smil_shown.specs.ShownViews.{IsPlaying}
use Rattle.smil_shown.proofs.AllViews.{element_at, of_elements}
use Rattle.smil_live.proofs.ResolvedHistory.{resolved_is}
use Rattle.smil_live.proofs.ToldAnswers.{kept_views}

abbrev serials_of : List View → List ℕ
serials_of vs = map (λ (v : View). v.serial) vs

-- a view that stands there has a place, and its serial stands there
has_place : (vs : List View) (i : ℕ) (v : View) → slice_get vs i ≡ Some v → i < length (serials_of vs)
has_place [] i v here = absurd cc
has_place (w ∷ ws) zero v here = omega arith
has_place (w ∷ ws) (suc i) v here = let rest : i < length (serials_of ws) = has_place ws i v here in omega (arith, rest)

serial_at : (vs : List View) (i : ℕ) (v : View) → slice_get vs i ≡ Some v → get_or (serials_of vs) i 0 ≡ v.serial
serial_at [] i v here = absurd cc
serial_at (w ∷ ws) zero v here = let same : w ≡ v = cc here in ap (λ (x : View). x.serial) same
serial_at (w ∷ ws) (suc i) v here = serial_at ws i v here

-- what has passed since the last interval finished, by what is kept of it
pub finish_is : (h : History) (s : ℕ) (now : ℤ) (last : PastInterval) → option_map (past_interval h s) (last_finished h s) ≡ Some last → since_finish h s now ≡ outer h s now -ℤ last.finish
finish_is h s now last is = by (last_finished h s) is
  where
    by : (o : Option FinishedInterval) → option_map (past_interval h s) o ≡ Some last → option_map_or (λ (f : FinishedInterval). outer h s now -ℤ f.finish.value) o (pos 0) ≡ outer h s now -ℤ last.finish
    by None is = absurd cc
    by (Some f) is = let same : past_interval h s f ≡ last = cc in ap (λ (p : PastInterval). outer h s now -ℤ p.finish) same

module _ (s : CellsState) (shown : List View) (playing : IsPlaying s shown) where
  -- the element of a view is known
  pub known_at : (vs : List View) (i : ℕ) (v : View) → vs ≡ shown → slice_get vs i ≡ Some v → has_element s.presentation.document.nodes v.serial ≡ true
  known_at vs i v is here =
      let nodes = s.presentation.document.nodes in
      let all = of_elements s s.presentation.document vs refl (is ∙ playing.shown_is.views_are) in
      let e = element_at nodes (serials_of vs) i playing.shown_is.state.document.numbered.distinct all (has_place vs i v here) in
      ap (λ n. is_some (node_at (elements nodes) n)) (sym (serial_at vs i v here)) ∙ ap is_some e.found

  -- what is on the screen of it
  pub screen_at : (p : Presentation) (vs : List View) (i : ℕ) → s.presentation ≡ p → vs ≡ shown →
      slice_get (screen_of p) i ≡ option_map (on_screen (history_of s) (pos s.presentation.now)) (slice_get vs i)
  screen_at p vs i same is =
      ap (λ (q : Presentation). slice_get (screen_of q) i) (sym same)
      ∙ ap (λ (ws : List View). slice_get (map (on_screen (resolved_history s.presentation) (pos s.presentation.now)) ws) i) (sym (kept_views s shown s.presentation vs playing refl is))
      ∙ ap (λ (h : History). slice_get (map (on_screen h (pos s.presentation.now)) vs) i) (resolved_is s.presentation s.diary playing.shown_is.settled)
      ∙ slice_get-map (on_screen (history_of s) (pos s.presentation.now)) vs i
