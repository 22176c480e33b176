-- Moves: what is shown behind one and told of it, and a presentation that goes on by one or back
-- from it.
use Rattle.std.proofs.Common.{◌≡◌, refl, sym, ◌∙◌, ap, subst, List, ◌++◌, Some, None}
use Rattle.std.specs.Prelude.{Result, Ok, Err, OnOk}
use Rattle.smil_model.specs.declared.diary.Entry.{Entry}
use Rattle.smil_model.specs.declared.view.View.{View}
use Rattle.smil_model.specs.document.Document.{Document}
use Rattle.smil_model.specs.shown.Orders.{IsState, Presentation, changes_between, views_of}
use Rattle.smil_report.specs.Tellings.{Telling}
use Rattle.smil_cells.specs.Standings.{at_mark}
use Rattle.smil_cells.specs.CellsState.{IsSettled, CellsState}
use Rattle.smil_shown.specs.Sets.{AreOfElements}
use Rattle.smil_shown.specs.ShownViews.{IsPlaying, IsShown, views_at}
use Rattle.smil_shown.specs.ViewTable.{owners}
use Rattle.smil_shown.proofs.AllViews.{of_elements}
use Rattle.smil_live.specs.Moves.{IsShownAt, told_of}
use Rattle.smil_shown.specs.Told.{told_between}
use Rattle.smil_live.proofs.SettledCells.{views_settled}

-- ---- behind a move

pub shown_behind : {A E : Type 0} (r : Result A E) (p : Presentation) (s : CellsState) (shown : List View) → s.presentation ≡ p → IsState s.presentation → s.fault ≡ None → IsSettled s
    → OnOk r (shown ≡ views_at s) → OnOk r (IsShownAt p s shown)
shown_behind (Err e) p s shown is state sound settled views = tt
shown_behind (Ok x) p s shown is state sound settled views = record {
  presentation_is = is;
  shown_is = record { state = state; sound = sound; settled = settled; views_are = views };
}

module _ {I : Type 0} (tell : Telling I) where
  same_told : (old new : CellsState) (p : Presentation) (first : List View) → new.presentation ≡ p → p.document ≡ old.presentation.document → first ≡ views_at old → IsSettled old → IsSettled new
      → told_between tell new.presentation.document.nodes new.presentation.now first (views_at new) ≡ told_of tell old.presentation (changes_between old.presentation p)
  same_told old new p first is document views was settled =
      ap (λ (vs : List View). told_between tell new.presentation.document.nodes new.presentation.now vs (views_at new)) (views ∙ views_settled old was)
      ∙ (ap (λ (vs : List View). told_between tell new.presentation.document.nodes new.presentation.now (views_of old.presentation) vs) (views_settled new settled)
      ∙ (ap (λ (q : Presentation). told_between tell q.document.nodes q.now (views_of old.presentation) (views_of q)) is
      ∙ ap (λ (d : Document). told_between tell d.nodes p.now (views_of old.presentation) (views_of p)) document))

  pub told_behind : {A E : Type 0} (r : Result A E) (old new : CellsState) (p : Presentation) (first : List View) (out out' : List I) → new.presentation ≡ p → p.document ≡ old.presentation.document
      → first ≡ views_at old → IsSettled old → IsSettled new
      → OnOk r (out' ≡ out ++ told_between tell new.presentation.document.nodes new.presentation.now first (views_at new))
      → OnOk r (out' ≡ out ++ told_of tell old.presentation (changes_between old.presentation p))
  told_behind (Err e) old new p first out out' is document views was settled told = tt
  told_behind (Ok x) old new p first out out' is document views was settled told =
      told ∙ ap (λ l. out ++ l) (same_told old new p first is document views was settled)

-- ---- marks

abbrev pub marked_here : CellsState → CellsState
marked_here s = record s { marked = Some (s.presentation, s.diary) }

pub shown_marked : (old marked : CellsState) (shown : List View) → IsShown old shown → marked ≡ marked_here old → IsShown marked shown
shown_marked old marked shown is made =
    subst (λ (s : CellsState). IsShown s shown) (sym made)
    (record { state = is.state; sound = is.sound; settled = is.settled; views_are = is.views_are })

-- a move that was made
pub plays_on : (p : Presentation) (s after : CellsState) (shown : List View) → IsShownAt p s shown → after ≡ record s { marked = None } → IsPlaying after shown
plays_on p s after shown is forgotten =
    subst (λ (t : CellsState). IsPlaying t shown) (sym forgotten)
    (record {
      shown_is = record {
        state = (is.shown_is).state;
        sound = (is.shown_is).sound;
        settled = (is.shown_is).settled;
        views_are = (is.shown_is).views_are;
      };
      unmarked = refl;
    })

-- ---- a move that was refused

module _ (old marked gone back : CellsState) (shown seen : List View) (was : IsPlaying old shown) (made : marked ≡ marked_here old) (kept : gone.marked ≡ marked.marked)
    (undone : (mark : Presentation × List Entry) → gone.marked ≡ Some mark → back ≡ at_mark gone.touched mark) where
  -- the cells are those of before, but for what they touched
  pub back_is : back ≡ at_mark gone.touched (old.presentation, old.diary)
  back_is = undone (old.presentation, old.diary) (kept ∙ ap (λ (s : CellsState). s.marked) made)

  pub sound_again : back.fault ≡ None
  sound_again = ap (λ (s : CellsState). s.fault) back_is

  pub state_again : IsState back.presentation
  state_again = subst (λ (s : CellsState). IsState s.presentation) (sym back_is) was.shown_is.state

  pub settled_again : IsSettled back
  settled_again = subst IsSettled (sym back_is) was.shown_is.settled

  -- the views are still of all elements
  pub owned_again : owners seen ≡ owners shown → AreOfElements back.presentation.document.nodes seen
  owned_again same =
      same
      ∙ subst (λ (s : CellsState). AreOfElements s.presentation.document.nodes shown) (sym back_is)
      (of_elements old old.presentation.document shown refl was.shown_is.views_are)

  pub plays_again : (again : List View) → again ≡ views_at back → IsPlaying back again
  plays_again again is = record {
    shown_is = record { state = state_again; sound = sound_again; settled = settled_again; views_are = is };
    unmarked = ap (λ (s : CellsState). s.marked) back_is;
  }
