-- What a presentation keeps: cells that are settled, with the views of all elements.
use Rattle.std.specs.Prelude.{◌≡◌, List, None, pos}
use Rattle.smil_model.specs.declared.view.View.{View}
use Rattle.smil_model.specs.shown.Orders.{IsState}
use Rattle.smil_model.specs.shown.Views.{views}
use Rattle.smil_cells.specs.CellsState.{CellsState, IsSettled, history_of}

-- the views of all elements by the diary so far
abbrev pub views_at : CellsState → List View
views_at s = views (history_of s) (pos s.presentation.now)

-- cells that answer no refusal, and the views that they give
pub record IsShown (s : CellsState) (shown : List View) : Type 0 where
  pub state : IsState s.presentation
  pub sound : s.fault ≡ None
  pub settled : IsSettled s
  pub views_are : shown ≡ views_at s

-- a presentation between two orders: no mark stands
pub record IsPlaying (s : CellsState) (shown : List View) : Type 0 where
  pub shown_is : IsShown s shown
  pub unmarked : s.marked ≡ None
