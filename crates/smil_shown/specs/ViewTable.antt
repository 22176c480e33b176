-- Views of elements.
use Rattle.std.specs.Prelude.{◌≡◌, ℕ, pos, List, [], ◌∷◌, ◌==◌, All, IsSome, map, Bool, false, not, Option, if◌then◌else◌}
use Rattle.std.specs.List.{list_any, position}
use Rattle.smil_model.specs.declared.document.Node.{Node}
use Rattle.smil_model.specs.declared.view.View.{View}
use Rattle.smil_model.specs.document.Document.{node_at}
use Rattle.smil_model.specs.shown.Orders.{view_eq, view_before}
use Rattle.smil_model.specs.shown.Views.{blank}
use Rattle.smil_laws.specs.Same.{view_at}
use Rattle.smil_cells.specs.CellsState.{CellsState, history_of}

-- the view of an element by the diary so far
abbrev pub view_now : CellsState → Node → View
view_now s e = view_at (history_of s) (pos s.presentation.now) e

-- a view in the place of that of the same element
abbrev pub put_in : List View → View → List View
put_in views view = map (λ (v : View). if v.serial == view.serial then view else v) views

-- whose views these are
abbrev pub owners : List View → List ℕ
owners views = map (λ (v : View). v.serial) views

-- the view of an element, blank where it is not there
abbrev pub view_in : List View → ℕ → View
view_in views serial = view_before views (blank serial)

-- whether an element has a view among these
abbrev pub has_view : List View → ℕ → Bool
has_view views serial = list_any (λ (v : View). v.serial == serial) views

-- no element has two views
abbrev pub AreOne : List View → Type 0
AreOne [] = Unit {0}
AreOne (view ∷ views) = (has_view views view.serial ≡ false) × AreOne views

-- the table tells the place of the view of each element that has one, and no element has two
pub record AreAt (places : ℕ → Option ℕ) (views : List View) : Type 0 where
  pub place : (serial : ℕ) → places serial ≡ position (λ (v : View). v.serial == serial) views
  pub one : AreOne views

-- each view is that of a node
abbrev pub AreOf : List Node → List View → Type 0
AreOf nodes views = All (λ (v : View). IsSome (node_at nodes v.serial)) views

-- whether a view differs from that of the same element
abbrev pub differs : List View → View → Bool
differs views view = not (view_eq view (view_in views view.serial))
