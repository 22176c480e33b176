-- What the worked presentations are written with.
use Rattle.std.specs.Prelude.{ℕ, pos, List, [], ◌∷◌, codes}
use Rattle.smil_model.specs.declared.diary.Happening.TheVariants as happening
use Rattle.smil_model.specs.declared.view.State.{State}
use Rattle.smil_model.specs.declared.view.Shown.{Shown}
use Rattle.smil_model.specs.declared.view.Shown.TheVariants as shown
use Rattle.smil_model.specs.declared.view.View.{View}
pub use Rattle.smil_model.specs.declared.view.State.TheVariants.{Idle, Waiting, Active, Frozen, Done}
pub use Rattle.smil_model.specs.document.Document.{Document}
pub use Rattle.smil_model.specs.document.Edits.{no_attrs}
pub use Rattle.smil_model.specs.shown.Orders.{Presentation, views_of, changed, changes_through}
pub use Rattle.smil_laws.specs.Image.{node}

-- a document that has played up to a moment, with nothing heard
abbrev pub unheard : Document → ℕ → Presentation
unheard document now = record { document = document; log = []; now = now }

-- one in which an element was clicked on at a moment, at another moment
abbrev pub clicked : Document → ℕ → ℕ → ℕ → Presentation
clicked document who heard now = record {
  document = document;
  log = (record { moment = pos heard; what = happening.Event who (codes "click") }) ∷ [];
  now = now;
}

-- what is shown of a document when it is loaded
abbrev pub first_views : Document → List View
first_views document = changed [] (views_of (unheard document 0))

abbrev pub at : ℕ → Shown
at time = shown.At (pos time)

abbrev pub view : ℕ → State → Shown → Shown → ℕ → ℕ → View
view serial state begin end' iteration finished = record {
  serial = serial;
  state = state;
  begin = begin;
  «end» = end';
  iteration = iteration;
  finished = finished;
}
