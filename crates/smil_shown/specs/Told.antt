-- What is told of views and of nodes.
use Rattle.std.specs.Prelude.{ℕ, ℤ, List}
use Rattle.smil_model.specs.declared.document.Node.{Node}
use Rattle.smil_model.specs.declared.view.View.{View}
use Rattle.smil_model.specs.shown.Orders.{at_moment, changed, gone_from}
use Rattle.smil_report.specs.Tellings.{Telling, changes_told, nodes_gone}

module _ {Item : Type 0} (telling : Telling Item) where
  -- what is told of views at a moment
  abbrev pub views_told : List Node → ℕ → List View → List Item
  views_told nodes moment views = changes_told telling nodes (at_moment moment views)

  -- of the views that differ from those before
  abbrev pub told_between : List Node → ℕ → List View → List View → List Item
  told_between nodes moment before after = views_told nodes moment (changed before after)

  -- of the elements that another document doesn't have
  abbrev pub told_gone : List Node → ℤ → List Node → List Item
  told_gone after moment before = nodes_gone telling moment (gone_from after before)
