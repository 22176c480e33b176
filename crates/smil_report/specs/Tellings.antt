-- How changes are told: as lines of text, or as records.
use Rattle.std.specs.Prelude.{ℕ, ℤ, pos, List, ◌++◌, take, length, flat_map, ◌≡◌, Bool, true, false, Ok}
use Rattle.smil_model.specs.declared.document.Node.{Node}
use Rattle.smil_model.specs.declared.order.Order.{Order}
use Rattle.smil_model.specs.declared.order.Order.TheVariants as order
use Rattle.smil_model.specs.declared.order.Who.{Who}
use Rattle.smil_model.specs.declared.view.View.{View}
use Rattle.smil_model.specs.shown.Answers.{name_in}
use Rattle.smil_model.specs.shown.Lines.{change_line, gone_line, name_of}
use Rattle.smil_model.specs.shown.Orders.{Formats, Presentation, changes_of, changes_of_load, gone_elements, outcome}

-- where memory runs out, what was told before stays at the front
abbrev pub Begins : {Item : Type 0} → List Item → List Item → Type 0
Begins front told = take (length front) told ≡ front

-- an order that only tells something, and changes nothing
abbrev pub is_telling : Order → Bool
is_telling order.Show = true
is_telling (order.History who) = true
is_telling order.Text = true
is_telling order.Save = true
is_telling order.Diary = true
is_telling order.Values = true
is_telling (order.Stack who name) = true
is_telling _ = false

-- what is told, by items, of a changed view at a moment, and of an element that is gone, by its
-- serial
pub record Telling (Item : Type 0) : Type 0 where
  pub change : ℤ → Who → View → List Item
  pub gone : ℤ → Who → ℕ → List Item

-- the bytes of their lines
abbrev pub as_text : Telling ℕ
as_text = record { change = change_line; gone = λ moment name serial. gone_line moment name }

module _ {Item : Type 0} (telling : Telling Item) where
  -- a change among nodes
  abbrev pub change_told : List Node → ℕ × View → List Item
  change_told nodes change =
      telling.change (pos change.0) (name_in nodes (change.1).serial) change.1

  abbrev pub changes_told : List Node → List (ℕ × View) → List Item
  changes_told nodes changes = flat_map (change_told nodes) changes

  -- nodes that are gone
  abbrev pub nodes_gone : ℤ → List Node → List Item
  nodes_gone moment nodes =
      flat_map (λ (n : Node). telling.gone moment (name_of n) n.serial) nodes

  -- the elements that are gone from one presentation to another
  abbrev pub gone_told : Presentation → Presentation → List Item
  gone_told before after = nodes_gone (pos after.now) (gone_elements before after)

  -- what a load tells
  abbrev pub load_told : Presentation → List Item
  load_told loaded = changes_told loaded.document.nodes (changes_of_load loaded)

  -- what an order that may change something tells: the elements that are gone, then the changes
  abbrev pub order_told : Presentation → Presentation → Order → List Item
  order_told before after given =
      gone_told before after ++ changes_told after.document.nodes (changes_of before after given)

  -- an accepted order gives this state, and this is told
  pub record Tells (formats : Formats) (before after : Presentation) (given : Order)
      (told : List Item) : Type 0 where
    pub state : outcome formats before given ≡ Ok after
    pub answer : told ≡ order_told before after given
