-- Orders that edit, and orders that tell.
use Rattle.std.specs.Prelude.{ℕ, List, flat_map, Bool, true, false, not, Result}
use Rattle.smil_model.specs.declared.document.Node.{Node}
use Rattle.smil_model.specs.declared.order.Order.{Order}
use Rattle.smil_model.specs.declared.order.Order.TheVariants as order
use Rattle.smil_model.specs.declared.order.Refusal.{Refusal}
use Rattle.smil_model.specs.declared.order.Refusal.TheVariants as refusal
use Rattle.smil_model.specs.declared.order.Who.{Who}
use Rattle.smil_model.specs.document.Document.{is_element}
use Rattle.smil_model.specs.shown.Answers.{name_in, value_of}
use Rattle.smil_model.specs.shown.Lines.{layer_line}
use Rattle.smil_model.specs.shown.Orders.{Presentation, and_then, found, node_of, unless}

-- the element that an order names
abbrev pub element_named : Presentation → Who → Result Node Refusal
element_named p who =
    and_then (found (node_of p.document.nodes who))
    (λ (n : Node). unless (not (is_element n)) refusal.BadPlace n)

abbrev pub is_edit : Order → Bool
is_edit (order.Set who name value name_column column) = true
is_edit (order.Unset who name column) = true
is_edit (order.Insert who place line column) = true
is_edit (order.Remove who) = true
is_edit _ = false

-- an order that changes nothing, and names no node
abbrev pub is_plain_telling : Order → Bool
is_plain_telling order.Show = true
is_plain_telling order.Text = true
is_plain_telling order.Save = true
is_plain_telling order.Diary = true
is_plain_telling order.Values = true
is_plain_telling _ = false

-- the line of a set of a stack
abbrev pub setter_text : List Node → ℕ → List ℕ
setter_text nodes setter = layer_line (name_in nodes setter) (value_of nodes setter)

-- the lines of a stack
abbrev pub layers_text : List Node → List ℕ → List ℕ
layers_text nodes stack = flat_map (setter_text nodes) stack
