-- Edits of a node by its serial.
use Rattle.std.specs.Prelude.{ℕ, List, Result}
use Rattle.smil_model.specs.declared.document.Node.{Node}
use Rattle.smil_model.specs.declared.order.Refusal.{Refusal}
use Rattle.smil_model.specs.document.Document.{node_at}
use Rattle.smil_model.specs.shown.Orders.{and_then, found}

-- goes on with the node of this serial
abbrev pub at_node : {A : Type 0} → List Node → ℕ → (Node → Result A Refusal) → Result A Refusal
at_node nodes serial next = and_then (found (node_at nodes serial)) next
