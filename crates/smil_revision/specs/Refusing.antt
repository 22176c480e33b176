-- Faults, as refusals of orders.
use Rattle.std.specs.Prelude.{ℕ, ◌+◌, ◌≤◌, Result, Ok, Err}
use Rattle.smil_model.specs.declared.limits.TheConstants.{TEXT_BYTES}
use Rattle.smil_model.specs.declared.order.Refusal.{Refusal}
use Rattle.smil_model.specs.declared.order.Refusal.TheVariants as refusal
use Rattle.smil_grammar.specs.declared.fault.AttrFault.{AttrFault}
use Rattle.smil_grammar.specs.declared.fault.AttrFault.TheVariants as attr_fault
use Rattle.smil_grammar.specs.declared.fault.NodeFault.{NodeFault}
use Rattle.smil_grammar.specs.declared.fault.NodeFault.TheVariants as node_fault
use Rattle.smil_tree.specs.declared.fault.TreeFault.{TreeFault}
use Rattle.smil_tree.specs.Refusals.{of_tree}

-- an outcome, with its fault as the refusal
abbrev pub of_outcome : {A : Type 0} → Result A TreeFault → Result A Refusal
of_outcome (Ok x) = Ok x
of_outcome (Err fault) = Err (of_tree fault)

-- ---- values and node lines

-- the fault of an attribute whose name and value begin at these columns
abbrev pub of_value : ℕ → ℕ → AttrFault → Refusal
of_value name_column column attr_fault.UnknownAttribute = refusal.UnknownAttribute name_column
of_value name_column column attr_fault.UnsupportedName = refusal.Unsupported name_column
of_value name_column column (attr_fault.UnsupportedValue place) =
    refusal.Unsupported (column + place)
of_value name_column column (attr_fault.BadValue place) = refusal.BadValue (column + place)
of_value name_column column attr_fault.TooManyItems = refusal.TooManyItems column
of_value name_column column attr_fault.Memory = refusal.Memory

-- the place of a fault stands in the text of an order, or at its end
abbrev pub IsPlaced : AttrFault → Type 0
IsPlaced (attr_fault.UnsupportedValue place) = place ≤ TEXT_BYTES
IsPlaced (attr_fault.BadValue place) = place ≤ TEXT_BYTES
IsPlaced _ = Unit {0}

-- the column of a fault stands in the node line of an order, or just behind it
abbrev pub IsInText : NodeFault → Type 0
IsInText (node_fault.Unsupported column) = column ≤ TEXT_BYTES + 1
IsInText (node_fault.UnknownAttribute column) = column ≤ TEXT_BYTES + 1
IsInText (node_fault.BadValue column) = column ≤ TEXT_BYTES + 1
IsInText (node_fault.TooManyItems column) = column ≤ TEXT_BYTES + 1
IsInText _ = Unit {0}
